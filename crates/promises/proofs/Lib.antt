-- the answer of a route, computed
pub mod Found
-- the thirteen examples
pub mod Examples
-- route and walk agree
pub mod Walks
-- demand 3, over routes, over the numbers that are named, over every entry, and for the run of a sheet
pub mod Clearness
pub mod Numbers
pub mod DeadCards
pub mod DemandThree
pub mod Sheets
-- some controller meets the demands, none of a worthless kind does, there are controllers of each kind, and two kinds are as wide as their words
pub mod Keeping
pub mod Worthless
pub mod Idle
pub mod Wide
