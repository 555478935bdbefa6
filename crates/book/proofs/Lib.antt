-- what the functions' proofs lean on
pub mod Filings
pub mod Sounds
pub mod Placing
pub mod Answers
-- what stops a link
pub mod Stoppers
-- which notices a route counts
pub mod Counted
-- what the entries check, say and leave
pub mod Entries
-- no second answer
pub mod Once
