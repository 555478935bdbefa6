-- a change of the book of a sheet
pub mod Changing
-- values that fit
pub mod Few
-- no second answer, and no second memory
pub mod Once
-- what a host reads off a number
pub mod Hosts
