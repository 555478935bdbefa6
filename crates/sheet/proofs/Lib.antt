-- what the definitions say
pub mod Meanings
-- how the entries meet their promises
pub mod Promises
-- no second answer, and what is written is what is read
pub mod Sheets
-- each answer exactly where docs/RULES.md gives it
pub mod Exactly
-- and what is left of a sheet that was cut short
pub mod Cuts
