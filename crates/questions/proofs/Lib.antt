-- what the functions' proofs lean on
pub mod Testing
pub mod Answers
-- what the entries check, say and leave
pub mod Entries
-- no second answer
pub mod Once
