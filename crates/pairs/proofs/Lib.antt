-- what the definitions say: which lengths pass, no second answer and no second memory
pub mod Pairs
-- how the functions meet their promises
pub mod Promises
