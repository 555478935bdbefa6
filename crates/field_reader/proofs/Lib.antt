-- how the functions meet their promises
pub mod Writing
