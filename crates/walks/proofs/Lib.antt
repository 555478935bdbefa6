pub mod Promises
pub mod Entries
