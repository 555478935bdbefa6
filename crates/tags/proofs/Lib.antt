pub mod Promises
pub mod Entries
pub mod Exactly
