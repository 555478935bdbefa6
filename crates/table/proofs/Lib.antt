pub mod Numbers
pub mod Checks
pub mod Meaning
pub mod Answers
