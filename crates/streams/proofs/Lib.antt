-- what a failed read means to a program
pub mod Failures
-- what several reads put into the memory
pub mod Filled
