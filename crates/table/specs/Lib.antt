pub mod Numbers
pub mod Reply
pub mod Checks
