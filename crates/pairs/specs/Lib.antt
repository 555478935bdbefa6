pub mod Answered
pub mod Pairs
