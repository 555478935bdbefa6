pub mod Rooms
pub mod Answers
