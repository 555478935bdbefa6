pub mod Once
pub mod Alike
pub mod Numbers
pub mod Entries
pub mod Choices
