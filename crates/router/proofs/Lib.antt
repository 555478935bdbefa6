pub mod Naming
pub mod Telling
pub mod Passing
