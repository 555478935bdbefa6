pub mod Targets
pub mod Classes
pub mod Notices
