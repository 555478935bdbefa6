pub mod Bits
pub mod Links
pub mod Stages
pub mod Wrapping
pub mod Tests
