pub mod Lower
pub mod Judging
pub mod Testing
