pub mod Labels
pub mod Links
pub mod Walks
pub mod Sizes
