pub mod Scheme
pub mod Tags
