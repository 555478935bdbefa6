pub mod Clear
pub mod Ways
