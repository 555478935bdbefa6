pub mod Columns
pub mod Stops
pub mod Frontier
pub mod WaysOnward
