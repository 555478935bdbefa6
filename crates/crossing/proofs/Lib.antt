pub mod Routing
pub mod Least
