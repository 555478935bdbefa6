pub mod Examples
pub mod Clearness
pub mod DeadCards
pub mod Controllers
