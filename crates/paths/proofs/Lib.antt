pub mod Keys
pub mod Walks
pub mod Alike
pub mod Named
pub mod Order
pub mod Ways
