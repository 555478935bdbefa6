pub mod LastDigits
pub mod Wrote
