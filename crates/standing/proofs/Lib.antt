pub mod Distinct
pub mod Picked
pub mod Filings
pub mod Members
pub mod Lowest
pub mod Reading
