pub mod Layout
pub mod Rows
pub mod Format
pub mod Entries
