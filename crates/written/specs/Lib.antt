pub mod Sheets
pub mod Changes
