-- how the functions over a book meet their promises
pub mod Overs
-- no second answer over the book of a sheet
pub mod Once
