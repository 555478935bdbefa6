-- the bytes of a filing action, and rows of them
pub mod Laid
pub mod Listings
-- what the definitions say
pub mod Meanings
-- the format, read and written
pub mod Layouts
-- how the reader meets its promise
pub mod Promises
-- no second answer, and what is written is what is read
pub mod Actions
-- each answer exactly where docs/RULES.md gives it
pub mod Exactly
