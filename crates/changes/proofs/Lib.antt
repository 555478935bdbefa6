-- one change, and what stands after it
pub mod Changes
pub mod Runs
-- a book that 16 is not given for stays one; 16 exactly
pub mod Sounds
pub mod Reach
-- demand 3, and the book of a sheet
pub mod Since
pub mod After
