-- a text that was written at the front is a run's
pub mod Written
-- a turn of the loop over a sheet's actions
pub mod Turns
