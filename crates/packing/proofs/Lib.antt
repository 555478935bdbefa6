-- what a host reads off a number
pub mod Unpacking
-- no second number
pub mod Once
