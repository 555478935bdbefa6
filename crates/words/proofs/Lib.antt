-- a number's last digits
pub mod LastDigits
-- texts written one after the other
pub mod Writing
