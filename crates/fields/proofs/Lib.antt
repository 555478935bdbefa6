-- the fields of each action
pub mod Fields
-- which of the checks are left once the action reader has answered
pub mod Rooms
-- no second answer
pub mod Once
