-- the longest sheet and the longest text, and the front of a longer input
pub mod Rooms
-- what holds of every program that answers by what it read
pub mod Answers
-- how a run of the input meets its promise, and that the promise leaves no second answer
pub mod Promises
