-- what the definitions say: which sheet is written, in one way, and of itself again
pub mod Finals
-- how the program meets its promise
pub mod Programs
