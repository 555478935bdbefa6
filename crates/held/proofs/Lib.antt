-- what a host reads off an answer, and what it then holds
pub mod Told
-- no second answer, and what it holds where it is refused
pub mod Once
-- after any run
pub mod Lives
-- and every run has such a life
pub mod Witness
