-- numbers as text
pub mod Decimals
-- the words as they are spelled
pub mod WordsSpelled
-- what an answer prints, as it is spelled
pub mod AnswersSpelled
-- the lines as they are spelled
pub mod LinesSpelled
-- the line is that of the answer, and check 2 before the entry's own
pub mod Answered
-- no action has a second line
pub mod LineOnce
-- what a run's answer and its text are
pub mod Texts
-- how many lines a text has, and that a text cut short is seen
pub mod LineEnds
-- how runs meet their promises
pub mod Promises
-- no sheet has a second text
pub mod RunOnce
-- both versions of the sheet print the same
pub mod Versions
