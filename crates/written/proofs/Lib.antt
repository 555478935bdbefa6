-- what the definitions say
pub mod Definitions
-- what writing checks, says and leaves
pub mod Entries
-- how an entry meets its promise
pub mod Handing
-- no second answer
pub mod Once
-- the sheet of a book run from an empty book
pub mod Round
-- the sheet after any run of filings and withdrawings
pub mod Since
-- open, file and withdraw for a host
pub mod Hosts
