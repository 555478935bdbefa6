-- how a book is made
pub mod Making
