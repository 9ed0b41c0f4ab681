-- The walk over the strategies of a book.
pub mod Turns
pub mod Walks
