-- The walk over the rules of a book.
pub mod Turns
pub mod Walks
pub mod Firsts
