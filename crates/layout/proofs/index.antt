pub mod Indexing
pub mod Lists
pub mod Noting
