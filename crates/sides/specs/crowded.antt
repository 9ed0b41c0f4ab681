pub mod Passes
pub mod Rows
