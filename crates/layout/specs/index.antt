pub mod Accepted
pub mod Index
