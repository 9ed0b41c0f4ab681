pub mod Walked
pub mod Listed
