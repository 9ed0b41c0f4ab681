-- Inner: a run
pub mod run
pub mod running
