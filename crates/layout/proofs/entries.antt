pub mod Repeats
pub mod Asks
pub mod Standing
