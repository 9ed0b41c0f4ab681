-- Inner: what is asked where a side is written
pub mod sides
pub mod writing
pub mod passes
pub mod crowded
