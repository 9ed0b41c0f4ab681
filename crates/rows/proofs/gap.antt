-- Laws of the two rows and of the gap in both
pub mod Rows
pub mod Closed
pub mod Moves
