-- The words of a reduct alone, and then their lengths
pub mod FirstPass
pub mod SecondPass
