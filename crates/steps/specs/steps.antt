-- A step of the machine in an area of words: what the contracts of `steps` cite.
pub mod Raised
pub mod Stepped
