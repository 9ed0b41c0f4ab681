-- A side, filled, written from its end to its front
pub mod Turns
pub mod Lefts
