-- Whether a position lies in a subterm, and which argument holds it
pub mod Insides
pub mod Hopping
-- The area that holds a term and the way to the finger
pub mod Pointing
-- The walk: up, and down
pub mod Climbing
pub mod Descending
pub mod Finding
