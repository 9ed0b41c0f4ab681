-- The reader accepts the encodings of well-formed systems and nothing else
pub mod Parsed
pub mod Parses
pub mod ParsesMany
pub mod SideWords
pub mod Sides
pub mod Unbound
pub mod Strategies
pub mod Accepts
pub mod Located
-- The starred cases
pub mod Cases
