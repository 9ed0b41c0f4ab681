-- Lists that end alike
pub mod Ends
-- Words written over a list
pub mod Overs
-- What the words of the bindings tell
pub mod Bindings
-- How long a filled side is
pub mod Counted
