-- Where the rules and the strategies of an accepted book stand.
pub mod Accepting
pub mod Books
pub mod Sizes
pub mod Suffixes
