-- Inner: how an accepted book lies in memory
pub mod rules
pub mod strategies
pub mod listed
pub mod index
pub mod entries
