-- The replay of a record
pub mod Fillings
pub mod Pairs
pub mod Replays
pub mod Handing
pub mod Operations
