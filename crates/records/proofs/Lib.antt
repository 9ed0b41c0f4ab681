-- What a record holds, and when a limit is met
pub mod Records
pub mod Limiting
