-- Inner: the limits and the record of a run
pub mod recording
