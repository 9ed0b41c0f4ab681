-- Following a record in an area of words: what the contracts of `retrace` cite.
pub mod Retraces
