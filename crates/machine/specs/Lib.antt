-- All of it is inner: no public contract rests on it
pub mod advance
