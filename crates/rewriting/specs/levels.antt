-- The machine's open levels and the way to them: what the layers above keep in memory. Inner: no public contract rests on it.
pub mod Lengths
