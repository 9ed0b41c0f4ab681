-- The checks of a call: what the contracts of `scanned` cite. Inner: no public contract rests on it.
pub mod Checked
