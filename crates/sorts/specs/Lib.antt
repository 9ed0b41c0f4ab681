-- What 02 (F-8) says of kinds, and whether rules and terms keep to them
pub mod Sorts
pub mod SortCheck
-- Inner: the recursion over a side
pub mod sides
