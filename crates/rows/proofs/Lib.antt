-- The definitions, computed on a case
pub mod Cases
