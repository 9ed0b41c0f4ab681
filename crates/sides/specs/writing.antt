pub mod Reduct
pub mod Both
