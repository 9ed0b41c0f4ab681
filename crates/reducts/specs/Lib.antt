-- Inner: what the layers above ask where a reduct is put
pub mod putting
