-- One argument of a term
pub mod Answering
pub mod Arguments
