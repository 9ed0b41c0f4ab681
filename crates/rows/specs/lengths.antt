pub mod Later
pub mod Written
pub mod Lengthened
