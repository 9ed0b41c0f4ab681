pub mod Parted
pub mod Redexes
