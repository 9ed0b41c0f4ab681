-- Inner: what is found in the rows
pub mod search
