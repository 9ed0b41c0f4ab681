-- A side, word by word.
pub mod SideSteps
