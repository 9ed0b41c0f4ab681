-- Where the words of the redex are read: in place, or set aside
pub mod Asides
-- Words of the term as they stand in the rows
pub mod Standing
-- What the variables stand for, as it is read there
pub mod Sources
-- So the reduct may be written: in one pass, or row by row
pub mod Writables
pub mod Crowds
-- And then the term stands there in which it is put
pub mod Puts
pub mod Edges
