-- An evaluation told on the subterm alone, and what demand 3 promises of it
pub mod Actives
pub mod Walks
pub mod Done
pub mod Contractions
pub mod Contexts
pub mod Rooms
pub mod Inert
pub mod Found
-- The machine: its laws, and its theorem
pub mod Fuel
pub mod Laws
pub mod OpenLevels
pub mod Reached
pub mod Runs
pub mod Comings
pub mod Taken
pub mod RunPaths
pub mod Stopped
-- The lengths beside a term's words, after a rewrite
pub mod Raises
pub mod Aboves
pub mod Below
pub mod RowEdits
pub mod Ways
pub mod WayLevels
pub mod WayRows
pub mod Everywhere
