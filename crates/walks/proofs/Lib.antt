-- Which positions are active (the walk to one: walk.antt)
pub mod Arguments
pub mod Activities
pub mod Descent
