pub mod Hole
pub mod Front
pub mod FromPlace
pub mod Neighbours
