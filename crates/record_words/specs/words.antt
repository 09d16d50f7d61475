pub mod Placed
pub mod FactWords
pub mod ReasonWords
pub mod Explained
pub mod BadPlaces
