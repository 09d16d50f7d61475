pub mod Layer
pub mod Epochs
pub mod Rows
pub mod Kept
pub mod Laws
pub mod World
