pub mod Layers
pub mod Messages
