pub mod Creates
pub mod Layers
pub mod Messages
