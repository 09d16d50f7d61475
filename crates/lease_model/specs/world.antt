pub mod Allowed
pub mod Events
pub mod World
