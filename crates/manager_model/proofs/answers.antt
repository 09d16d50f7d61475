pub mod Calls
pub mod Dropped
pub mod Once
