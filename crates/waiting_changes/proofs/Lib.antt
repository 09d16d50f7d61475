pub mod Lawful
pub mod Running
pub mod Retrying
