pub mod Outcomes
pub mod Codes
pub mod Owned
pub mod Rules
