pub mod Always
pub mod Breaking
pub mod Calls
pub mod Durable
pub mod Passes
pub mod Questions
pub mod Steps
