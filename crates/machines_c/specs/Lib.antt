pub mod Values
pub mod client
pub mod handles
pub mod manager
pub mod server
pub mod translation
pub mod versions
