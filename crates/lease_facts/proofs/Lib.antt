pub mod Places
pub mod Sendings
