pub mod Retold
mod Notes
mod Rows
pub mod Places
