mod Computes
mod answers
pub mod bytes
mod ends
pub mod hosts
pub mod passes
