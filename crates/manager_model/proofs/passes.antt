pub mod Alike
pub mod Enough
pub mod Files
pub mod Tables
pub mod Ways
