pub mod Facts
pub mod Passages
pub mod Setups
pub mod Verdicts
