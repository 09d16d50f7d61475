pub mod Facts
pub mod Past
pub mod Safe
pub mod Verdict
