pub mod Content
pub mod Given
pub mod Runs
pub mod VerdictLemmas
pub mod Writes
