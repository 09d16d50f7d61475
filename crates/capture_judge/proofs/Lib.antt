pub mod calm
pub mod clashes
pub mod placings
pub mod verdicts
