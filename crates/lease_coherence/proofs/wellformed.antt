pub mod Notes
pub mod WellFormed
