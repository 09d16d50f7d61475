pub mod Breaks
pub mod Flushed
pub mod Gone
pub mod Grants
pub mod Held
pub mod Taken
