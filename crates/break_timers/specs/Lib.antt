pub mod Numbering
pub mod Timers
