pub mod Counts
pub mod Creates
pub mod CreatesStayCounted
pub mod Steps
