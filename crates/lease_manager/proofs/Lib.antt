pub mod follows
pub mod opens
pub mod sums
pub mod tries
pub mod waits
