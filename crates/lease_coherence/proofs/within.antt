pub mod BeliefsWithin
pub mod Entries
pub mod Leases
