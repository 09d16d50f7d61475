pub mod ClientBytes
pub mod FromBytesLemmas
pub mod ReadBack
pub mod ServerBytes
