pub mod Casts
pub mod Changes
pub mod Remarks
pub mod Records
