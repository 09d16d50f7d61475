pub mod Living
pub mod Scans
pub mod Staying
pub mod Tables
