pub mod Beginnings
pub mod Charges
pub mod Levels
pub mod Placing
pub mod Searching
pub mod Verdicts
pub mod Worked
