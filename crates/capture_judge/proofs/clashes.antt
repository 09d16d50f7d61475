pub mod Charges
pub mod Completing
pub mod Covering
pub mod Dues
pub mod Late
