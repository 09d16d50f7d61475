pub mod Named
pub mod Joined
pub mod Runs
pub mod OneLine
pub mod Remarked
