pub mod Calls
pub mod Ends
pub mod Grants
pub mod Findings
pub mod Judgements
pub mod Passes
pub mod Tries
