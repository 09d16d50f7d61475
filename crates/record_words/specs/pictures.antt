pub mod Captions
pub mod Requests
pub mod Remarks
