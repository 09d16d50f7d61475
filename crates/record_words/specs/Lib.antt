pub mod pictures
pub mod words
