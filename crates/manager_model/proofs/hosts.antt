pub mod Answers
pub mod Before
pub mod Calls
pub mod Faithful
pub mod Passes
pub mod Serving
