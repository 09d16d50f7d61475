pub mod Calling
pub mod Coming
pub mod Laws
pub mod Outs
pub mod Requests
pub mod Table
pub mod Written
