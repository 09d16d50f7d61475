mod Asking
mod Calling
mod Carrying
mod Fresh
mod Kept
mod Maps
mod Numbering
mod Sending
