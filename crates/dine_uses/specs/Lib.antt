pub mod Running
pub mod Requests
pub mod Recording
pub mod Sharing
