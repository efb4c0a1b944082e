pub mod Table
pub mod Waiting
pub mod Calls
pub mod Transitions
pub mod History
pub mod Messages
pub mod Sound
