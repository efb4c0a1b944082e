pub mod Carried
pub mod Commands
pub mod Script
pub mod Printed
pub mod Streams
