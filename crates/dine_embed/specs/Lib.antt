pub mod Acting
pub mod Numbers
pub mod Open
pub mod Owned
