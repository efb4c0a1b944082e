pub mod Bars
pub mod Marks
pub mod Lanes
pub mod Begun
