pub mod Edge
pub mod Forks
pub mod Seats
pub mod Records
pub mod Arbitration
pub mod Hunger
pub mod Turns
pub mod Searches
