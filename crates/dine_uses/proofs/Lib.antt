pub mod Accepting
pub mod Scheduling
pub mod Requesting
pub mod Meals
pub mod Recounting
