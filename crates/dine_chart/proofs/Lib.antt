pub mod Inert
mod Joining
mod Outcomes
mod Present
mod Second
mod Standings
mod Tracing
mod Waiting
mod Written
