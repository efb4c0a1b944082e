pub mod RaceAnswers
pub mod Outcomes
pub mod JournalLines
pub mod Charts
pub mod Drawings
pub mod Resuming
pub mod Traces
