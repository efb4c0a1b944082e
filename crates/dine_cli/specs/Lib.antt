pub mod Asked
pub mod RaceOutput
pub mod ChartOutput
pub mod GraphOutput
pub mod DrawingOutput
pub mod TraceOutput
pub mod Resumed
pub mod JournalFile
