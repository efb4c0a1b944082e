pub mod Numbers
pub mod Words
pub mod Spelling
pub mod Headers
pub mod Lines
pub mod UsualLines
pub mod CallerLemmas
