pub mod Pieces
pub mod Padded
pub mod Hints
pub mod FirstBytes
pub mod LineForms
pub mod ShortLines
pub mod Lanes
pub mod Blocks
pub mod CallerLemmas
mod Digits
