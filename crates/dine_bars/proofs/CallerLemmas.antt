-- What the proofs of other crates cite of drawings: that a drawing is on the way to the marks of all entries.

-- the entries that a drawing has taken in, and those that are left
pub use Rattle.dine_bars.proofs.Entries.{IsOnTheWay, entry_there, way-end, way-next, way-opening}
