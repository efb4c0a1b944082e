use Rattle.std.proofs.Common.{sym, rules}
use Rattle.std.proofs.lemmas.Nat.{le_bytes_4}
use Rattle.dine_words.proofs.read_entry.four_as_one.Goals as goal

pub returns : goal.returns
returns c = sym (le_bytes_4 c.args.four _ (search rules) (search rules) c.from_le_bytes.ensures)
