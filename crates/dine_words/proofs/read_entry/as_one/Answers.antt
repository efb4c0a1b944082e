use Rattle.std.proofs.Common.{sym, rules}
use Rattle.std.proofs.lemmas.Nat.{le_bytes_8}
use Rattle.dine_words.proofs.read_entry.as_one.Goals as goal

pub returns : goal.returns
returns c = sym (le_bytes_8 c.args.eight _ (search rules) (search rules) c.from_le_bytes.ensures)
