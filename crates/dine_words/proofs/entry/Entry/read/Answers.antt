use Rattle.std.proofs.Common.{◌∙◌, ap}
use Rattle.dine_words.specs.Reading.{entry_at, whole}
use Rattle.dine_words.specs.Versions.{written_version}
use Rattle.dine_words.proofs.Spelling.{entry-found, entry-only}
use Rattle.dine_words.proofs.entry.Entry.read.Goals as goal

pub returns : goal.returns
returns c =
    let read = c.whole_entry.ensures ∙ ap (λ b. whole (entry_at written_version b)) c.as_bytes.ensures.value in
    record {
      found = entry-found c.args.text.now c.whole_entry.result read;
      only = λ x fits same. read ∙ entry-only x c.args.text.now fits same;
    }
