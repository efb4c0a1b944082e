use Rattle.std.proofs.Common.{[], ◌∷◌, ◌++◌, ap, ◌∙◌}
use Rattle.dine_journal.specs.Kept.{FlatHistory}
use Rattle.dine_journal.proofs.Flats.{entries-append}
use Rattle.dine_journal.proofs.flat_history.FlatHistory.append.Goals as goal

-- the entry lies behind the others
pub returns : goal.returns
returns c =
    entries-append c.self.inside.flat.items c.push_reserved.new.self.items c.new.result c.args.entry c.push_reserved.ensures.items c.new.ensures
    ∙ ap (λ (history : FlatHistory). history.entries ++ c.args.entry ∷ []) c.self.view_is
