use Rattle.std.proofs.Common.{◌∙◌}
use Rattle.dine_replay.proofs.Told.{same_limits, text_of}
use Rattle.dine_replay.proofs.whole_text.audit_text.Goals as goal

pub into_journal-requires : goal.into_journal-requires
into_journal-requires c =
    let whole = c.in_ok-replayed.ensures.ok in
    let limits = c.limits.ensures ∙ same_limits c.args.text.now c.in_ok-replayed.replayed whole.before in
    let entries = whole.tells _ c.new-history.ensures in
    rw (limits, entries) whole.before.legal

pub returns-clause-answer : goal.returns-clause-answer
returns-clause-answer c =
    let whole = c.in_ok-replayed.ensures.ok in
    let limits = c.into_journal.ensures.limits ∙ c.limits.ensures ∙ same_limits c.args.text.now c.in_ok-replayed.replayed whole.before in
    let entries = c.into_journal.ensures.entries ∙ whole.tells _ c.new-history.ensures in
    text_of c.args.text.now c.in_ok-replayed.replayed whole.before c.into_journal.result limits entries
