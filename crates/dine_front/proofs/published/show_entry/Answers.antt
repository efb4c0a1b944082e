use Rattle.std.proofs.Common.{◌≡◌, sym, ap, ◌∙◌}
use Rattle.std.specs.Prelude.{fold}
use Rattle.dine_front.specs.Published.{last_told, longer_by_one}
use Rattle.dine_front.proofs.Absorbing.{last_told-append, shown_next}
use Rattle.dine_front.proofs.published.show_entry.Goals as goal

-- what the entry tells is what the new beginning tells last
pub new-requires : goal.new-requires
new-requires g c =
    c.told_by.ensures ∙ (sym (last_told-append c.args.panel.now.writer.desk.shown.value c.args.entry) ∙ (ap last_told (sym c.requires.next) ∙ ap last_told (sym c.again.ensures)))

-- it is shown next
pub returns-clause-ok : goal.returns-clause-ok
returns-clause-ok g c =
    let before = c.args.panel.now.writer.desk.shown.value in
    let event : c.new.result ≡ _ = c.new.ensures ∙ (c.again.ensures ∙ c.requires.next) in
    c.show.ensures.shown ∙ (ap (fold longer_by_one _) c.in_ok-put.ensures.ok ∙ (ap (λ l. longer_by_one l c.new.result) c.put.ensures.shown ∙ (shown_next before c.new.result c.args.entry event ∙ (event ∙ sym c.requires.next))))
