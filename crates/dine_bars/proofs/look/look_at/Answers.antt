use Rattle.std.proofs.Common.{sym, ◌∙◌}
use Rattle.dine_bars.proofs.Looking.{changed_there, hungry_there, none_there, other_there, same_there}
use Rattle.dine_bars.proofs.look.look_at.Goals as goal

pub returns-in_default-clause-looked : goal.returns-in_default-clause-looked
returns-in_default-clause-looked c =
    none_there c.args.call c.args.place c.args.arbiter.now.table c.args.begun.now.items c.args.marks.now.items c.requires.kept c.args.slot c.requires.slot c.args.kind c.requires.calm c.index.result.now c.index.ensures c.in_default.is

pub returns-then-not-same_kind-clause-looked : goal.returns-then-not-same_kind-clause-looked
returns-then-not-same_kind-clause-looked c =
    other_there c.args.call c.args.place c.args.arbiter.now.table c.args.begun.now.items c.args.marks.now.items c.requires.kept c.args.slot c.requires.slot c.args.kind c.requires.calm c.index.result.now c.index.ensures
    c.in-Some.bar c.in-Some.is (sym c.same_kind.ensures ∙ c.if-not-same_kind.true)

pub returns-then-not-same_kind-2-clause-looked : goal.returns-then-not-same_kind-2-clause-looked
returns-then-not-same_kind-2-clause-looked c =
    let bar = c.in-Some.bar in
    let now = c.kind_of_hungry-now.result in
    let like = sym c.same_kind.ensures ∙ c.if-not-same_kind.false in
    let hungry = hungry_there c.args.call c.args.place c.args.arbiter.now.table c.args.begun.now.items c.args.marks.now.items c.requires.kept c.args.slot c.requires.slot c.args.kind c.requires.calm c.index.result.now c.index.ensures bar c.in-Some.is like in
    changed_there c.args.call c.args.place c.args.arbiter.now.table c.args.begun.now.items c.args.marks.now.items c.requires.kept c.args.slot c.requires.slot c.args.kind c.requires.calm c.index.result.now c.index.ensures bar c.in-Some.is like
    now (c.kind_of_hungry-now.ensures bar.task hungry.0 hungry.1) c.change.new.begun.items c.change.new.marks.items (sym c.same_kind-2.ensures ∙ c.if-not-same_kind-2.true) c.change.ensures.begun c.change.ensures.marks

pub returns-else-not-same_kind-2-clause-looked : goal.returns-else-not-same_kind-2-clause-looked
returns-else-not-same_kind-2-clause-looked c =
    let bar = c.in-Some.bar in
    let like = sym c.same_kind.ensures ∙ c.if-not-same_kind.false in
    let hungry = hungry_there c.args.call c.args.place c.args.arbiter.now.table c.args.begun.now.items c.args.marks.now.items c.requires.kept c.args.slot c.requires.slot c.args.kind c.requires.calm c.index.result.now c.index.ensures bar c.in-Some.is like in
    same_there c.args.call c.args.place c.args.arbiter.now.table c.args.begun.now.items c.args.marks.now.items c.requires.kept c.args.slot c.requires.slot c.args.kind c.requires.calm c.index.result.now c.index.ensures bar c.in-Some.is like
    c.kind_of_hungry-now.result (c.kind_of_hungry-now.ensures bar.task hungry.0 hungry.1) (sym c.same_kind-2.ensures ∙ c.if-not-same_kind-2.false)
