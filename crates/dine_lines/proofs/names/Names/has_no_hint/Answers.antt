use Rattle.std.proofs.Common.{◌≡◌, None, subst}
use Rattle.dine_lines.specs.Names.{task_named}
use Rattle.dine_lines.proofs.Hints.{free-at}
use Rattle.dine_lines.proofs.names.Names.has_no_hint.Goals as goal

pub returns : goal.returns
returns c none name letters =
    let hints = c.self.inside.hints in
    subst (λ names. task_named names name ≡ None) c.self.view_is
    (free-at hints.places.items hints.shift c.self.inside.tasks.entries name c.args.low c.args.high c.ranges.low.fits c.ranges.high.fits c.self.invariant (c.is_vacant.ensures none) letters)
