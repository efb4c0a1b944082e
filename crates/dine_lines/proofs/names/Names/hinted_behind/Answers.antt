use Rattle.std.proofs.Common.{◌≡◌, Some, sym, subst}
use Rattle.std.specs.List.{slice_get}
use Rattle.dine_lines.proofs.names.Names.hinted_behind.Goals as goal

-- the name that stands at the place has these letters
pub returns-then-has_halves : goal.returns-then-has_halves
returns-then-has_halves c =
    let found = c.in_ok-name in
    record {
      bound = (found.name.now, found.field-0-1.now);
      at = subst (λ names. slice_get names c.in_ok-place.place ≡ Some (found.name.now, found.field-0-1.now)) c.self.view_is (sym found.ensures.entry);
      halves = c.has_halves.ensures.letters c.if-has_halves.true;
    }
