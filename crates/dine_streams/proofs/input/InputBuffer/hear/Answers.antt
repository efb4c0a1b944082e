use Rattle.std.proofs.Common.{rules, ◌≡◌, ℕ, ◌+◌, ◌≤◌, false, true, List, ◌++◌, length, take, drop, ap, ◌∙◌, arith, length-take, length-drop}
use Rattle.std.proofs.Math.Seq.{take-add}
use Rattle.dine_streams.specs.Inputs.{HeardInput}
use Rattle.dine_streams.proofs.input.InputBuffer.hear.Goals as goal

pub returns-clause-heard : goal.returns-clause-heard
returns-clause-heard g c =
    let read = c.in_ok-came.ensures in
    let inside = c.self.inside in
    let old : HeardInput = c.args.self.now in
    let came : ℕ = c.in_ok-came.came in
    let room : List ℕ = c.read_enough.new.room.items in
    let bytes : List ℕ = take came (drop inside.filled room) in
    let was : take inside.filled inside.room.items ≡ old.text = ap (λ (h : HeardInput). h.text) c.self.view_is in
    let counted : inside.heard ≡ old.heard = ap (λ (h : HeardInput). h.heard) c.self.view_is in
    let open_yet : inside.is_at_end ≡ old.is_at_end = ap (λ (h : HeardInput). h.is_at_end) c.self.view_is in
    let open_still : old.is_at_end ≡ true → ⊥ = λ is. let no : inside.is_at_end ≡ false = c.if-self.false in let yes : inside.is_at_end ≡ true = open_yet ∙ is in cc in
    let fits : inside.filled + came ≤ length room = search (rules, read.fits) in
    let long : length bytes ≡ came = omega (arith, fits, length-take came (drop inside.filled room), length-drop inside.filled room) in
    let most = c.self.invariant.most in
    let few = read.few in
    record {
      bytes = bytes;
      consumed = read.bytes;
      text = take-add inside.filled came room ∙ ap (λ l. l ++ bytes) (read.front ∙ was);
      heard = omega (arith, counted, long);
      most = omega (arith, most, few);
      some = λ more. (let enough = read.some more in omega (arith, enough, long));
      at_end = λ no end. read.end end;
      ended = λ is. absurd (open_still is);
      still = λ is. absurd (open_still is);
    }
