use Rattle.std.proofs.Common.{◌≡◌, ℕ, ◌+◌, ◌-◌, ◌≤◌, List, length, take, drop, ap, ◌∙◌, sym, arith, length-take}
use Rattle.std.proofs.lemmas.List.{drop-take}
use Rattle.dine_streams.specs.Inputs.{HeardInput}
use Rattle.dine_streams.proofs.Feeds.{ended-behind}
use Rattle.dine_streams.proofs.input.InputBuffer.lines_len.Goals as goal

pub returns-in-Some-clause-ended : goal.returns-in-Some-clause-ended
returns-in-Some-clause-ended c =
    let from : ℕ = c.args.from in
    let filled : ℕ = c.self.inside.filled in
    let room : List ℕ = c.deref.result.now in
    let text : List ℕ = c.args.self.now.text in
    let was : text ≡ take filled room = ap (λ (h : HeardInput). h.text) (sym c.self.view_is) ∙ ap (take filled) (sym c.deref.ensures.value) in
    let within : from ≤ length text = c.requires in
    let few : from ≤ filled = (let long : length text ≡ length (take filled room) = ap length was in omega (arith, within, long, length-take filled room)) in
    let sum : filled ≡ from + (filled - from) = omega (arith, few) in
    ended-behind from c.in-Some.last text _
    (sym (drop-take from (filled - from) room) ∙ ap (λ n. drop from (take n room)) (sym sum) ∙ ap (drop from) (sym was)) c.in-Some.ensures
