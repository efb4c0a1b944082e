use Rattle.std.proofs.Common.{◌≡◌, ℕ, ◌+◌, ◌-◌, ◌<◌, ◌≤◌, List, [], length, take, drop, Option, refl, sym, ap, ◌∙◌, subst, arith, rules, length-drop}
use Rattle.std.specs.Io.KnownBytes.{Consumes}
use Rattle.std.proofs.lemmas.List.{places, with_items_is}
use Rattle.dine_streams.specs.Heard.{LineBuffer, HearsBytes}
use Rattle.dine_streams.specs.Lines.{ended_lines}
use Rattle.dine_streams.specs.Rooms.{IsRoom}
use Rattle.dine_streams.proofs.Rooms.{IsHeardIn, hears-next, room-next}
use Rattle.dine_streams.proofs.buffer.LineBuffer.hear_bytes.Goals as goal

pub invariant_of-self-2 : goal.invariant_of-self-2
invariant_of-self-2 g c =
    let n : ℕ = c.self.inside.end - c.self.inside.whole + c.in_ok-count.count in
    let w : ℕ = c.whole_len-self-inside.result in
    let now : List ℕ = c.deref.result.now in
    let same : now ≡ c.read_on-read.new.room = c.deref.ensures.value ∙ with_items_is c.self.inside.room c.read_on-read.new.room (search (rules, places)) in
    let found = c.whole_len-self-inside.ensures in
    let size : length now ≡ 69633 = ap length same ∙ search (rules, places, c.self.invariant.size) in
    let within : n ≤ length now = subst (λ (l : List ℕ). n ≤ length l) (sym same) c.in_ok-count.ensures.bound in
    let heard : IsHeardIn now n w = record { size = size; within = within; short = found.bound; lines = found.lines; ended = found.ended; begun = found.begun; none = found.none } in
    subst (λ (r : List ℕ). IsRoom r w c.min-self-inside.result) c.deref.ensures.value (room-next now n w c.min-self-inside.result heard c.min-self-inside.ensures)

pub returns-clause-heard : goal.returns-clause-heard
returns-clause-heard g c =
    let b : ℕ = c.self.inside.end - c.self.inside.whole in
    let count : ℕ = c.in_ok-count.count in
    let w : ℕ = c.whole_len-self-inside.result in
    let now : List ℕ = c.deref.result.now in
    let read = c.read_on-read.ensures in
    let same : now ≡ c.read_on-read.new.room = c.deref.ensures.value ∙ with_items_is c.self.inside.room c.read_on-read.new.room (search (rules, places)) in
    let found = c.whole_len-self-inside.ensures in
    let size : length now ≡ 69633 = ap length same ∙ search (rules, places, c.self.invariant.size) in
    let within : b + count ≤ length now = subst (λ (l : List ℕ). b + count ≤ length l) (sym same) c.in_ok-count.ensures.bound in
    let heard : IsHeardIn now (b + count) w = record { size = size; within = within; short = found.bound; lines = found.lines; ended = found.ended; begun = found.begun; none = found.none } in
    let old : LineBuffer = c.args.self.now in
    let was : old.begun ≡ take b now = ap (λ (h : LineBuffer). h.begun) (sym c.self.view_is) ∙ ap (λ l. take b (drop c.self.inside.whole l)) (sym c.deref_mut.ensures.value) ∙ sym read.front ∙ ap (take b) (sym same) in
    let quiet : ended_lines [] old.begun ≡ [] = ap (λ (h : LineBuffer). ended_lines [] h.begun) (sym c.self.view_is) ∙ c.self.invariant.begun in
    let before : Option (List ℕ) = g.R.Source.remaining c.args.source.now in
    let after : Option (List ℕ) = g.R.Source.remaining c.read_on-read.new.source in
    let consumed : Consumes before after (take count (drop b now)) = subst (λ (l : List ℕ). Consumes before after (take count (drop b l))) (sym same) c.in_ok-count.ensures.bytes.0 in
    subst (λ (r : List ℕ). HearsBytes old (record { lines = take w r; begun = take (c.min-self-inside.result - w) (drop w r) }) before after count) c.deref.ensures.value
    (hears-next now (b + count) w c.min-self-inside.result heard c.min-self-inside.ensures old b count before after refl was quiet consumed (λ none. c.in_ok-count.ensures.bytes.1 none (subst (λ (l : List ℕ). 0 < length (drop b l)) same (let few = c.self.invariant.few in omega (arith, length-drop b now)))))
