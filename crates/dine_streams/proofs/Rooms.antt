-- A buffer into which bytes were read behind the line that has begun.
use Rattle.std.proofs.Common.{◌≡◌, ℕ, ◌+◌, ◌-◌, ◌<◌, ◌≤◌, min, nat_lt, false, true, List, [], ◌++◌, length, take, drop, Option, ◌⊎◌, inl, inr, sym, ap, ◌∙◌, arith, length-take, length-drop}
use Rattle.std.proofs.Math.Seq.{take-add}
use Rattle.std.proofs.lemmas.List.{drop-take, take-take, take_all}
use Rattle.std.proofs.lemmas.Bool.{cases_lt}
use Rattle.std.proofs.lemmas.Bool.Decides.{nat_tests}
use Rattle.dine_streams.specs.Lines.{begun_line, ended_lines, kept_of}
use Rattle.std.specs.Io.KnownBytes.{Consumes, IsAtEnd}
use Rattle.dine_streams.specs.Heard.{LineBuffer, HearsBytes}
use Rattle.dine_streams.specs.Rooms.{IsRoom}
use Rattle.dine_streams.proofs.Pieces.{begun-on, begun-pieces, ended-pieces, none-front}

-- there are as many as before
pub none_came : (count : ℕ) → nat_lt 0 count ≡ false → count ≡ 0
none_came count is = grind (arith, nat_tests)

-- where the end has moved some bytes came
pub some_came : (count : ℕ) → nat_lt 0 count ≡ true → 0 < count
some_came count is = grind (arith, nat_tests)

-- n bytes of the room were heard, whose lines are the first w
pub record IsHeardIn (room : List ℕ) (n w : ℕ) : Type 0 where
  pub size : length room ≡ 69633
  pub within : n ≤ length room
  pub short : w ≤ length (take n room)
  pub lines : ended_lines [] (take w (take n room)) ≡ ended_lines [] (take n room)
  pub ended : begun_line [] (take w (take n room)) ≡ []
  pub begun : begun_line [] (take n room) ≡ drop w (take n room)
  pub none : ended_lines [] (drop w (take n room)) ≡ []

module _ (room : List ℕ) (n w end : ℕ) (p : IsHeardIn room n w) (is_end : end ≡ min n (w + 4097)) where
  few : w ≤ n
  few = let short = p.short in omega (arith, length-take n room)

  front : take w (take n room) ≡ take w room
  front = take-take w n room few

  rest : drop w (take n room) ≡ take (n - w) (drop w room)
  rest = ap (λ k. drop w (take k room)) (let few : w ≤ n = few in let sum : n ≡ w + (n - w) = omega arith in sum) ∙ drop-take w (n - w) room

  kept : take (end - w) (drop w room) ≡ kept_of (drop w (take n room))
  kept = by (cases_lt (w + 4097) n)
    where
      by : (w + 4097 < n) ⊎ (n ≤ w + 4097) → take (end - w) (drop w room) ≡ kept_of (drop w (take n room))
      by (inl long) =
          ap (λ k. take k (drop w room)) (let is : end - w ≡ 4097 = omega arith in is)
          ∙ sym (take-take 4097 (n - w) (drop w room) (omega arith))
          ∙ ap kept_of (sym rest)
      by (inr short) =
          ap (λ k. take k (drop w room)) (let few : w ≤ n = few in let is : end - w ≡ n - w = omega arith in is)
          ∙ sym rest
          ∙ sym (take_all 4097 (drop w (take n room)) (omega (arith, length-drop w (take n room), length-take n room)))

  -- one that goes on to this end has its lines in front of that place, and keeps what has begun behind it
  pub room-next : IsRoom room w end
  room-next = record {
    size = p.size;
    order = (let few : w ≤ n = few in omega arith);
    within = (let within = p.within in omega arith);
    few = omega arith;
    lines = ap (begun_line []) (sym front) ∙ p.ended;
    begun = ap (ended_lines []) kept ∙ none-front 4097 [] (drop w (take n room)) p.none;
  }

  -- the lines and the front of the next one are those of the line that had begun and of the bytes behind it
  pub hears-next : (old : LineBuffer) (b count : ℕ) (before after : Option (List ℕ))
      → n ≡ b + count → old.begun ≡ take b room → ended_lines [] old.begun ≡ [] → Consumes before after (take count (drop b room))
      → (count ≡ 0 → IsAtEnd after)
      → HearsBytes old (record { lines = take w room; begun = take (end - w) (drop w room) }) before after count
  hears-next old b count before after sum was quiet consumed last =
      let bytes : List ℕ = take count (drop b room) in
      let all : take n room ≡ old.begun ++ bytes = ap (λ k. take k room) sum ∙ take-add b count room ∙ ap (λ l. l ++ bytes) (sym was) in
      let on : begun_line [] old.begun ≡ old.begun = begun-on [] old.begun quiet in
      let counted : length bytes ≡ count = (let within = p.within in omega (arith, length-take count (drop b room), length-drop b room)) in
      record {
        hears = record {
          bytes = bytes;
          consumed = consumed;
          lines =
              ap (ended_lines []) (sym front) ∙ p.lines ∙ ap (ended_lines []) all ∙ ended-pieces [] old.begun bytes
              ∙ ap (λ lines. lines ++ ended_lines (begun_line [] old.begun) bytes) quiet
              ∙ ap (λ begun. ended_lines begun bytes) on;
          begun =
              kept ∙ ap kept_of (sym p.begun) ∙ ap (λ l. kept_of (begun_line [] l)) all
              ∙ ap kept_of (begun-pieces [] old.begun bytes)
              ∙ ap (λ begun. kept_of (begun_line begun bytes)) on;
          some = λ is. let few : 0 < count = some_came count is in omega arith;
          none = λ is. ap (λ k. take k (drop b room)) (none_came count is);
          at_end = λ is. last (none_came count is);
        };
        counted = counted;
      }
