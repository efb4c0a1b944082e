-- The entries that a drawing has taken in, and those that are left.
use Rattle.std.proofs.Common.{◌≡◌, ◌↔◌, ℕ, zero, suc, ◌+◌, ◌<◌, ◌≤◌, true, List, [], ◌∷◌, ◌++◌, length, drop, take, Some, None, Result, Ok, Err, OnOk, sym, ap, ◌∙◌, subst, append_assoc, append-nil, add-one, arith}
use Rattle.std.specs.Prelude.{slice_get}
use Rattle.std.proofs.Math.Seq.{drop-cons}
use Rattle.std.proofs.lemmas.List.{drop_all}
use Rattle.std.proofs.lemmas.Option.{get_or_from_slice_get, slice_get_within}
use Rattle.dine_words.specs.declared.entry.Entry.{Entry}
use Rattle.dine_words.specs.declared.limits.Limits.{Limits}
use Rattle.dine_words.specs.declared.task.Task.{Task}
use Rattle.dine_table.specs.History.{table_after}
use Rattle.dine_bars.specs.declared.bar.BarKind.{BarKind}
use Rattle.dine_bars.specs.declared.mark.Mark.{Mark}
use Rattle.dine_bars.specs.Bars.{is_drawn, kind_at}
use Rattle.dine_bars.specs.Marks.{Drawing, drawn_after, drawn_from, last_marks, marks_at, marks_from, marks_of, opening_drawn}
use Rattle.dine_bars.proofs.Drawn.{drawn_exactly}

-- a drawing and its marks, with the entries that are left, come to the same as those of all entries
pub record IsOnTheWay (limits : Limits) (entries : List Entry) (i : ℕ) (d : Drawing) (marks : List Mark) : Type 0 where
  pub place : d.place ≡ i
  pub drawn : drawn_from d (drop i entries) ≡ drawn_from (opening_drawn limits) entries
  pub added : marks ++ marks_from d (drop i entries) ≡ marks_from (opening_drawn limits) entries

-- before the first entry nothing is drawn
pub way-opening : (limits : Limits) (entries : List Entry) (d : Drawing) (marks : List Mark) → d ≡ opening_drawn limits → marks ≡ [] → IsOnTheWay limits entries 0 d marks
way-opening limits entries d marks is none = record {
  place = ap (λ (x : Drawing). x.place) is;
  drawn = ap (λ x. drawn_from x entries) is;
  added = ap (λ m. m ++ marks_from d entries) none ∙ ap (λ x. marks_from x entries) is;
}

module _ (limits : Limits) (entries : List Entry) (i : ℕ) (d : Drawing) (marks : List Mark) (way : IsOnTheWay limits entries i d marks) where
  -- one entry more
  pub way-next : (e : Entry) → slice_get entries i ≡ Some e → (next : Drawing) (more : List Mark) → next ≡ drawn_after d e → more ≡ marks ++ marks_at d e → IsOnTheWay limits entries (i + 1) next more
  way-next e at next more is adds = record {
    place = ap (λ (x : Drawing). x.place) is ∙ ap (λ n. n + 1) way.place;
    drawn = ap (λ x. drawn_from x (drop (i + 1) entries)) is ∙ sym (ap (drawn_from d) here) ∙ way.drawn;
    added =
        ap (λ m. m ++ marks_from next (drop (i + 1) entries)) adds
        ∙ ap (λ x. (marks ++ marks_at d e) ++ marks_from x (drop (i + 1) entries)) is
        ∙ append_assoc marks (marks_at d e) (marks_from (drawn_after d e) (drop (i + 1) entries))
        ∙ sym (ap (λ l. marks ++ marks_from d l) here)
        ∙ way.added;
  }
    where
      here : drop i entries ≡ e ∷ drop (i + 1) entries
      here =
          drop-cons entries i e (slice_get_within entries i e at)
          ∙ ap (λ x. x ∷ drop (suc i) entries) (get_or_from_slice_get entries i e e at)
          ∙ ap (λ n. e ∷ drop n entries) (sym (add-one i))

  -- no entry is left
  pub way-end : length entries ≤ i → (all : List Mark) → all ≡ marks ++ last_marks (d.place + 1) d.begun → all ≡ marks_of limits entries
  way-end past all adds =
      let none : drop i entries ≡ [] = drop_all i entries past in
      let end : d ≡ drawn_from (opening_drawn limits) entries = sym (ap (drawn_from d) none) ∙ way.drawn in
      let before : marks ≡ marks_from (opening_drawn limits) entries = sym (append-nil marks) ∙ sym (ap (λ l. marks ++ marks_from d l) none) ∙ way.added in
      adds ∙ ap (λ m. m ++ last_marks (d.place + 1) d.begun) before ∙ ap (λ (x : Drawing). marks_from (opening_drawn limits) entries ++ last_marks (x.place + 1) x.begun) end

-- what is drawn of all entries
pub all-exactly : (limits : Limits) (entries : List Entry) (all : List Mark) → all ≡ marks_of limits entries → (u : Task) (k : BarKind) (n : ℕ) → n ≤ length entries → (is_drawn all u k n ≡ true) ↔ (kind_at (table_after limits (take n entries)) u ≡ Some k)
all-exactly limits entries all is u k n within = subst (λ m. (is_drawn m u k n ≡ true) ↔ (kind_at (table_after limits (take n entries)) u ≡ Some k)) (sym is) (drawn_exactly limits entries u k n within)

-- what a success tells is the whole of what was wanted
pub if-ok : {X E : Type 0} (r : Result X E) (P Q : Type 0) → (P → Q) → OnOk r P → OnOk r Q
if-ok (Ok x) P Q follows p = follows p
if-ok (Err e) P Q follows p = tt

-- within the entries there is one
pub entry_there : (entries : List Entry) (i : ℕ) → i < length entries → slice_get entries i ≡ None → ⊥
entry_there [] i within none = absurd (omega arith)
entry_there (e ∷ es) zero within none = absurd (let k : Some e ≡ None = none in cc)
entry_there (e ∷ es) (suc i) within none = entry_there es i (omega arith) none
