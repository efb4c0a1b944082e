-- Lists that are gone through place by place: those who wait, and whether the turn of each has come.
use Rattle.std.proofs.Common.{◌≡◌, ℕ, ◌+◌, ◌<◌, true, false, List, [], ◌∷◌, ◌++◌, length, map, take, drop, get_or, set, Option, Some, None, refl, ap, sym, ◌∙◌, subst, arith, zero, suc}
use Rattle.std.proofs.lemmas.List.{drop_more, get_or-map, length-map, length-take-le}
use Rattle.std.proofs.lemmas.List.Edits.{fill_by_more}
use Rattle.std.proofs.lemmas.List.FromFn.{fill_by_all}
use Rattle.std.proofs.Math.Seq.{get_or-append_seam}
use Rattle.dine_words.specs.declared.task.Task.{Task}
use Rattle.dine_table.specs.Table.{Table}
use Rattle.dine_front.specs.Waits.{somebody_waits, still_awaited}

-- where the list is gone through up to a place, what stands there is as it was
pub not_reached : {A : Type 0} (f : A → A) (xs ys : List A) (i : ℕ) (d : A) → i < length xs → ys ≡ map f (take i xs) ++ drop i xs → get_or ys i d ≡ get_or xs i d
not_reached f xs ys i d lt so_far =
    let x = get_or xs i d in
    let before = map f (take i xs) in
    let len : length before ≡ i = length-map (take i xs) f ∙ length-take-le i xs (omega arith) in
    ap (λ l. get_or l i d) (so_far ∙ ap (λ l. before ++ l) (drop_more xs i d lt))
    ∙ subst (λ (n : ℕ). get_or (before ++ x ∷ drop (i + 1) xs) n d ≡ x) len (get_or-append_seam before x (drop (i + 1) xs) d)

-- what is written at a place is of what stood there
pub written_at : {A B : Type 0} (f : A → B) (xs : List A) (d : A) (ys : List B) (e : B) (i : ℕ) (y : B) → i < length ys → ((k : ℕ) → k < i → get_or ys k e ≡ f (get_or xs k d)) → y ≡ f (get_or xs i d) → (k : ℕ) → k < i + 1 → get_or (set ys i y) k e ≡ f (get_or xs k d)
written_at f xs d ys e i y lt so_far is k le =
    ap (λ z. get_or (set ys i z) k e) is ∙ fill_by_more (λ (n : ℕ). f (get_or xs n d)) ys i e lt so_far k le

-- a list with what belongs to each place is the whole
pub written_all : {A B : Type 0} (f : A → B) (xs : List A) (d : A) (ys : List B) (e : B) (n : ℕ) → length xs ≡ n → length ys ≡ n → ((k : ℕ) → k < n → get_or ys k e ≡ f (get_or xs k d)) → ys ≡ map f xs
written_all f xs d ys e n at by each =
    fill_by_all (λ (k : ℕ). f (get_or xs k d)) ys n e by each
    ∙ sym (fill_by_all (λ (k : ℕ). f (get_or xs k d)) (map f xs) n e (length-map xs f ∙ at) (λ k lt. get_or-map f xs k d e (omega (arith, at))))

-- who is noted waits
pub noted : (xs : List (Option Task)) (i : ℕ) (u : Task) → i < length xs → somebody_waits (set xs i (Some u)) ≡ true
noted [] i u lt = absurd (omega arith)
noted (x ∷ xs) zero u lt = refl
noted (None ∷ xs) (suc i) u lt = noted xs i u (omega arith)
noted (Some v ∷ xs) (suc i) u lt = refl

-- where nobody waits, nobody's wait ends
pub nobody_left : (t : Table) (xs : List (Option Task)) → somebody_waits xs ≡ false → xs ≡ map (still_awaited t) xs
nobody_left t [] h = refl
nobody_left t (None ∷ xs) h = ap (λ l. None ∷ l) (nobody_left t xs h)
nobody_left t (Some u ∷ xs) h = absurd cc
