-- `at_mut` lends one value, and the places follow it. Assumes `Logic`.
use Rattle.dine_forks.proofs.Raw.{◌≡◌, refl, sym, ap, subst, ◌∙◌, ℕ, ◌+◌, ◌*◌, ◌<◌, ◌^◌, List, [], ◌∷◌, ◌++◌, Ura, full_share, named, Val, vptr, SProp, ent, sep, never, id⊢, Lft, GName, Share, Fml, ftrue, fsep, fat, flft, fobs, fbor, Env, Calls, Loops, WpFn, Logic, sem, fact, WpFn-mono, Item, ⋆, ‵, raw, ◌⊛◌, some, later, await, pick, at_ret, ◌$◌, ◌∵◌, !, qed, by, move, keep, use1, use2, split, join, group, rewrite, fsplit, fsplit3, fjoin, fjoin3, fpack, feq_l, suffices, frame, done, flt_l, flt_i, whole, sub, stop, fld, of_opd, addr, first, blocks, exec, returns, enter, alloc_all, pass_all, free_all, look_at, get, get_in, through, sets, sets_last, env, take_at, give_at, no, owns, mem, cell_at, part_of, layout, Ptr, block_ptr, in_a_block, MutBor, MutRef, plain, mut_ref_to, nothing, opens, Clauses, Ended, on_entry, says, needs, walk_of, ends_at, Goes-dropped, Goes-spent_ref, walk_Meets, after, word, word-Good, length, set, get_or, length-set, Some, None, El, R, args, el_x, ptr_add, follows, Part, lends_Part}
use types.SemTy.{Body as Borrowed}
use Rattle.dine_forks.specs.Ownership.{slot, slots, cells_own}
use Rattle.dine_forks.proofs.Memory.{built, lends, all_go, mut_at, at_index, IsHeld, Holds, called, Cr, Pl, Mark, sz, Place, word_had, filled_within, Others, taken_out, put_back}
use Rattle.dine_forks.specs.Lends.{with_slots}
use Rattle.dine_forks.specs.contracts.lists.cells.Cells.at_mut.Key.{name as #self}
use Rattle.dine_forks.proofs.lists.cells.Cells.at_mut.Statement as stated
use Rattle.dine_forks.proofs.lists.cells.Cells.at_mut.Code as code

-- its signature, and which parameters it still has at its end
abbrev ended : El → Ended
ended = lends (λ T. mut_ref_to (0 ∷ []) tt (plain (λ _. T))) no

-- its clauses
abbrev spec : (E : El) {M : Type 1} {𝓤 : Ura M} (𝓛 : Logic 𝓤) → Clauses 𝓤 (ended E)
spec E {𝓤 = 𝓤} 𝓛 κs a = record { ghost = Unit {0}; requires = λ _. fact 𝓤 (IsHeld E a.0.now a.1.0); ensures = λ _ r w. sep 𝓤 (sem 𝓛 (follows (Cr E) (R E) a.0.ghost_name r.ghost_name (λ w. with_slots a.0.now (set a.0.now.slots (at_index E a.0.now a.1.0) (Some w))))) (fact 𝓤 (Holds E a.0.now a.1.0 r.now)) }

module _ (E : El) {M : Type 1} {𝓤 : Ura M} (𝓛 : Logic 𝓤) (C : Calls 𝓤 𝓛.H) (Λ : Loops 𝓤 𝓛.H) (κ : Lft) (q : Share) (rb ro : ℕ) (γ : GName) (d : (Cr E).Denot) (place : Pl.Denot) (us0 us1 : List Val) where
  open 𝓛 use {H, A}

  -- what a call binds
  abbrev bound : (walk_of 𝓛 (ended E) (all_go (ended E)) (spec E 𝓛)).Ghost
  bound = (((κ, tt), (q, tt), tt, (mut_at rb ro γ d, (place, tt)), (us0, (us1, tt))), tt)

  -- what it owes at its end
  abbrev Post : Val → SProp 𝓤
  Post = (walk_of 𝓛 (ended E) (all_go (ended E)) (spec E 𝓛)).post bound

  -- the number of the place
  abbrev index : ℕ
  index = at_index E d place

  -- the places as the loan leaves them
  abbrev new : el_x E → (Cr E).Denot
  new w = with_slots d (set d.slots index (Some w))

  module _ (vs : List Val) (b o : ℕ) where
    -- all but the value
    abbrev Rest : Fml
    Rest = fsep (Others E 𝓛 b o d.slots index) (fsep ((Mark E).own_val (tt, tt) vs) (cell_at full_share (Cr E).mir vs rb ro))

    -- what the loan gives back
    back : d.at ≡ block_ptr b o → index < length d.slots → length d.slots * sz E < 2 ^ 63
        → (w : el_x E) → ent 𝓤 (sep 𝓤 (sem 𝓛 ((mem (R E)).own_at w b (index * sz E + o))) (sem 𝓛 Rest)) (sem 𝓛 ((mem (Cr E)).own_at (new w) rb ro))
    unfolding part_of
    back e within small w =
        let long = length-set d.slots index (Some w) in
        qed 𝓛 (‵ (slot (R E) b (index * sz E + o) (Some w)) ∷ ‵ Rest ∷ []) ∵ move ! (1 ∷ []) $ fsplit3 ! $ move ! (3 ∷ 0 ∷ []) $
        use2 𝓛 (‵ (slots (R E) b o (new w).slots)) (put_back E 𝓛 b o d.slots index within (Some w)) $
        flt_i ! (length (new w).slots * sz E) (2 ^ 63) (subst (λ k. k * sz E < 2 ^ 63) (sym long) small) $ fjoin ! $
        rewrite ! 0 (λ (p : Ptr). ‵ (cells_own (R E) p (new w).slots)) (sym e) refl $ move ! (1 ∷ 0 ∷ []) $ fjoin ! $ move ! (1 ∷ 0 ∷ []) $ fjoin ! $
        fpack ! (List Val) (λ us. fsep (cell_at full_share (Cr E).mir us rb ro) ((Cr E).own_val (new w) us)) vs $ done !

  -- what is left at its end is what it owes
  exits : (v : Val) (r : MutBor (el_x E)) → Holds E d place r.now
      → ent 𝓤 (sep 𝓤 (sem 𝓛 ((MutRef (named 0) κ (R E)).own_val r (v ∷ []))) (sep 𝓤 (A.lft κ q) (sem 𝓛 (follows (Cr E) (R E) γ r.ghost_name new)))) (Post v)
  exits v r e =
      qed 𝓛 (‵ ((MutRef (named 0) κ (R E)).own_val r (v ∷ [])) ∷ ‵ (flft κ q) ∷ ‵ (follows (Cr E) (R E) γ r.ghost_name new) ∷ []) ∵
      suffices ! _ (ends_at 𝓛 (ended E) (all_go (ended E)) (spec E 𝓛) bound v r (tt, (tt, tt)) (tt, (tt, tt))) $
      nothing ! $ nothing ! $ fjoin ! $ nothing ! $ fjoin ! $ join ! $ nothing ! $ move ! (2 ∷ 0 ∷ []) $ join ! $ join ! $ frame ! $ says ! e $ done !

  -- what it has at its start
  abbrev Had : List (Item 𝓤)
  Had = ‵ (fobs γ ((Cr E).coded.code d)) ∷ ‵ (fbor κ (Borrowed (mem (Cr E)) rb ro γ)) ∷ ‵ (flft κ q) ∷ []

  -- the code, statement by statement
  walk : IsHeld E d place → ent 𝓤 (⋆ 𝓛 Had) (WpFn 𝓤 H C Λ (built E code.function) (vptr rb ro ∷ word place.ptr ∷ []) Post)
  walk asked =
      let x = asked.1.0 in let within = filled_within d.slots index x asked.1.1 in let kept = (Cr E).coded.code d in
      qed 𝓛 Had ∵ enter ! C Λ (built E code.function) (vptr rb ro ∷ word place.ptr ∷ []) _ $ alloc_all ! (λ l. pass_all ! refl ((tt, tt), (word-Good [] place.ptr, tt)) $
      let En : Env 𝓤 H = env (built E code.function).locals l in
      opens ! tt (Cr E) {h = d} rb ro (λ vs. move ! (1 ∷ []) $ fsplit ! $ move ! (1 ∷ []) $
      in_a_block ! d.at (λ p. cells_own (R E) p d.slots) (id⊢ 𝓤 (never 𝓤)) (λ b o e. fsplit ! $ flt_l ! (λ small.
      let s = sz E in
      let spot : place.ptr ≡ block_ptr b (index * s + o) = asked.0 ∙ ap (λ (p : Ptr). ptr_add (R E) index p) e in
      take_at ! 2 $ rewrite ! 0 (λ (p : Ptr). ‵ (fat full_share (layout Pl) (l 2) 0 (word p))) spot refl $ give_at ! 2 $ first ! $ blocks ! $
      sets ! (of_opd ! (get_in ! (fld ! refl (stop !)) (sub ! 0 refl (whole !)))) refl (tt, tt) $
      use1 𝓛 (‵ (slot (R E) b (index * s + o) (get_or d.slots index None)) ⊛ ‵ (Others E 𝓛 b o d.slots index)) (taken_out E 𝓛 b o d.slots index within) $ split ! $ rewrite ! 0 (λ (c : Place E). ‵ (slot (R E) b (index * s + o) c)) asked.1.1 refl $
      let way = back vs b o e within small in let at = index * s + o in
      sets_last ! (addr ! (through ! refl (stop !))) refl (tt, tt) $ exec ! C Λ En (after 1 (built E code.function).body) (at_ret En Post) $ sets ! (of_opd ! (get ! refl)) refl (tt, tt) $
      move ! (1 ∷ 2 ∷ 3 ∷ []) $ fjoin3 ! $ move ! (2 ∷ 3 ∷ 4 ∷ 1 ∷ 0 ∷ []) $ group ! 5 $
      use1 𝓛 (later (some (λ (δ : GName). raw (Part 𝓛 (Cr E) (R E) new (named 0) κ q rb ro b at γ (sem 𝓛 (Rest vs b o)) way x δ))))
      (lends_Part 𝓛 (Cr E) (R E) new (named 0) κ q rb ro b at γ (sem 𝓛 (Rest vs b o)) way kept kept x) $ await ! tt $ pick ! (λ δ.
      returns ! (look_at ! 0 refl) $ free_all ! refl $ keep ! (0 ∷ []) $ by ! (exits (vptr b at) (record { ref_ptr = (b, at); ghost_name = δ; now = x }) asked.1.1))))))

  -- its start, from what a call hands over
  entry : IsHeld E d place → ent 𝓤 (on_entry 𝓛 (ended E).signature (κ, tt) (q, tt) (mut_at rb ro γ d, (place, tt)) (us0, (us1, tt))) (WpFn 𝓤 H C Λ (built E code.function) (us0 ++ (us1 ++ [])) Post)
  entry asked =
      qed 𝓛 ((‵ (flft κ q) ⊛ ‵ ftrue) ∷ ‵ (owns (MutRef (named 0) κ (Cr E) ∷ Pl ∷ []) (mut_at rb ro γ d, (place, tt)) (us0, (us1, tt))) ∷ []) ∵
      split ! $ move ! (2 ∷ []) $ fsplit ! $ fsplit3 ! $ feq_l ! (λ e0. move ! (2 ∷ []) $ fsplit ! $ word_had ! place.ptr us1 (λ e1.
      keep ! (1 ∷ 2 ∷ 3 ∷ []) $
      by ! (subst (λ (ws : List Val × List Val). ent 𝓤 (⋆ 𝓛 Had) (WpFn 𝓤 H C Λ (built E code.function) (ws.0 ++ (ws.1 ++ [])) Post)) (λ j. (sym e0 j, sym e1 j)) (walk asked))))

-- so each call of it meets its contract
pub at_mut_spec : {M : Type 1} → stated.statement M
at_mut_spec 𝓤 𝓛 𝓜 𝓡 wired X LX y =
    called 𝓤 𝓛 𝓜 𝓡 (record { row = X; laws = LX }) ended (λ E. spec E 𝓛) (λ E. #self (args E)) code.function (code.unfolded 𝓤 𝓛.H 𝓜 𝓡 wired (X, tt))
    (λ E 𝓣. walk_Meets 𝓛 (ended E) (all_go (ended E)) (Goes-spent_ref 𝓛 1 (0 ∷ []) tt (plain (λ _. Cr E)), (Goes-dropped 𝓛 1 (plain (λ _. Pl)) no (λ κs x f. refl), tt)) (spec E 𝓛) (WpFn 𝓤 𝓛.H 𝓣.C 𝓣.Λ (built E code.function)) (WpFn-mono 𝓤 𝓛.H 𝓛.laws 𝓣 (built E code.function))
    (λ z. needs 𝓤 (IsHeld E z.0.3.0.now z.0.3.1.0) _ (entry E 𝓛 𝓣.C 𝓣.Λ z.0.0.0 z.0.1.0 z.0.3.0.ref_ptr.0 z.0.3.0.ref_ptr.1 z.0.3.0.ghost_name z.0.3.0.now z.0.3.1.0 z.0.4.0 z.0.4.1.0)))
    ((y.0.0, y.0.1, tt, y.0.3, y.0.4), y.1)
