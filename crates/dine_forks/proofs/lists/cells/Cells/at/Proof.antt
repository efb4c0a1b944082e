-- `at` shows one value that the places lend. Assumes `Logic`.
use Rattle.dine_forks.proofs.Raw.{◌≡◌, refl, sym, ap, subst, ◌∙◌, ℕ, ◌+◌, ◌*◌, List, [], ◌∷◌, ◌++◌, Ura, full_share, named, Val, vptr, SProp, ent, never, id⊢, Lft, Share, ftrue, fat, flft, Env, Calls, Loops, WpFn, Logic, fact, WpFn-mono, Item, ⋆, ‵, ◌⊛◌, at_ret, ◌$◌, ◌∵◌, !, qed, by, move, keep, drop, use1, split, join, rewrite, fsplit, fjoin, feq_i, feq_l, suffices, frame, done, flt_l, whole, sub, stop, fld, of_opd, addr, first, blocks, exec, returns, enter, alloc_all, pass_all, free_all, look_at, get, get_in, through, sets, sets_last, env, take_at, give_at, yes, no, owns, hidden_shr, layout, Ptr, block_ptr, in_a_block, ShrRef, shr_ref_to, plain, hide, unhide, nothing, Clauses, Ended, on_entry, says, needs, walk_of, ends_at, Goes-dropped, walk_Meets, after, word, word-Good, get_or, None, El, R, args, ptr_add}
use Rattle.dine_forks.specs.Ownership.{slot_lent, cells_lent}
use Rattle.dine_forks.proofs.Memory.{built, lends, all_go, ref_at, at_index, IsHeld, Holds, called, Cr, Pl, sz, Place, word_had, filled_within, seen_at}
use Rattle.dine_forks.specs.contracts.lists.cells.Cells.at.Key.{name as #self}
use Rattle.dine_forks.proofs.lists.cells.Cells.at.Statement as stated
use Rattle.dine_forks.proofs.lists.cells.Cells.at.Code as code

-- its signature, and which parameters it still has at its end
abbrev ended : El → Ended
ended = lends (λ T. shr_ref_to (0 ∷ []) tt (plain (λ _. T))) yes

-- its clauses
abbrev spec : (E : El) {M : Type 1} {𝓤 : Ura M} (𝓛 : Logic 𝓤) → Clauses 𝓤 (ended E)
spec E {𝓤 = 𝓤} 𝓛 κs a = record { ghost = Unit {0}; requires = λ _. fact 𝓤 (IsHeld E a.0.now a.1.0); ensures = λ _ r w. fact 𝓤 (Holds E a.0.now a.1.0 r.now) }

module _ (E : El) {M : Type 1} {𝓤 : Ura M} (𝓛 : Logic 𝓤) (C : Calls 𝓤 𝓛.H) (Λ : Loops 𝓤 𝓛.H) (κ : Lft) (q : Share) (rb ro : ℕ) (d : (Cr E).Denot) (place : Pl.Denot) (us0 us1 : List Val) where
  open 𝓛 use {H, A}

  -- what a call binds
  abbrev bound : (walk_of 𝓛 (ended E) (all_go (ended E)) (spec E 𝓛)).Ghost
  bound = (((κ, tt), (q, tt), tt, (ref_at rb ro d, (place, tt)), (us0, (us1, tt))), tt)

  -- what it owes at its end
  abbrev Post : Val → SProp 𝓤
  Post = (walk_of 𝓛 (ended E) (all_go (ended E)) (spec E 𝓛)).post bound

  -- what it has at its start
  abbrev Had : List (Item 𝓤)
  Had = ‵ (hidden_shr (Cr E) κ d rb ro) ∷ ‵ (flft κ q) ∷ []

  -- the code, statement by statement
  walk : IsHeld E d place → ent 𝓤 (⋆ 𝓛 Had) (WpFn 𝓤 H C Λ (built E code.function) (vptr rb ro ∷ word place.ptr ∷ []) Post)
  walk asked =
      let index = at_index E d place in let x = asked.1.0 in let within = filled_within d.slots index x asked.1.1 in
      qed 𝓛 Had ∵ enter ! C Λ (built E code.function) (vptr rb ro ∷ word place.ptr ∷ []) _ $ alloc_all ! (λ l. pass_all ! refl ((tt, tt), (word-Good [] place.ptr, tt)) $
      let En : Env 𝓤 H = env (built E code.function).locals l in
      unhide ! $ fsplit ! $ drop ! $ in_a_block ! d.at (λ p. cells_lent (R E) p d.slots κ) (id⊢ 𝓤 (never 𝓤)) (λ b o e. fsplit ! $ flt_l ! (λ small.
      let s = sz E in
      let spot : place.ptr ≡ block_ptr b (index * s + o) = asked.0 ∙ ap (λ (p : Ptr). ptr_add (R E) index p) e in
      take_at ! 2 $ rewrite ! 0 (λ (p : Ptr). ‵ (fat full_share (layout Pl) (l 2) 0 (word p))) spot refl $ give_at ! 2 $ first ! $ blocks ! $
      sets ! (of_opd ! (get_in ! (fld ! refl (stop !)) (sub ! 0 refl (whole !)))) refl (tt, tt) $
      use1 𝓛 (‵ (slot_lent (R E) b (index * s + o) (get_or d.slots index None) κ)) (seen_at E 𝓛 b κ o d.slots index within) $
      rewrite ! 0 (λ (c : Place E). ‵ (slot_lent (R E) b (index * s + o) c κ)) asked.1.1 refl $ hide ! $
      sets_last ! (addr ! (through ! refl (stop !))) refl (tt, tt) $ exec ! C Λ En (after 1 (built E code.function).body) (at_ret En Post) $ sets ! (of_opd ! (get ! refl)) refl (tt, tt) $
      feq_i ! (List Val) (vptr b (index * s + o) ∷ []) (vptr b (index * s + o) ∷ []) refl $ fjoin ! $
      returns ! (look_at ! 0 refl) $ free_all ! refl $ keep ! (1 ∷ 0 ∷ []) $ suffices ! _ (ends_at 𝓛 (ended E) (all_go (ended E)) (spec E 𝓛) bound (vptr b (index * s + o)) (record { ref_ptr = (b, index * s + o); now = x }) (tt, (tt, tt)) (tt, (tt, tt))) $ says ! asked.1.1 $
      nothing ! $ move ! (1 ∷ 0 ∷ []) $ join ! $ frame ! $ nothing ! $ nothing ! $ fjoin ! $ nothing ! $ fjoin ! $ done !)))

  -- its start, from what a call hands over
  entry : IsHeld E d place → ent 𝓤 (on_entry 𝓛 (ended E).signature (κ, tt) (q, tt) (ref_at rb ro d, (place, tt)) (us0, (us1, tt))) (WpFn 𝓤 H C Λ (built E code.function) (us0 ++ (us1 ++ [])) Post)
  entry asked =
      qed 𝓛 ((‵ (flft κ q) ⊛ ‵ ftrue) ∷ ‵ (owns (ShrRef (named 0) κ (Cr E) ∷ Pl ∷ []) (ref_at rb ro d, (place, tt)) (us0, (us1, tt))) ∷ []) ∵
      split ! $ move ! (2 ∷ []) $ fsplit ! $ fsplit ! $ feq_l ! (λ e0. move ! (1 ∷ []) $ fsplit ! $ word_had ! place.ptr us1 (λ e1. keep ! (1 ∷ 2 ∷ []) $
      by ! (subst (λ (ws : List Val × List Val). ent 𝓤 (⋆ 𝓛 Had) (WpFn 𝓤 H C Λ (built E code.function) (ws.0 ++ (ws.1 ++ [])) Post)) (λ j. (sym e0 j, sym e1 j)) (walk asked))))

-- so each call of it meets its contract
pub at_spec : {M : Type 1} → stated.statement M
at_spec 𝓤 𝓛 𝓜 𝓡 wired X LX y =
    called 𝓤 𝓛 𝓜 𝓡 (record { row = X; laws = LX }) ended (λ E. spec E 𝓛) (λ E. #self (args E)) code.function (code.unfolded 𝓤 𝓛.H 𝓜 𝓡 wired (X, tt))
    (λ E 𝓣. walk_Meets 𝓛 (ended E) (all_go (ended E)) (Goes-dropped 𝓛 1 (shr_ref_to (0 ∷ []) tt (plain (λ _. Cr E))) yes (λ κs x f. refl), (Goes-dropped 𝓛 1 (plain (λ _. Pl)) no (λ κs x f. refl), tt)) (spec E 𝓛) (WpFn 𝓤 𝓛.H 𝓣.C 𝓣.Λ (built E code.function)) (WpFn-mono 𝓤 𝓛.H 𝓛.laws 𝓣 (built E code.function))
    (λ z. needs 𝓤 (IsHeld E z.0.3.0.now z.0.3.1.0) _ (entry E 𝓛 𝓣.C 𝓣.Λ z.0.0.0 z.0.1.0 z.0.3.0.ref_ptr.0 z.0.3.0.ref_ptr.1 z.0.3.0.now z.0.3.1.0 z.0.4.0 z.0.4.1.0)))
    ((y.0.0, y.0.1, tt, y.0.3, y.0.4), y.1)
