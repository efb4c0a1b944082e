-- `place` says where a place lies. Assumes `Logic`.
use Rattle.dine_forks.proofs.Raw.{◌≡◌, refl, sym, ap, subst, ◌∙◌, ℕ, ◌+◌, ◌*◌, ◌<◌, ◌^◌, arith, List, [], ◌∷◌, ◌++◌, Ura, full_share, named, w64, Val, vptr, vint, SProp, ent, never, id⊢, Lft, Share, ftrue, fat, flft, Env, Calls, Loops, WpFn, Logic, fact, WpFn-mono, Item, ⋆, ‵, ◌⊛◌, at_ret, ◌$◌, ◌∵◌, !, qed, by, move, keep, drop, split, join, rewrite, fsplit, fjoin, feq_l, suffices, frame, done, flt_l, whole, sub, agg, and_then, no_more, stop, fld, of_opd, first, blocks, exec, returns, enter, bin, size_lit, alloc_all, pass_all, free_all, look_at, get, get_in, sets, sets_last, env, take_at, give_at, yes, no, owns, hidden_shr, layout, Ptr, block_ptr, in_a_block, ShrRef, RefOf, usize, plain, unhide, nothing, Clauses, Ended, on_entry, says, needs, walk_of, ends_at, Goes-dropped, walk_Meets, after, word, word-Good, length, El, R, args, times_below, one_below, ptr_add}
use Rattle.dine_forks.specs.Ownership.{cells_lent}
use Rattle.dine_forks.proofs.Memory.{built, all_go, ref_at, called, Cr, Pl, sz, word_had, word_made}
use Rattle.dine_forks.specs.contracts.lists.cells.Cells.place.Key.{name as #self}
use Rattle.dine_forks.proofs.lists.cells.Cells.place.Statement as stated
use Rattle.dine_forks.proofs.lists.cells.Cells.place.Code as code

module _ (E : El) where
  -- its signature, and which parameters it still has at its end
  abbrev ended : Ended
  ended = record { signature = record { lifetimes = 1; outlives = []; params = RefOf (0 ∷ []) tt (plain (λ _. Cr E)) (λ _. tt) ∷ plain (λ _. Pl) ∷ plain (λ _. usize) ∷ []; result = plain (λ _. Pl) }; kept = (yes, (no, (no, tt))) }

  -- what it asks
  abbrev Asks : (Cr E).Denot → Pl.Denot → (usize).Denot → Type 0
  Asks d base index = (base.ptr ≡ d.at) × (index < length d.slots)

  -- what it gives
  abbrev Gives : (Cr E).Denot → Pl.Denot → (usize).Denot → Pl.Denot → Type 0
  Gives d base index r = r.ptr ≡ ptr_add (R E) index d.at

  -- its clauses
  abbrev spec : {M : Type 1} {𝓤 : Ura M} (𝓛 : Logic 𝓤) → Clauses 𝓤 ended
  spec {𝓤 = 𝓤} 𝓛 κs a = record { ghost = Unit {0}; requires = λ _. fact 𝓤 (Asks a.0.now a.1.0 a.1.1.0); ensures = λ _ r w. fact 𝓤 (Gives a.0.now a.1.0 a.1.1.0 r) }

module _ (E : El) {M : Type 1} {𝓤 : Ura M} (𝓛 : Logic 𝓤) (C : Calls 𝓤 𝓛.H) (Λ : Loops 𝓤 𝓛.H) (κ : Lft) (q : Share) (rb ro : ℕ) (d : (Cr E).Denot) (base : Pl.Denot) (index : (usize).Denot) (us0 us1 us2 : List Val) where
  open 𝓛 use {H, A}

  -- what a call binds
  abbrev bound : (walk_of 𝓛 (ended E) (all_go (ended E)) (spec E 𝓛)).Ghost
  bound = (((κ, tt), (q, tt), tt, (ref_at rb ro d, (base, (index, tt))), (us0, (us1, (us2, tt)))), tt)

  -- what it owes at its end
  abbrev Post : Val → SProp 𝓤
  Post = (walk_of 𝓛 (ended E) (all_go (ended E)) (spec E 𝓛)).post bound

  -- what it has at its start
  abbrev Had : List (Item 𝓤)
  Had = ‵ (hidden_shr (Cr E) κ d rb ro) ∷ ‵ (flft κ q) ∷ []

  -- the code, statement by statement
  walk : Asks E d base index → index < 2 ^ 64 → ent 𝓤 (⋆ 𝓛 Had) (WpFn 𝓤 H C Λ (built E code.function) (vptr rb ro ∷ word base.ptr ∷ vint w64 index ∷ []) Post)
  walk asked fits_index =
      let within = asked.1 in
      qed 𝓛 Had ∵ enter ! C Λ (built E code.function) (vptr rb ro ∷ word base.ptr ∷ vint w64 index ∷ []) _ $ alloc_all ! (λ l. pass_all ! refl ((tt, tt), (word-Good [] base.ptr, ((tt, record { fits = fits_index }), tt))) $
      let En : Env 𝓤 H = env (built E code.function).locals l in
      unhide ! $ fsplit ! $ drop ! $ in_a_block ! d.at (λ p. cells_lent (R E) p d.slots κ) (id⊢ 𝓤 (never 𝓤)) (λ b o e. fsplit ! $ flt_l ! (λ small.
      let s = sz E in let tiny : s < 2 ^ 64 = omega (arith, one_below (length d.slots) s (2 ^ 63) (omega arith) small) in
      let far : index * s < 2 ^ 64 = omega (arith, times_below index (length d.slots) s (2 ^ 63) (omega arith) small) in
      let p : Ptr = block_ptr b (index * s + o) in let out : Pl.Denot = record { ptr = p } in
      take_at ! 2 $ rewrite ! 0 (λ (p : Ptr). ‵ (fat full_share (layout Pl) (l 2) 0 (word p))) (asked.0 ∙ e) refl $ give_at ! 2 $ first ! $ blocks ! $
      sets ! (of_opd ! (get_in ! (fld ! refl (stop !)) (sub ! 0 refl (whole !)))) refl (tt, tt) $ sets ! (of_opd ! (get ! refl)) refl (tt, tt) $
      sets ! (of_opd ! (get ! refl)) refl (tt, record { fits = fits_index }) $
      sets ! (bin ! (get ! refl) (size_lit ! (record { fits = tiny })) (record { fits = far })) refl (tt, record { fits = far }) $
      sets_last ! (bin ! (get ! refl) (get ! refl) tt) refl (tt, tt) $ exec ! C Λ En (after 1 (built E code.function).body) (at_ret En Post) $
      sets ! (of_opd ! (get ! refl)) refl (tt, tt) $ sets ! (of_opd ! (get ! refl)) refl (tt, tt) $
      sets ! (agg ! (and_then ! (get ! refl) (no_more !))) refl (word-Good [] p) $
      returns ! (look_at ! 0 refl) $ free_all ! refl $ keep ! (1 ∷ []) $ word_made ! p $ move ! (1 ∷ 0 ∷ []) $
      suffices ! _ (ends_at 𝓛 (ended E) (all_go (ended E)) (spec E 𝓛) bound (word p) out (tt, (tt, (tt, tt))) (tt, (tt, (tt, tt)))) $ says ! (sym (ap (λ (a : Ptr). ptr_add (R E) index a) e)) $
      nothing ! $ move ! (1 ∷ 0 ∷ []) $ join ! $ frame ! $ nothing ! $ nothing ! $ fjoin ! $ nothing ! $ fjoin ! $ nothing ! $ fjoin ! $ done !)))

  -- its start, from what a call hands over
  entry : Asks E d base index → ent 𝓤 (on_entry 𝓛 (ended E).signature (κ, tt) (q, tt) (ref_at rb ro d, (base, (index, tt))) (us0, (us1, (us2, tt)))) (WpFn 𝓤 H C Λ (built E code.function) (us0 ++ (us1 ++ (us2 ++ []))) Post)
  entry asked =
      qed 𝓛 ((‵ (flft κ q) ⊛ ‵ ftrue) ∷ ‵ (owns (ShrRef (named 0) κ (Cr E) ∷ Pl ∷ usize ∷ []) (ref_at rb ro d, (base, (index, tt))) (us0, (us1, (us2, tt)))) ∷ []) ∵
      split ! $ move ! (2 ∷ []) $ fsplit ! $ fsplit ! $ feq_l ! (λ e0. move ! (1 ∷ []) $ fsplit ! $ word_had ! base.ptr us1 (λ e1. fsplit ! $
      fsplit ! $ feq_l ! (λ e2. flt_l ! (λ fits_index. keep ! (1 ∷ 2 ∷ []) $
      by ! (subst (λ (ws : List Val × List Val × List Val). ent 𝓤 (⋆ 𝓛 Had) (WpFn 𝓤 H C Λ (built E code.function) (ws.0 ++ (ws.1 ++ (ws.2 ++ []))) Post)) (λ j. (sym e0 j, sym e1 j, sym e2 j)) (walk asked fits_index))))))

-- so each call of it meets its contract
pub place_spec : {M : Type 1} → stated.statement M
place_spec 𝓤 𝓛 𝓜 𝓡 wired X LX y =
    called 𝓤 𝓛 𝓜 𝓡 (record { row = X; laws = LX }) ended (λ E. spec E 𝓛) (λ E. #self (args E)) code.function (code.unfolded 𝓤 𝓛.H 𝓜 𝓡 wired (X, tt))
    (λ E 𝓣. walk_Meets 𝓛 (ended E) (all_go (ended E)) (Goes-dropped 𝓛 1 (RefOf (0 ∷ []) tt (plain (λ _. Cr E)) (λ _. tt)) yes (λ κs x f. refl), (Goes-dropped 𝓛 1 (plain (λ _. Pl)) no (λ κs x f. refl), (Goes-dropped 𝓛 1 (plain (λ _. usize)) no (λ κs x f. refl), tt))) (spec E 𝓛) (WpFn 𝓤 𝓛.H 𝓣.C 𝓣.Λ (built E code.function)) (WpFn-mono 𝓤 𝓛.H 𝓛.laws 𝓣 (built E code.function))
    (λ z. needs 𝓤 (Asks E z.0.3.0.now z.0.3.1.0 z.0.3.1.1.0) _ (entry E 𝓛 𝓣.C 𝓣.Λ z.0.0.0 z.0.1.0 z.0.3.0.ref_ptr.0 z.0.3.0.ref_ptr.1 z.0.3.0.now z.0.3.1.0 z.0.3.1.1.0 z.0.4.0 z.0.4.1.0 z.0.4.1.1.0)))
    ((y.0.0, y.0.1, tt, y.0.3, y.0.4), y.1)
