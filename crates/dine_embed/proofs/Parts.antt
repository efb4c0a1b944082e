-- A `Handle` and its machine value, which is two words: an address, and the allocator's. Assumes `Logic`.
--     apart                            the two words, and what the handle owns
--     open-apart, open-together        an open handle, which owns what the box owns
--     closed-apart, closed-together    a closed one, which owns nothing
use Rattle.std.proofs.Common.{◌≡◌, ℕ, Bool, true, false, List, [], ◌∷◌, refl, lit<, arith}
use lib.Dec.{T}
use seplogic.Ra.Ura.{Ura}
use mir.Raw.{raw as bare}
use mir.Syntax.{w64, ty_ptr}
use mir.Val.{Val, vint, vptr, has_ty, WT}
use base.Fml.{Fml}
use base.Logic.{never, fst∗}
use types.Logic.{Logic, sem}
use types.Kit.{Item, Goal, Seq, Step, step, ‵, ◌$◌, move, drop, fsplit, fjoin, fpick, fpack, rewrite, feq_i, feq_l}
use denote.RattleType.{Valss}
use denote.Builtin.{RawPtr}
use denote.Steps.{nothing}
use denote.Struct.Struct.{within}
use denote.Struct.Owning.{shape, to}
use denote.Memory.{lone}
use denote.RawPtr.{Ptr, block_ptr, null_ptr, ptr_val, in_a_block}
use denote.Param.{layout}
use Rattle.core.proofs.alloc.Calls.{handle_tells}
use Rattle.core.proofs.cell.Inside.{Good}
use Rattle.std_alloc.specs.Box.Ownership.{box_owns}
use Rattle.std_alloc.proofs.ResultValues.{and_tt}
use Rattle.std_heap.specs.contracts.Global as heap
use Rattle.std_heap.specs.contracts.GlobalAllocator.TheImpl.{ghosts}
use Rattle.std_heap.proofs.Global.TheLaws as heap_laws
use Rattle.dine_arbiter.specs.contracts.arbiter.Arbiter as arbiter
use Rattle.dine_words.specs.declared.limits.Limits.{Limits}
use Rattle.dine_table.specs.Table.{opening_table}
use Rattle.dine_arbiter.specs.Arbitration.{Arbiter}
use Rattle.dine_embed.proofs.LooseParts.{pair, words, at-a-block, allocator}
use Rattle.dine_embed.specs.Owned.{owned_if}
use Rattle.dine_embed.specs.contracts.handle.Handle as handle

-- some limits, and an arbiter with them: of what a closed handle speaks, which means nothing
some_limits : Limits
some_limits = record { tasks = 1; conflicts = 1; some_tasks = omega arith; tasks_in_range = omega arith; some_conflicts = omega arith; conflicts_in_range = omega arith }

-- any value: a closed handle has one, of which nothing is said
pub some_value : Arbiter
some_value = record { table = opening_table some_limits; forks = []; messages = 0 }

-- an address has the type of one, null too
pub address-good : (p : Ptr) → T (has_ty ty_ptr (ptr_val p)) × WT (ptr_val p)
address-good (block_ptr b o) = (tt, tt)
address-good null_ptr = (tt, record { fits = lit< tt })

-- the two words have their type
pub pair-typed : (p : Ptr) (h : Val) → Good (layout heap.the_row) h → Good (layout handle.the_row) (pair (ptr_val p) h)
pair-typed (block_ptr b o) h fits = (and_tt (has_ty (layout heap.the_row) h) fits.0, (tt, (fits.1, tt)))
pair-typed null_ptr h fits = (and_tt (has_ty (layout heap.the_row) h) fits.0, (record { fits = lit< tt }, (fits.1, tt)))

-- what a box owns whose value is at this address
abbrev pub boxed : heap.the_row.Denot → arbiter.the_row.Denot → Ptr → Fml
boxed a x p = box_owns (ghosts.dealloc_token a) arbiter.the_row p x

module _ {M : Type 1} {𝓤 : Ura M} {𝓛 : Logic 𝓤} {K : Type 0} {Γ : List (Item 𝓤)} {G : Goal 𝓤 𝓛.H} where
  apart : K → (d : handle.the_row.Denot) (vs : List Val)
      → ((h : Val) → vs ≡ pair (ptr_val d.address) h ∷ [] → Good (layout heap.the_row) h
      → Seq K 𝓛 (‵ (owned_if d.holds (boxed d.alloc d.value d.address)) ∷ ‵ (heap.the_row.own_val d.alloc (h ∷ [])) ∷ Γ) G)
      → Seq K 𝓛 (‵ (handle.the_row.own_val d vs) ∷ Γ) G
  apart t d vs k =
      fsplit t $ fpick t (λ fields. fsplit t $
      feq_l t (λ value. fsplit t $
      feq_l t (λ address. fsplit t $
      handle_tells (allocator arbiter.the_row heap.the_row heap_laws.the_row_laws ghosts) t d.alloc fields.1.0 (λ h word fits.
      move t (1 ∷ []) $ drop t $ move t (1 ∷ []) $
      k h (words vs fields.0 fields.1.0 d.address h value address word) fits))))

  -- from an open handle: its two words, what a box owns there, and what stands for the allocator
  pub open-apart : K → (d : handle.the_row.Denot) → d.holds ≡ true → (vs : List Val)
      → ((b o : ℕ) (h : Val) → vs ≡ pair (vptr b o) h ∷ [] → Good (layout heap.the_row) h
      → Seq K 𝓛 (‵ (boxed d.alloc d.value (block_ptr b o)) ∷ ‵ (heap.the_row.own_val d.alloc (h ∷ [])) ∷ Γ) G)
      → Seq K 𝓛 (‵ (handle.the_row.own_val d vs) ∷ Γ) G
  open-apart t d is vs k =
      apart t d vs (λ h us fits.
      rewrite t 0 (λ (q : Bool). ‵ (owned_if q (boxed d.alloc d.value d.address))) is refl $
      in_a_block t d.address (boxed d.alloc d.value)
      (fst∗ 𝓤 (never 𝓤) (sem 𝓛 (ghosts.dealloc_token d.alloc (bare (lone arbiter.the_row.mir)) null_ptr))) (λ b o block.
      k b o h (at-a-block vs d.address b o h block us) fits))

  -- the reverse
  pub open-together : K → (b o : ℕ) (h : Val) (a : heap.the_row.Denot) (x : arbiter.the_row.Denot)
      → Step K 𝓛 (‵ (handle.the_row.own_val (record { address = block_ptr b o; alloc = a; holds = true; value = x }) (pair (vptr b o) h ∷ [])) ∷ Γ) G
      (‵ (boxed a x (block_ptr b o)) ∷ ‵ (heap.the_row.own_val a (h ∷ [])) ∷ Γ) G
  open-together t b o h a x = step (λ rest.
      let v : Val = pair (vptr b o) h in
      nothing t $ move t (2 ∷ 0 ∷ []) $ fjoin t $
      feq_i t (List Val) (vptr b o ∷ []) (vptr b o ∷ []) refl $ fjoin t $
      feq_i t (List Val) (v ∷ []) (v ∷ []) refl $ fjoin t $
      fpack t (Valss (RawPtr ∷ heap.the_row ∷ []))
      (within (shape handle.the_type) (to handle.the_type (record { address = block_ptr b o; alloc = a; holds = true; value = x })) (v ∷ []))
      (vptr b o ∷ [], (h ∷ [], tt)) $
      fjoin t $ rest)

  -- from a closed handle: its two words, and what stands for the allocator
  pub closed-apart : K → (d : handle.the_row.Denot) → d.holds ≡ false → (vs : List Val)
      → ((h : Val) → vs ≡ pair (ptr_val d.address) h ∷ [] → Good (layout heap.the_row) h
      → Seq K 𝓛 (‵ (heap.the_row.own_val d.alloc (h ∷ [])) ∷ Γ) G)
      → Seq K 𝓛 (‵ (handle.the_row.own_val d vs) ∷ Γ) G
  closed-apart t d is vs k = apart t d vs (λ h us fits. drop t $ k h us fits)

  -- the reverse
  pub closed-together : K → (h : Val) (a : heap.the_row.Denot) (x : arbiter.the_row.Denot)
      → Step K 𝓛 (‵ (handle.the_row.own_val (record { address = null_ptr; alloc = a; holds = false; value = x }) (pair (vint w64 0) h ∷ [])) ∷ Γ) G
      (‵ (heap.the_row.own_val a (h ∷ [])) ∷ Γ) G
  closed-together t h a x = step (λ rest.
      let v : Val = pair (vint w64 0) h in
      nothing t $ nothing t $ move t (2 ∷ 0 ∷ []) $ fjoin t $
      feq_i t (List Val) (vint w64 0 ∷ []) (vint w64 0 ∷ []) refl $ fjoin t $
      feq_i t (List Val) (v ∷ []) (v ∷ []) refl $ fjoin t $
      fpack t (Valss (RawPtr ∷ heap.the_row ∷ []))
      (within (shape handle.the_type) (to handle.the_type (record { address = null_ptr; alloc = a; holds = false; value = x })) (v ∷ []))
      (vint w64 0 ∷ [], (h ∷ [], tt)) $
      fjoin t $ rest)
