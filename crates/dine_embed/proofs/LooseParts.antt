-- A `Loose` and its machine value, which is two words: an address, and an allocator's handle. Assumes `Logic`.
--     pair, pair-good      the machine value, and that it has its type
--     both                 how such a value is made of two operands
--     words, at-a-block    which it is, from what is known of the two fields, and of the address
--     laws_of              the laws of a box's allocator
--     take-apart           from a `Loose`: the two words, what stands for the handle, and what the box owned
--     put-together         the reverse
--     runs-on              a function of one parameter, on the value that this parameter is known to be
use Rattle.std.proofs.Common.{◌≡◌, ℕ, List, [], ◌∷◌, ◌++◌, refl, sym, subst}
use mathlib.Core.Bool.{true, ◌&&◌}
use lib.Dec.{T}
use seplogic.Ra.Ura.{Ura}
use mir.Syntax.{Opd as Operand, aggregate, impl, tnil, dnil}
use mir.Raw.{raw as bare}
use mir.Val.{Val, vptr, vstruct, vcons, vnil, of_list, has_ty, WT}
use base.Fml.{Fml}
use base.Logic.{SProp, never, fst∗, ent, id⊢}
use prog.Wp.{Env}
use types.Logic.{Logic, sem}
use types.Kit.{Item, Goal, Seq, Step, step, prop, ‵, ◌$◌, move, drop, suffices, fsplit, fjoin, fpick, fpack, feq_i, feq_l}
use types.Part.{agg}
use types.Run.{Opd, Rv, and_then, no_more}
use denote.RattleType.{RattleType, Valss}
use denote.Builtin.{RawPtr}
use denote.Memory.{lone}
use denote.RawPtr.{Ptr, block_ptr, null_ptr, ptr_val, in_a_block}
use denote.Steps.{nothing}
use denote.Param.{layout}
use denote.Param.Laws.{Laws, param_laws}
use denote.Struct.Struct.{within}
use denote.Struct.Owning.{shape}
use Rattle.core.specs.declared.alloc.Allocator.{Ghosts}
use Rattle.core.proofs.alloc.Calls.{Al, handle_tells}
use Rattle.core.proofs.cell.Inside.{Good}
use Rattle.std_alloc.specs.Box.Ownership.{box_owns}
use Rattle.std_alloc.proofs.BoxSteps.Form as box
use Rattle.std_alloc.proofs.ResultValues.{and_tt}
use Rattle.dine_embed.specs.contracts.loose.Loose as loose

-- two words beside one another
abbrev pub pair : Val → Val → Val
pair first second = vstruct (vcons first (vcons second vnil))

-- a struct of two operands is made of their values
pub both : {M : Type 1} {𝓤 : Ura M} {𝓛 : Logic 𝓤} {K : Type 0} {Γ : List (Item 𝓤)} {E : Env 𝓤 𝓛.H} → K → {x y : Operand} {first second : Val}
    → Opd K 𝓛 Γ E x first → Opd K 𝓛 Γ E y second → Rv K 𝓛 Γ E (aggregate (x ∷ y ∷ [])) (pair first second)
both t a b = agg t (and_then t a (and_then t b (no_more t)))

-- what the words of a struct's fields make of its machine value, one field after the other
pub words : (vs ps hs : List Val) (at : Ptr) (h : Val)
    → vs ≡ vstruct (of_list (ps ++ (hs ++ []))) ∷ [] → ps ≡ ptr_val at ∷ [] → hs ≡ h ∷ []
    → vs ≡ pair (ptr_val at) h ∷ []
words vs ps hs at h value address handle =
    subst (λ (ws : List Val). vs ≡ vstruct (of_list (ptr_val at ∷ (ws ++ []))) ∷ []) handle
    (subst (λ (ws : List Val). vs ≡ vstruct (of_list (ws ++ (hs ++ []))) ∷ []) address value)

-- the same, where the address is that of a place in a block
pub at-a-block : (vs : List Val) (at : Ptr) (b o : ℕ) (h : Val)
    → at ≡ block_ptr b o → vs ≡ pair (ptr_val at) h ∷ [] → vs ≡ pair (vptr b o) h ∷ []
at-a-block vs at b o h block = subst (λ (p : Ptr). vs ≡ pair (ptr_val p) h ∷ []) block

-- the laws of a box's allocator
abbrev pub laws_of : (E : box.Bx) → Laws (box.P E)
laws_of E = param_laws 1 E.al.row E.al.laws

-- what is to be shown of a function's run on the value that its one parameter is known to be
pub runs-on : {M : Type 1} {𝓤 : Ura M} {𝓛 : Logic 𝓤} {K : Type 0} {Γ : List (Item 𝓤)} → K → (Run : List Val → SProp 𝓤)
    (w : Val) {vs : List Val} → vs ≡ w ∷ [] → Step K 𝓛 Γ (prop (Run (w ∷ []))) Γ (prop (Run (vs ++ [])))
runs-on {𝓤} t Run w is =
    suffices t (Run (w ∷ [])) (subst (λ (ws : List Val). ent 𝓤 (Run (w ∷ [])) (Run ws)) (sym (λ i. is i ++ [])) (id⊢ 𝓤 (Run (w ∷ []))))

-- `R` and `Z` are the rows of the value and of the allocator, `L` the laws of the latter and `g` its ghost members
module _ (R Z : RattleType) (L : Laws Z) (g : Ghosts Z.Denot) where
  -- the row of a `Loose` of such a value and allocator
  abbrev pub Loose : RattleType
  Loose = loose.the_row R Z g

  -- the allocator, as what reads a handle's bits wants it
  abbrev pub allocator : Al
  allocator = record { row = Z; laws = L; g = g; d = impl [] tnil dnil; drops = impl [] tnil dnil }

  -- the machine value has its type
  pub pair-good : (b o : ℕ) (h : Val) → Good (layout Z) h
      → T (has_ty (layout Z) h && true) × WT (pair (vptr b o) h)
  pair-good b o h fits = (and_tt (has_ty (layout Z) h) fits.0, (tt, (fits.1, tt)))

  -- what a box owns whose value is at this address
  abbrev pub boxed : Z.Denot → R.Denot → Ptr → Fml
  boxed a x p = box_owns (g.dealloc_token a) R p x

  module _ {M : Type 1} {𝓤 : Ura M} {𝓛 : Logic 𝓤} {K : Type 0} {Γ : List (Item 𝓤)} {G : Goal 𝓤 𝓛.H} where
    -- from a `Loose`: the two words, what stands for the allocator's handle, and what the box owned
    pub take-apart : K → (d : Loose.Denot) (vs : List Val)
        → ((b o : ℕ) (h : Val) → d.address ≡ block_ptr b o → vs ≡ pair (vptr b o) h ∷ [] → Good (layout Z) h
        → Seq K 𝓛 (‵ (boxed d.alloc d.value (block_ptr b o)) ∷ ‵ (Z.own_val d.alloc (h ∷ [])) ∷ Γ) G)
        → Seq K 𝓛 (‵ (Loose.own_val d vs) ∷ Γ) G
    take-apart t d vs k =
        fsplit t $ fpick t (λ fields. fsplit t $
        feq_l t (λ value. fsplit t $
        feq_l t (λ address. fsplit t $
        handle_tells allocator t d.alloc fields.1.0 (λ h handle fits.
        move t (1 ∷ []) $ drop t $ move t (1 ∷ []) $
        in_a_block t d.address (boxed d.alloc d.value)
        (fst∗ 𝓤 (never 𝓤) (sem 𝓛 (g.dealloc_token d.alloc (bare (lone R.mir)) null_ptr))) (λ b o block.
        k b o h block (at-a-block vs d.address b o h block (words vs fields.0 fields.1.0 d.address h value address handle)) fits)))))

    -- the reverse
    pub put-together : K → (b o : ℕ) (h : Val) (a : Z.Denot) (x : R.Denot)
        → Step K 𝓛 (‵ (Loose.own_val (record { address = block_ptr b o; alloc = a; value = x }) (pair (vptr b o) h ∷ [])) ∷ Γ) G
        (‵ (boxed a x (block_ptr b o)) ∷ ‵ (Z.own_val a (h ∷ [])) ∷ Γ) G
    put-together t b o h a x = step (λ rest.
        let v : Val = pair (vptr b o) h in
        nothing t $ move t (2 ∷ 0 ∷ []) $ fjoin t $
        feq_i t (List Val) (vptr b o ∷ []) (vptr b o ∷ []) refl $ fjoin t $
        feq_i t (List Val) (v ∷ []) (v ∷ []) refl $ fjoin t $
        fpack t (Valss (RawPtr ∷ Z ∷ [])) (within (shape (loose.the_type R Z g)) (block_ptr b o, (a, tt)) (v ∷ [])) (vptr b o ∷ [], (h ∷ [], tt)) $
        fjoin t $ rest)
