-- `from_box` takes the two words that `Box::into_raw_with_allocator` gives, with what the box owned.
use Rattle.std.proofs.Common.{◌≡◌, [], ◌∷◌, refl, ap}
use mir.Syntax.{Args, a_type, dcons, dnil}
use mir.Raw.{raw as bare}
use mir.Val.{Val, vptr}
use mir.MapTy.{inst_fn}
use base.Logic.{emp, never, id⊢, fst∗}
use base.Fml.{ftrue, fsep, flft}
use types.Logic.{sem}
use types.Kit.{‵, raw, ◌⊛◌, some, later, ◌$◌, !, by, move, keep, drop, split, split3, join, fsplit, fjoin, fpick, pick, use0, use1, await, rewrite, feq_l}
use types.Run.{stop, fld, of_opd, no_more, and_then, returns, enter}
use types.ByLocal.{alloc_all, pass_all, free_all, look_at, get, get_in, sets, lands_as}
use types.Part.{sub, whole}
use contract.Monad.{fact, fact_i}
use denote.Exit.{no}
use denote.RattleType.{RattleType}
use denote.Signature.{plain}
use denote.Builtin.{RawPtr}
use denote.RawPtr.{Ptr, block_ptr, null_ptr, in_a_block}
use denote.Steps.{nothing, only, heard}
use denote.Memory.{lone}
use denote.Param.{bounded}
use denote.Struct.Tuple.{Tuple}
use denote.Triple.Spec.{triple_of}
use denote.Triple.Call.{calls_at}
use Rattle.core.proofs.alloc.Calls.{handle_tells}
use Rattle.core.proofs.atomic.Steps.{fm}
use Rattle.std_alloc.proofs.BoxSteps.Form as box
use Rattle.std_alloc.proofs.BoxSteps.Steps.{box_out, box_in}
use Rattle.dine_embed.proofs.LooseParts.{Loose, pair, both, words, at-a-block, laws_of, runs-on, boxed, pair-good, put-together}
use Rattle.dine_embed.proofs.Walk.{run_of, walked}
use Rattle.std_alloc.specs.contracts.boxed.Box.into_raw_with_allocator as callee
use Rattle.std_alloc.proofs.boxed.Box.into_raw_with_allocator.Met.{met}
use Rattle.dine_embed.specs.contracts.loose.Loose.from_box.{clauses}
use Rattle.dine_embed.specs.contracts.loose.Loose.from_box.Key.{name as #self}
use Rattle.dine_embed.proofs.loose.Loose.from_box.Statement.{statement}
use Rattle.dine_embed.proofs.loose.Loose.from_box.Code as code

pub from_box_spec : {M : Type 1} → statement M
from_box_spec 𝓤 𝓛 𝓜 𝓡 wired T A L LA g d dx dd allocator glue glued =
    let E : box.Bx = record { row = T; laws = L; al = record { row = A; laws = LA; g = g; d = d; drops = dd } } in
    let types : Args = bounded (a_type ∷ a_type ∷ []) (T, (A, tt)) (dcons d (dcons dx (dcons dd dnil))) in
    let made-of = plain (λ _. Loose (box.R E) (box.P E) (laws_of E) g) in
    walked 2 [] (λ _. box.B E) made-of no 𝓛 (clauses T A g d dx dd 𝓛 𝓜.mem 𝓡.returns) 𝓜 𝓡 (λ κs x f. tt) (#self types) (inst_fn types code.function) (code.unfolded 𝓤 𝓛.H 𝓜 𝓡 wired (T, (A, tt)) d dx dd) (λ z Post ends.
    let v = z.0.3.0 in
    let a = v.alloc in
    let lives = ‵ (flft z.0.0.0 z.0.1.0) ⊛ ‵ (flft z.0.0.1.0 z.0.1.1.0) ⊛ ‵ ftrue in
    box_out E ! v z.0.4.0 (λ b o h at us fits. box_in E ! v b o v.value at refl $
    let w : Val = box.word E h b o in
    let R : RattleType = box.R E in
    let typed = pair-good R (box.P E) (laws_of E) g b o h fits in
    -- what `Box::into_raw_with_allocator` is called with
    let k = triple_of 𝓛 (callee.signature T A g d dd dx) (callee.spec T A g d dd dx 𝓛 𝓜.mem 𝓡.returns) in
    let y : k.Ghost = ((z.0.0, z.0.1, tt, (v, tt), (w ∷ [], tt)), tt) in
    let Two = Tuple (RawPtr ∷ box.P E ∷ []) in
    nothing ! $ move ! (1 ∷ 0 ∷ []) $ fjoin ! $ move ! (2 ∷ 0 ∷ []) $ join ! $ join ! $ use1 𝓛 (raw (k.pre y)) (id⊢ 𝓤 _) $
    runs-on ! (run_of 𝓛 𝓜 𝓡 (inst_fn types code.function) Post) w us $
    enter ! _ _ (inst_fn types code.function) (w ∷ []) Post $ alloc_all ! (λ l. pass_all ! refl (typed, tt) $
    sets ! (of_opd ! (get ! refl)) refl typed $
    calls_at ! (fm 𝓛 𝓜 𝓡) k (met 𝓤 𝓛 𝓜 𝓡 (code.calls-std_alloc::boxed::Box::into_raw_with_allocator 𝓡.env wired) T A L LA g d dd dx allocator glued glue) y
    (and_then ! (get ! refl) (no_more !)) (λ u.
    -- what it gives: an address and a handle, and beside them what the box owned
    use1 𝓛 (later (some (λ (r : Ptr × A.Denot). (lives ⊛ ‵ (Two.own_val r (u ∷ []))) ⊛
    some (λ (_ : (Unit {0} × (Unit {0} × Unit {0})) × Unit {0}). ‵ (fsep (fsep ftrue (fsep ftrue ftrue)) ftrue) ⊛
    (raw (fact 𝓤 (r.1 ≡ a)) ⊛ ‵ (boxed R (box.P E) (laws_of E) g a v.value r.0)))))) (id⊢ 𝓤 _) $
    await ! tt $ pick ! (λ r. split ! $ move ! (1 ∷ []) $
    pick ! (λ _. split3 ! $ drop ! $ heard ! (r.1 ≡ a) (λ same.
    in_a_block ! r.0 (boxed R (box.P E) (laws_of E) g a v.value)
    (fst∗ 𝓤 (never 𝓤) (sem 𝓛 (g.dealloc_token a (bare (lone R.mir)) null_ptr))) (λ b' o' block.
    move ! (1 ∷ []) $ split ! $ move ! (1 ∷ []) $ fpick ! (λ fields. fsplit ! $
    feq_l ! (λ tuple. fsplit ! $
    feq_l ! (λ address. fsplit ! $
    rewrite ! 0 (λ (s : A.Denot). ‵ (A.own_val s fields.1.0)) same refl $
    handle_tells E.al ! a fields.1.0 (λ h' handle fits'.
    let made = pair-good R (box.P E) (laws_of E) g b' o' h' fits' in
    let is = words (u ∷ []) fields.0 fields.1.0 r.0 h' tuple address handle in
    lands_as ! (ap only (at-a-block (u ∷ []) r.0 b' o' h' block is)) refl made $
    sets ! (of_opd ! (get_in ! (fld ! refl (stop !)) (sub ! 0 refl (whole !)))) refl (tt, tt) $
    sets ! (of_opd ! (get_in ! (fld ! refl (stop !)) (sub ! 1 refl (whole !)))) refl fits' $
    sets ! (of_opd ! (get ! refl)) refl fits' $
    sets ! (both ! (get ! refl) (get ! refl)) refl made $
    move ! (3 ∷ 0 ∷ []) $ put-together R (box.P E) (laws_of E) g ! b' o' h' a v.value $
    use0 𝓛 (raw (fact 𝓤 (v.value ≡ v.value))) (fact_i 𝓤 (v.value ≡ v.value) (emp 𝓤) refl) $
    returns ! (look_at ! 0 refl) $ free_all ! refl $ keep ! (1 ∷ 0 ∷ 3 ∷ []) $
    by ! (ends (pair (vptr b' o') h') (record { address = block_ptr b' o'; alloc = a; value = v.value }) ((tt, (tt, tt)), tt) (tt, tt))))))))))))))
