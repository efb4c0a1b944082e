-- `into_loose` hands on the two words, with what the box of an open handle owned.
use Rattle.std.proofs.Common.{◌≡◌, [], ◌∷◌, refl, true}
use mir.Val.{vptr}
use base.Logic.{emp}
use contract.Monad.{fact, fact_i}
use types.Kit.{raw, ◌$◌, !, by, move, keep, use0}
use types.Part.{whole, sub}
use types.Run.{stop, fld, of_opd, returns, enter}
use types.ByLocal.{alloc_all, pass_all, free_all, look_at, get, get_in, sets}
use denote.RawPtr.{block_ptr}
use denote.Steps.{heard}
use Rattle.std_heap.specs.contracts.Global as heap
use Rattle.std_heap.specs.contracts.GlobalAllocator.TheImpl.{ghosts}
use Rattle.std_heap.proofs.Global.TheLaws as heap_laws
use Rattle.dine_arbiter.specs.contracts.arbiter.Arbiter as arbiter
use Rattle.dine_embed.proofs.LooseParts.{pair, both, pair-good, put-together, runs-on}
use Rattle.dine_embed.proofs.Walk.{run_of, walked}
use Rattle.dine_embed.proofs.Parts.{open-apart}
use Rattle.dine_embed.specs.contracts.handle.Handle as handle
use Rattle.dine_embed.specs.contracts.handle.Handle.into_loose.{ended, clauses}
use Rattle.dine_embed.specs.contracts.handle.Handle.into_loose.Key.{name as #self}
use Rattle.dine_embed.proofs.handle.Handle.into_loose.Statement.{statement}
use Rattle.dine_embed.proofs.handle.Handle.into_loose.Code as code

pub into_loose_spec : {M : Type 1} → statement M
into_loose_spec 𝓤 𝓛 𝓜 𝓡 wired =
    walked 0 [] (λ _. handle.the_row) ended.signature.result ended.kept.0 𝓛 (clauses 𝓛 𝓜.mem 𝓡.returns) 𝓜 𝓡 (λ κs x f. tt) #self code.function (code.unfolded 𝓤 𝓛.H 𝓜 𝓡 wired) (λ z Post ends.
    let v = z.0.3.0 in
    move ! (1 ∷ []) $ heard ! (v.holds ≡ true) (λ is.
    open-apart ! v is z.0.4.0 (λ b o h us fits.
    let typed = pair-good arbiter.the_row heap.the_row heap_laws.the_row_laws ghosts b o h fits in
    runs-on ! (run_of 𝓛 𝓜 𝓡 code.function Post) (pair (vptr b o) h) us $ enter ! _ _ code.function (pair (vptr b o) h ∷ []) Post $ alloc_all ! (λ l. pass_all ! refl (typed, tt) $
    sets ! (of_opd ! (get_in ! (fld ! refl (stop !)) (sub ! 0 refl (whole !)))) refl (tt, tt) $
    sets ! (of_opd ! (get_in ! (fld ! refl (stop !)) (sub ! 1 refl (whole !)))) refl fits $
    sets ! (of_opd ! (get ! refl)) refl (tt, tt) $ sets ! (both ! (get ! refl) (get ! refl)) refl typed $
    returns ! (look_at ! 0 refl) $ free_all ! refl $ put-together arbiter.the_row heap.the_row heap_laws.the_row_laws ghosts ! b o h v.alloc v.value $
    use0 𝓛 (raw (fact 𝓤 (v.value ≡ v.value))) (fact_i 𝓤 (v.value ≡ v.value) (emp 𝓤) refl) $ keep ! (1 ∷ 0 ∷ 2 ∷ []) $
    by ! (ends (pair (vptr b o) h) (record { address = block_ptr b o; alloc = v.alloc; value = v.value }) (tt, tt) (tt, tt))))))
