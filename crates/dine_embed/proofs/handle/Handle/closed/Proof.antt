-- `closed` puts null beside the allocator's word.
use Rattle.std.proofs.Common.{◌≡◌, [], ◌∷◌, refl, false}
use mir.Syntax.{w64}
use mir.Val.{vint}
use base.Logic.{emp}
use contract.Monad.{fact, fact_i}
use types.Kit.{raw, ◌$◌, !, by, keep, use0, join}
use types.Run.{lit, of_opd, returns, enter}
use types.ByLocal.{alloc_all, pass_all, free_all, look_at, get, sets}
use denote.RawPtr.{null_ptr}
use Rattle.core.proofs.alloc.Calls.{handle_tells}
use Rattle.std_heap.specs.contracts.Global as heap
use Rattle.std_heap.specs.contracts.GlobalAllocator.TheImpl.{ghosts}
use Rattle.std_heap.proofs.Global.TheLaws as heap_laws
use Rattle.dine_arbiter.specs.contracts.arbiter.Arbiter as arbiter
use Rattle.dine_embed.proofs.LooseParts.{pair, both, allocator, runs-on}
use Rattle.dine_embed.proofs.Walk.{run_of, walked}
use Rattle.dine_embed.proofs.Parts.{address-good, pair-typed, closed-together, some_value}
use Rattle.dine_embed.specs.contracts.handle.Handle.closed.{ended, clauses}
use Rattle.dine_embed.specs.contracts.handle.Handle.closed.Key.{name as #self}
use Rattle.dine_embed.proofs.handle.Handle.closed.Statement.{statement}
use Rattle.dine_embed.proofs.handle.Handle.closed.Code as code

pub closed_spec : {M : Type 1} → statement M
closed_spec 𝓤 𝓛 𝓜 𝓡 wired =
    walked 0 [] (λ _. heap.the_row) ended.signature.result ended.kept.0 𝓛 (clauses 𝓛 𝓜.mem 𝓡.returns) 𝓜 𝓡 (λ κs x f. tt) #self code.function (code.unfolded 𝓤 𝓛.H 𝓜 𝓡 wired) (λ z Post ends.
    let v = z.0.3.0 in
    handle_tells (allocator arbiter.the_row heap.the_row heap_laws.the_row_laws ghosts) ! v z.0.4.0 (λ h us fits.
    runs-on ! (run_of 𝓛 𝓜 𝓡 code.function Post) h us $
    enter ! _ _ code.function (h ∷ []) Post $ alloc_all ! (λ l. pass_all ! refl (fits, tt) $
    sets ! (of_opd ! (lit ! tt)) refl (address-good null_ptr) $
    sets ! (both ! (get ! refl) (get ! refl)) refl (pair-typed null_ptr h fits) $
    returns ! (look_at ! 0 refl) $ free_all ! refl $
    closed-together ! h v some_value $
    use0 𝓛 (raw (fact 𝓤 (null_ptr ≡ null_ptr))) (fact_i 𝓤 (null_ptr ≡ null_ptr) (emp 𝓤) refl) $
    use0 𝓛 (raw (fact 𝓤 (false ≡ false))) (fact_i 𝓤 (false ≡ false) (emp 𝓤) refl) $ join ! $ keep ! (1 ∷ 0 ∷ 3 ∷ []) $
    by ! (ends (pair (vint w64 0) h) (record { address = null_ptr; alloc = v; holds = false; value = some_value }) (tt, tt) (tt, tt)))))
