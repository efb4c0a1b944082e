-- `let_go` takes the handle apart, and neither word owns anything.
use Rattle.std.proofs.Common.{◌≡◌, List, [], ◌∷◌, refl, false}
use mir.Val.{Val, vunit}
use types.Kit.{◌$◌, !, by, move, keep, feq_i}
use types.Part.{whole, sub}
use types.Run.{stop, fld, unit_lit, of_opd, returns, enter}
use types.ByLocal.{alloc_all, pass_all, free_all, look_at, get_in, sets}
use denote.RawPtr.{ptr_val}
use denote.Steps.{nothing, heard}
use Rattle.dine_embed.proofs.LooseParts.{pair, runs-on}
use Rattle.dine_embed.proofs.Walk.{run_of, walked}
use Rattle.dine_embed.proofs.Parts.{address-good, pair-typed, closed-apart}
use Rattle.dine_embed.specs.contracts.handle.Handle as handle
use Rattle.dine_embed.specs.contracts.handle.Handle.let_go.{ended, clauses}
use Rattle.dine_embed.specs.contracts.handle.Handle.let_go.Key.{name as #self}
use Rattle.dine_embed.proofs.handle.Handle.let_go.Statement.{statement}
use Rattle.dine_embed.proofs.handle.Handle.let_go.Code as code

pub let_go_spec : {M : Type 1} → statement M
let_go_spec 𝓤 𝓛 𝓜 𝓡 wired =
    walked 0 [] (λ _. handle.the_row) ended.signature.result ended.kept.0 𝓛 (clauses 𝓛 𝓜.mem 𝓡.returns) 𝓜 𝓡 (λ κs x f. tt) #self code.function (code.unfolded 𝓤 𝓛.H 𝓜 𝓡 wired) (λ z Post ends.
    let v = z.0.3.0 in
    move ! (1 ∷ []) $ heard ! (v.holds ≡ false) (λ is.
    closed-apart ! v is z.0.4.0 (λ h us fits.
    runs-on ! (run_of 𝓛 𝓜 𝓡 code.function Post) (pair (ptr_val v.address) h) us $
    enter ! _ _ code.function (pair (ptr_val v.address) h ∷ []) Post $ alloc_all ! (λ l. pass_all ! refl (pair-typed v.address h fits, tt) $
    sets ! (of_opd ! (get_in ! (fld ! refl (stop !)) (sub ! 0 refl (whole !)))) refl (address-good v.address) $
    sets ! (of_opd ! (get_in ! (fld ! refl (stop !)) (sub ! 1 refl (whole !)))) refl fits $
    sets ! (of_opd ! (unit_lit !)) refl (tt, tt) $
    returns ! (look_at ! 0 refl) $ free_all ! refl $
    nothing ! $ feq_i ! (List Val) (vunit ∷ []) (vunit ∷ []) refl $ keep ! (0 ∷ 1 ∷ 3 ∷ []) $
    by ! (ends vunit tt (tt, tt) (tt, tt))))))
