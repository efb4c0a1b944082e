-- A walk by hand through a function of one parameter, of which nothing is had at exit. Assumes `Logic`.
--     run_of        what is to be shown of the function's run
--     walked        the function meets its contract, where a walk goes from what it is called with to how it ends, `Ends`
use Rattle.std.proofs.Common.{ℕ, List, [], ◌∷◌, ◌++◌}
use lib.Dec.{T}
use seplogic.Ra.Ura.{Ura}
use mir.Syntax.{Fn, Callee}
use mir.Val.{Val}
use base.Logic.{SProp, ent, sep}
use prog.Wp.{WpFn, Closed}
use prog.Model.{Model}
use types.Logic.{Logic, sem}
use types.Kit.{Go, Seq, prop, ‵, raw, ◌⊛◌, ◌$◌, ◌∵◌, !, qed, by, move, keep, split, fsplit, fjoin}
use contract.Lifetimes.{Lfts, Outlives}
use contract.Running.{Running, MachineTables, tables}
use denote.Exit.{Kept, Last, left}
use denote.Param.Mute.{blank}
use denote.RattleType.{RattleType, owns}
use denote.Signature.{Slot, plain, type_at, types_at}
use denote.Steps.{nothing}
use denote.Triple.Clauses.{Ended, Clauses, Lasts, at_exit, closing}
use denote.Triple.Entry.{Res, alive}
use denote.Triple.Spec.{Meets}
use denote.Triple.Walked.{Stays, Fit, stay_dropped, walk_of}
use Rattle.core.proofs.alloc.Calls.{Goes-blank}
use Rattle.std.proofs.raw_atomic.Walks.{proved_at, leaves}

-- what is to be shown of a function's run: that it ends in what is asked of the result
abbrev pub run_of : {M : Type 1} {𝓤 : Ura M} (𝓛 : Logic 𝓤) (𝓜 : Model 𝓤 𝓛.H) (𝓡 : Running 𝓤 𝓛.H 𝓜) → Fn → (Val → SProp 𝓤) → List Val → SProp 𝓤
run_of {𝓤 = 𝓤} 𝓛 𝓜 𝓡 fn Post ws = let 𝓣 = tables 𝓤 𝓛.H 𝓜 𝓡 𝓡.env in WpFn 𝓤 𝓛.H 𝓣.C 𝓣.Λ fn ws Post

module _ (n : ℕ) (os : List (Outlives n)) (F : Lfts n → RattleType) (result : Slot n) (k : Kept) where
  -- the contract's signature, and what becomes of the parameter
  abbrev pub taking : Ended
  taking = record { signature = record { lifetimes = n; outlives = os; params = plain F ∷ []; result = result }; kept = (k, tt) }

  -- nothing is had of the parameter
  abbrev pub none_had : Stays taking.signature.params taking.kept
  none_had = (stay_dropped (plain F) k, tt)

  module _ {M : Type 1} {𝓤 : Ura M} (𝓛 : Logic 𝓤) (c : Clauses 𝓤 taking) where
    open 𝓛 use {H}

    -- with a result of which this is ensured, and with the tokens, what is asked of the result holds
    abbrev pub Ends : (walk_of 𝓛 taking none_had c).Ghost → (Val → SProp 𝓤) → Type 1
    Ends z Post = (v : Val) (r : Res taking.signature z.0.0) (ws : Lasts taking z.0.0 z.0.3) → Fit taking none_had z.0.0 z.0.3 ws
        → ent 𝓤 (sep 𝓤 (sem 𝓛 ((type_at result z.0.0).own_val r (v ∷ []))) (sep 𝓤 ((c z.0.0 z.0.3).ensures z.1 r (at_exit taking z.0.0 z.0.3 ws)) (alive 𝓛 taking.signature z.0.0 z.0.1))) (Post v)

    -- so it ends in what the contract asks of it
    ends : (z : (walk_of 𝓛 taking none_had c).Ghost) → Ends z ((walk_of 𝓛 taking none_had c).post z)
    ends z v r ws fit =
        qed 𝓛 (‵ ((type_at result z.0.0).own_val r (v ∷ [])) ∷ raw ((c z.0.0 z.0.3).ensures z.1 r (at_exit taking z.0.0 z.0.3 ws)) ∷ raw (alive 𝓛 taking.signature z.0.0 z.0.1) ∷ []) ∵
        nothing ! $ nothing ! $ fjoin ! $ keep ! (3 ∷ 0 ∷ 1 ∷ 2 ∷ []) $ by ! (leaves 𝓛 taking none_had c z v r ws fit)

    module _ (𝓜 : Model 𝓤 H) (𝓡 : Running 𝓤 H 𝓜) where
      -- the calls and the loops that the function may make
      abbrev 𝓣 : MachineTables 𝓤 H 𝓜
      𝓣 = tables 𝓤 H 𝓜 𝓡 𝓡.env

      -- the function meets its contract, if a walk leads there from its parameter, what it requires and the tokens
      pub walked : ((κs : Lfts n) (x : (F κs).Denot) (f : Last ((F κs).exit k) x) → T (blank (left ((F κs).exit k) x f))) → (name : Callee) (fn : Fn) → Closed 𝓤 H 𝓣.C 𝓣.Λ name fn
          → ((z : (walk_of 𝓛 taking none_had c).Ghost) (Post : Val → SProp 𝓤) → Ends z Post
          → Seq (Go {0}) 𝓛 (‵ ((F z.0.0).own_val z.0.3.0 z.0.4.0) ∷ raw ((c z.0.0 z.0.3).requires z.1) ∷ raw (alive 𝓛 taking.signature z.0.0 z.0.1) ∷ [])
          (prop (run_of 𝓛 𝓜 𝓡 fn Post (z.0.4.0 ++ []))))
          → Meets 𝓛 taking.signature (𝓣.C name) (closing 𝓛 taking c)
      walked silent name fn closed walk = proved_at 𝓛 taking none_had c 𝓜 𝓡 (Goes-blank 𝓛 n (plain F) k silent, tt) name fn closed (λ z are.
          qed 𝓛 ((raw (alive 𝓛 taking.signature z.0.0 z.0.1) ⊛ ‵ (owns (types_at taking.signature.params z.0.0) z.0.3 z.0.4)) ∷ raw ((c z.0.0 z.0.3).requires z.1) ∷ []) ∵
          split ! $ move ! (1 ∷ []) $ fsplit ! $ keep ! (0 ∷ 3 ∷ 2 ∷ []) $ walk z ((walk_of 𝓛 taking none_had c).post z) (ends z))
