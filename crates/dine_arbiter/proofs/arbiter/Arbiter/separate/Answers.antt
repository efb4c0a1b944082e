use Rattle.dine_arbiter.proofs.Lemmas.{◌≡◌, None, Some, inl, inr, sym, ap, ◌∙◌, if◌then◌else◌, cases_Bool, Apart, refusal_of, after_separate, refused, seen_joined, two_passed, filter-none}
use Rattle.dine_words.specs.declared.call.Call.TheVariants as call
use Rattle.dine_forks.specs.Book.{is_between}
use Rattle.dine_arbiter.proofs.arbiter.Arbiter.separate.Goals.{After-unlink_between-was_there}
use Rattle.dine_arbiter.proofs.arbiter.Arbiter.separate.Goals as goal

-- the separation is refused exactly where there was no record
decided : (c : After-unlink_between-was_there) → refusal_of c.args.self.now.table (call.Separate c.args.first c.args.second) ≡ (if c.unlink_between-was_there.result then None else Some Apart)
decided c =
    let (x, y, hu, hv, is) = two_passed c.args.self.now.table c.args.first c.args.second c.requires.able in
    is ∙ ap (λ b. if b then None else Some Apart) (sym (c.unlink_between-was_there.ensures.found ∙ seen_joined c.self.inside c.self.view_is c.self.invariant c.args.first c.args.second x y hu hv))

pub invariant_of-self : goal.invariant_of-self
invariant_of-self c =
    elim (cases_Bool c.unlink_between-was_there.result) [
      | inl is ↦
          let accepted = decided (goal.at.invariant_of-self c).After-unlink_between-was_there ∙ ap (λ b. if b then None else Some Apart) is in
          rw c.unlink_between-was_there.ensures.book (after_separate c.self.inside c.self.view_is c.self.invariant c.args.first c.args.second accepted).kept
      | inr is ↦
          rw (c.unlink_between-was_there.ensures.book, filter-none (is_between c.args.first.slot c.args.second.slot) c.self.inside.book.records (sym c.unlink_between-was_there.ensures.found ∙ is)) c.self.invariant
    ]

pub returns : goal.returns
returns c =
    let told = decided (goal.at.returns c).After-unlink_between-was_there in
    elim (cases_Bool c.unlink_between-was_there.result) [
      | inl is ↦
          rw is (rw c.unlink_between-was_there.ensures.book (after_separate c.self.inside c.self.view_is c.self.invariant c.args.first c.args.second (told ∙ ap (λ b. if b then None else Some Apart) is)).done)
      | inr is ↦
          rw is
          (rw (c.unlink_between-was_there.ensures.book, filter-none (is_between c.args.first.slot c.args.second.slot) c.self.inside.book.records (sym c.unlink_between-was_there.ensures.found ∙ is))
          (refused c.self.inside c.self.view_is c.self.invariant (call.Separate c.args.first c.args.second) Apart (told ∙ ap (λ b. if b then None else Some Apart) is)))
    ]
