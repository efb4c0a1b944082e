use Rattle.std.proofs.Common.{arith, refl, ◌∙◌}
use Rattle.dine_words.specs.declared.call.Call.TheVariants as call
use Rattle.dine_uses.proofs.Recounting.{made_more, made_nothing}
use Rattle.dine_uses.proofs.recorded.make_all.Goals as goal

pub loop-call-init : goal.loop-call-init
loop-call-init c = record { limits = refl; made = made_nothing c.args.calls.now c.args.hall.now.history c.requires }

-- one more call was made
pub loop-call-preserved : goal.loop-call-preserved
loop-call-preserved c =
    let done = c.in_ok-answer.ensures in
    record {
      limits = done.limits ∙ c.loop-call.invariant.limits;
      made = made_more c.args.calls.now c.loop-call.call-index call.Join c.in_ok-answer.answer.reply c.loop-call.hall.history c.act.new.self.history (omega arith) c.loop-call.invariant.made c.known.ensures done.entry;
    }
