use Rattle.std.proofs.Common.{◌≡◌, ◌++◌, length, None, Option, Some, refl, ap, subst, sym, ◌∙◌, arith}
use Rattle.dine_words.specs.declared.call.Refusal.{Refusal}
use Rattle.dine_words.specs.declared.call.Reply.{Reply}
use Rattle.dine_words.specs.declared.call.Reply.TheVariants.{Refused}
use Rattle.dine_table.specs.Calls.{acceptance_of, refusal_of, reply_unless, table_after_call}
use Rattle.dine_bars.specs.Begun.{AreCalmAfter, AreTold}
use Rattle.dine_bars.specs.Marks.{begun_by, ended_by, looked_at_by}
use Rattle.dine_bars.proofs.CalmAfter.{calm_after, changed-is, whom-is}
use Rattle.dine_bars.proofs.Told.{told_next}
use Rattle.dine_bars.proofs.drawing.carry_out.Goals as goal

-- what isn't refused is accepted
accepted : (o : Option Refusal) (acceptance reply : Reply) → reply ≡ reply_unless o acceptance → ((x : Refusal) → reply ≡ Refused x → ⊥) → o ≡ None
accepted None acceptance reply is unlike = refl
accepted (Some x) acceptance reply is unlike = absurd (unlike x is)

pub look_after-requires-clause-room : goal.look_after-requires-clause-room
look_after-requires-clause-room c =
    let t = c.args.arbiter.now.table in
    let ok = accepted (refusal_of t c.args.call) (acceptance_of t c.args.call) c.args.reply c.requires.reply c.in_default.not-Refused in
    let as_many = ap length (whom-is t c.args.call ok c.apply_answered.new.self.table c.apply_answered.ensures.table) in
    let room = c.requires.room in
    omega arith

pub look_after-requires-clause-calm : goal.look_after-requires-clause-calm
look_after-requires-clause-calm c =
    let t = c.args.arbiter.now.table in
    let begun = c.args.begun.now.items in
    let ok = accepted (refusal_of t c.args.call) (acceptance_of t c.args.call) c.args.reply c.requires.reply c.in_default.not-Refused in
    subst (λ n. AreCalmAfter c.args.call n c.args.place begun) (sym (changed-is t c.args.call ok c.apply_answered.new.self.table c.apply_answered.ensures.table)) (calm_after t c.book.ensures.sound c.args.place begun c.requires.told c.args.call ok)

pub returns : goal.returns
returns c =
    let t = c.args.arbiter.now.table in
    let call = c.args.call in
    let place = c.args.place in
    let begun = c.args.begun.now.items in
    let next = c.apply_answered.new.self.table in
    let is = c.apply_answered.ensures.table in
    let ok = accepted (refusal_of t call) (acceptance_of t call) c.args.reply c.requires.reply c.in_default.not-Refused in
    let who = whom-is t call ok next is in
    let bars = c.look_after.ensures.begun ∙ ap (λ us. begun_by call place next begun us) who ∙ ap (λ n. begun_by call place n begun (looked_at_by t call)) is in
    record {
      table = is;
      begun = bars;
      marks = c.look_after.ensures.marks ∙ ap (λ us. c.args.marks.now.items ++ ended_by call place next begun us) who ∙ ap (λ n. c.args.marks.now.items ++ ended_by call place n begun (looked_at_by t call)) is;
      told = subst (λ n. AreTold n place c.look_after.new.begun.items) (sym is) (subst (λ b. AreTold (table_after_call t call) place b) (sym bars) (told_next t c.book.ensures.sound place begun c.requires.told call));
    }
