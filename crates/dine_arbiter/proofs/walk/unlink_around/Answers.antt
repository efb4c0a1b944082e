use Rattle.dine_arbiter.proofs.Lemmas.{not, sym, ap, ◌∙◌, arith, filter, ForkBook, is_end, book_is, first-listed, others-without, fewer-without, none-left}
use Rattle.dine_arbiter.proofs.walk.unlink_around.Goals as goal

pub unlink-requires : goal.unlink-requires
unlink-requires c = (first-listed c.args.slot c.in-Some.id c.loop-id.book.records (sym c.first_of.ensures.first ∙ c.in-Some.is)).1

pub loop-id-smaller : goal.loop-id-smaller
loop-id-smaller c =
    let listed = (first-listed c.args.slot c.in-Some.id c.loop-id.book.records (sym c.first_of.ensures.first ∙ c.in-Some.is)).0 in
    let fewer = fewer-without c.args.slot c.in-Some.id c.loop-id.book.records c.first_of.ensures.sound.each_id_once listed in
    rw c.unlink.ensures.rest (omega arith)

pub loop-id-preserved : goal.loop-id-preserved
loop-id-preserved c =
    let listed = (first-listed c.args.slot c.in-Some.id c.loop-id.book.records (sym c.first_of.ensures.first ∙ c.in-Some.is)).0 in
    record {
      slots = ap (λ (b : ForkBook). b.slots) c.unlink.ensures.rest ∙ c.loop-id.invariant.slots;
      room = ap (λ (b : ForkBook). b.room) c.unlink.ensures.rest ∙ c.loop-id.invariant.room;
      others = ap (λ (b : ForkBook). filter (λ r. not (is_end c.args.slot r)) b.records) c.unlink.ensures.rest ∙ others-without c.args.slot c.in-Some.id c.loop-id.book.records c.first_of.ensures.sound.each_id_once listed ∙ c.loop-id.invariant.others;
    }

pub returns : goal.returns
returns c =
    book_is c.loop-id.book c.args.book.now.slots c.args.book.now.room (filter (λ r. not (is_end c.args.slot r)) c.args.book.now.records) c.loop-id.invariant.slots c.loop-id.invariant.room
    (sym (none-left (is_end c.args.slot) c.loop-id.book.records (sym c.first_of.ensures.first ∙ c.in_default.is)) ∙ c.loop-id.invariant.others)
