use Rattle.dine_arbiter.proofs.Lemmas.{arith, sym, ◌∙◌, and_le_l, nothing_left, slot_kept, slot_left, slot_within, word_fewer, word_kept, word_left, word_within}
use Rattle.dine_arbiter.proofs.search.Search.next_member.Goals as goal

pub returns-then-self-eq0-clause-none : goal.returns-then-self-eq0-clause-none
returns-then-self-eq0-clause-none c = sym c.loop-self.invariant.left ∙ nothing_left _ c.args.book.now c.loop-self.self c.loop-self.invariant.kept (omega arith) (omega arith)

pub word-requires : goal.word-requires
word-requires c = (word_within _ c.args.book.now c.loop-self.self c.loop-self.invariant.kept (omega arith) (omega arith) (omega arith)).1

pub lacking_word-requires : goal.lacking_word-requires
lacking_word-requires c =
    let within = (word_within _ c.args.book.now c.loop-self.self c.loop-self.invariant.kept (omega arith) (omega arith) (omega arith)).1 in
    let slots = c.requires.slots in
    omega arith

pub loop-self-preserved : goal.loop-self-preserved
loop-self-preserved c =
    record {
      kept = word_kept _ c.args.book.now c.loop-self.self c.loop-self.invariant.kept (omega arith) (omega arith) (omega arith) _ _ (omega arith) c.word.ensures c.lacking_word.ensures;
      left = word_left _ c.args.book.now c.loop-self.self c.loop-self.invariant.kept (omega arith) (omega arith) (omega arith) _ _ (omega arith) c.word.ensures c.lacking_word.ensures ∙ c.loop-self.invariant.left;
      fits = omega (arith, and_le_l c.word.result);
      less = omega (arith, word_fewer _ c.args.book.now c.loop-self.self c.loop-self.invariant.kept (omega arith) (omega arith) (omega arith) _ _ (omega arith) c.word.ensures c.lacking_word.ensures (omega (arith, and_le_l c.word.result)));
    }

pub returns-clause-kept : goal.returns-clause-kept
returns-clause-kept c = slot_kept _ c.args.book.now c.loop-self.self c.loop-self.invariant.kept (omega arith) (omega arith)

pub returns-clause-within : goal.returns-clause-within
returns-clause-within c = slot_within _ c.args.book.now c.loop-self.self c.loop-self.invariant.kept (omega arith) (omega arith)

pub returns-clause-found : goal.returns-clause-found
returns-clause-found c = sym c.loop-self.invariant.left ∙ slot_left _ c.args.book.now c.loop-self.self c.loop-self.invariant.kept (omega arith) (omega arith)
