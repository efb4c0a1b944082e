use Rattle.std.proofs.Common.{◌≡◌, codes, refl, arith}
use Rattle.std.proofs.lemmas.Slice.Eq.{text_from_reads}
use Rattle.dine_words.proofs.call_word.CallOnTwo.read.Goals as goal

pub returns-in-conflict : goal.returns-in-conflict
returns-in-conflict c =
    let word : c.args.word.now ≡ codes "conflict" = text_from_reads c.args.word.now (codes "conflict") (omega arith) (omega arith, (omega arith, (omega arith, (omega arith, (omega arith, (omega arith, (omega arith, (omega arith, tt)))))))) in
    rw word refl

pub returns-in-separate : goal.returns-in-separate
returns-in-separate c =
    let word : c.args.word.now ≡ codes "separate" = text_from_reads c.args.word.now (codes "separate") (omega arith) (omega arith, (omega arith, (omega arith, (omega arith, (omega arith, (omega arith, (omega arith, (omega arith, tt)))))))) in
    rw word refl
