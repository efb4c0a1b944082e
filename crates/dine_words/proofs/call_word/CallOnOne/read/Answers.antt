use Rattle.std.proofs.Common.{◌≡◌, codes, refl, arith}
use Rattle.std.proofs.lemmas.Slice.Eq.{text_from_reads}
use Rattle.dine_words.proofs.call_word.CallOnOne.read.Goals as goal

pub returns-in-hungry : goal.returns-in-hungry
returns-in-hungry c =
    let word : c.args.word.now ≡ codes "hungry" = text_from_reads c.args.word.now (codes "hungry") (omega arith) (omega arith, (omega arith, (omega arith, (omega arith, (omega arith, (omega arith, tt)))))) in
    rw word refl

pub returns-in-finish : goal.returns-in-finish
returns-in-finish c =
    let word : c.args.word.now ≡ codes "finish" = text_from_reads c.args.word.now (codes "finish") (omega arith) (omega arith, (omega arith, (omega arith, (omega arith, (omega arith, (omega arith, tt)))))) in
    rw word refl

pub returns-in-withdraw : goal.returns-in-withdraw
returns-in-withdraw c =
    let word : c.args.word.now ≡ codes "withdraw" = text_from_reads c.args.word.now (codes "withdraw") (omega arith) (omega arith, (omega arith, (omega arith, (omega arith, (omega arith, (omega arith, (omega arith, (omega arith, tt)))))))) in
    rw word refl
