use Rattle.std.proofs.Common.{◌≡◌, codes, refl, arith}
use Rattle.std.proofs.lemmas.Slice.Eq.{text_from_reads}
use Rattle.dine_script.proofs.command.AboutOne.read.Goals as goal

pub returns-in-neighbours : goal.returns-in-neighbours
returns-in-neighbours c =
    let word : c.args.word.now ≡ codes "neighbours" = text_from_reads c.args.word.now (codes "neighbours") (omega arith) (omega arith, (omega arith, (omega arith, (omega arith, (omega arith, (omega arith, (omega arith, (omega arith, (omega arith, (omega arith, tt)))))))))) in
    rw word refl
