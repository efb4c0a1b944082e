use Rattle.std.proofs.Common.{refl, arith}
use Rattle.dine_lines.specs.Names.{is_name_byte}
use Rattle.dine_lines.proofs.FirstBytes.{drop-next}
use Rattle.dine_lines.proofs.Lanes.{all_in}
use Rattle.dine_lines.proofs.name.letters_at_once.Goals as goal

pub returns : goal.returns
returns c =
    let run = c.letters_before-len.ensures in
    record {
      bound = omega (arith, run.0);
      letters = c.first_letters.ensures;
      all = all_in is_name_byte c.args.text.now _ (omega (arith, run.0)) run.1;
      most = run.0;
      end = λ short. let next = drop-next c.letters_before-len.result _ c.args.text.now (omega arith) refl in rw next (run.2 short);
    }
