use Rattle.std.proofs.Common.{inl}
use Rattle.dine_cli.specs.RaceOutput.{Refused, Ran}
use Rattle.dine_cli.proofs.RaceAnswers.{whole, in_lines, in_part}
use Rattle.dine_cli.proofs.race.race_text.Goals as goal

pub returns-in_ok-raced-in-Ok-clause-raced : goal.returns-in_ok-raced-in-Ok-clause-raced
returns-in_ok-raced-in-Ok-clause-raced g c =
    let wrote = c.write_raced.ensures in
    whole c.args.print c.args.text.now (Ran c.in-Ok.scenario c.in_ok-raced-in-Ok.raced) (c.in-Ok.ensures.ok, c.in_ok-raced-in-Ok.ensures) _ _ c.write_raced.result wrote.ok wrote.ended

pub returns-in_ok-raced-in-Ok-clause-memory : goal.returns-in_ok-raced-in-Ok-clause-memory
returns-in_ok-raced-in-Ok-clause-memory g c =
    in_lines c.args.print c.args.text.now (Ran c.in-Ok.scenario c.in_ok-raced-in-Ok.raced) (c.in-Ok.ensures.ok, c.in_ok-raced-in-Ok.ensures) _ _ c.write_raced.result c.write_raced.ensures.memory

pub returns-in_ok-raced-in-Ok-clause-write : goal.returns-in_ok-raced-in-Ok-clause-write
returns-in_ok-raced-in-Ok-clause-write g c =
    in_part c.args.print c.args.text.now (Ran c.in-Ok.scenario c.in_ok-raced-in-Ok.raced) (c.in-Ok.ensures.ok, c.in_ok-raced-in-Ok.ensures) _ _ c.write_raced.result c.write_raced.ensures.write

pub returns-in_default : goal.returns-in_default
returns-in_default g c =
    let wrote = c.write_refused.ensures in
    let answer = Refused c.in-Err.fault in
    let right = c.in-Err.ensures.fault (λ same. c.in_default.not-Memory same) in
    record {
      raced = whole c.args.print c.args.text.now answer right _ _ c.write_refused.result wrote.ok wrote.ended;
      memory = λ is. inl (wrote.memory is);
      write = in_part c.args.print c.args.text.now answer right _ _ c.write_refused.result wrote.write;
      writes_only = wrote.writes_only;
    }
