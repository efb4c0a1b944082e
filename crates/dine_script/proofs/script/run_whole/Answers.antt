use Rattle.std.proofs.Common.{rules}
use Rattle.std.specs.Io.KnownBytes.{Appends}
use Rattle.dine_streams.specs.Written.{AppendsLinesOf, AppendsPartOf}
use Rattle.dine_streams.proofs.CallerLemmas.{moved, partly, whole}
use Rattle.dine_script.proofs.FrontRuns.{err-of, known-end, known-lines, known-printed, known-printed-text, known-text, ok-of, rest-begun}
use Rattle.dine_script.proofs.script.run_whole.Goals as goal

pub returns-in_err-rest-in-Ok-clause-memory : goal.returns-in_err-rest-in-Ok-clause-memory
returns-in_err-rest-in-Ok-clause-memory g c = λ failed.
    known-lines c.args.print _ c.args.run.now.session c.read_script.new.run.session c.text.result.now _ _ _ c.in-Ok.front _ c.requires.first c.requires.opened c.text.ensures (ok-of c.in_ok-carried.carried c.in-Ok.front _ c.in-Ok.is c.in_ok-carried.ensures.ran)
    (AppendsLinesOf _ _) (c.in_err-rest-in-Ok.ensures.memory (search (rules, failed)))

pub returns-in_err-rest-in-Ok-clause-write : goal.returns-in_err-rest-in-Ok-clause-write
returns-in_err-rest-in-Ok-clause-write g c = λ failed.
    known-text c.args.print _ c.args.run.now.session c.read_script.new.run.session c.text.result.now _ _ _ c.in-Ok.front _ c.requires.first c.requires.opened c.text.ensures (ok-of c.in_ok-carried.carried c.in-Ok.front _ c.in-Ok.is c.in_ok-carried.ensures.ran)
    (AppendsPartOf _ _) (c.in_err-rest-in-Ok.ensures.write (search (rules, failed)))

pub returns-in_ok-rest-in-Ok-clause-output : goal.returns-in_ok-rest-in-Ok-clause-output
returns-in_ok-rest-in-Ok-clause-output g c =
    known-text c.args.print _ c.args.run.now.session c.read_script.new.run.session c.text.result.now _ _ _ c.in-Ok.front _ c.requires.first c.requires.opened c.text.ensures (ok-of c.in_ok-carried.carried c.in-Ok.front _ c.in-Ok.is c.in_ok-carried.ensures.ran)
    (Appends _ _) c.in_ok-rest-in-Ok.ensures.output

pub returns-in_ok-rest-in-Ok-clause-ended : goal.returns-in_ok-rest-in-Ok-clause-ended
returns-in_ok-rest-in-Ok-clause-ended g c =
    known-end c.args.print _ c.args.run.now.session c.read_script.new.run.session c.text.result.now _ _ _ c.in-Ok.front _ c.requires.first c.requires.opened c.text.ensures (ok-of c.in_ok-carried.carried c.in-Ok.front _ c.in-Ok.is c.in_ok-carried.ensures.ran)
    c.in_ok-rest-in-Ok.rest c.in_ok-rest-in-Ok.ensures.faults

pub returns-in_err-write_if_enough-in-Err-clause-write : goal.returns-in_err-write_if_enough-in-Err-clause-write
returns-in_err-write_if_enough-in-Err-clause-write g c = λ failed.
    known-printed-text c.args.print _ c.args.run.now.session _ _ _ c.requires.first c.requires.opened (err-of c.in_ok-carried.carried c.in-Err.wanting _ c.in-Err.is c.in_ok-carried.ensures.printed)
    (AppendsPartOf _ _) (λ front others is. partly _ c.in_err-write_if_enough-in-Err.ensures.err (rest-begun front others _ _ is))

pub returns-in_ok-write_if_enough-in-Err-clause-memory : goal.returns-in_ok-write_if_enough-in-Err-clause-memory
returns-in_ok-write_if_enough-in-Err-clause-memory g c = λ failed.
    known-printed c.args.print _ c.args.run.now.session _ _ _ c.requires.first c.requires.opened (err-of c.in_ok-carried.carried c.in-Err.wanting _ c.in-Err.is c.in_ok-carried.ensures.printed)
    (AppendsLinesOf _ _) (λ front others is. whole (moved _ _ c.in_ok-write_if_enough-in-Err.ensures.ok (rest-begun front others _ _ is)))
