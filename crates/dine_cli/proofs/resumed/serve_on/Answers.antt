use Rattle.std.proofs.KnownBytes.{Keeps-refl}
use Rattle.dine_serve.specs.Serving.{said_to_input, standing_at}
use Rattle.dine_serve.proofs.CallerLemmas.{nothing-written}
use Rattle.dine_cli.proofs.resumed.serve_on.Goals as goal

pub returns-in_err-broker-clause-memory : goal.returns-in_err-broker-clause-memory
returns-in_err-broker-clause-memory g c failed = nothing-written _ _ _ (said_to_input (standing_at c.args.arbiter.table c.args.passes)) (Keeps-refl _)

pub returns-clause-ok : goal.returns-clause-ok
returns-clause-ok g c = rw c.in_ok-broker.ensures at c.answer_from.ensures.ok

pub returns-clause-read : goal.returns-clause-read
returns-clause-read g c failed = rw c.in_ok-broker.ensures at (c.answer_from.ensures.read failed)

pub returns-clause-memory : goal.returns-clause-memory
returns-clause-memory g c failed = rw c.in_ok-broker.ensures at (c.answer_from.ensures.memory failed)

pub returns-clause-write : goal.returns-clause-write
returns-clause-write g c failed = rw c.in_ok-broker.ensures at (c.answer_from.ensures.write failed)
