use Rattle.dine_serve.proofs.Words.{ap, ◌∙◌, end_of}
use Rattle.dine_serve.proofs.Served.{served-end}
use Rattle.dine_serve.proofs.serving.run_serve.Goals as goal

pub returns : goal.returns
returns g c =
    let served = c.in_ok-serve_on.ensures in
    served-end c.end_of.result c.serve_on.new.broker.has_fault _ _ _ _ _ _ _ _ _ _ (c.end_of.ensures ∙ ap end_of c.has_fault.ensures) (rw c.in_ok-broker.ensures at served.output) (rw c.in_ok-broker.ensures at served.ended) served.marks.read_unmarked served.marks.write_unmarked
