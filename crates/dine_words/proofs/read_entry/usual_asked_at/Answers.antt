use Rattle.dine_words.proofs.UsualLines.{asked_on_a_pass}
use Rattle.dine_words.proofs.read_entry.usual_asked_at.Goals as goal

pub returns-in-Some : goal.returns-in-Some
returns-in-Some g c = λ version. asked_on_a_pass version c.in-Some.step c.in-Some.pass c.args.text.now c.in-Some.rest.now c.in_ok-call.rest.now c.in_ok-call.call c.in-Some.ensures.front (c.in-Some.ensures.has version) c.in_ok-call.ensures
