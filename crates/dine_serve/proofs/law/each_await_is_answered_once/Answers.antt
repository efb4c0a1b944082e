use Rattle.dine_serve.proofs.Waiting.{each-once}
use Rattle.dine_serve.proofs.law.each_await_is_answered_once.Goals as goal

pub returns : goal.returns
returns c t awaits pass u = each-once t awaits pass u
