use Rattle.dine_serve.proofs.Words.{false, [], ap, ◌∙◌, no_receipts}
use Rattle.dine_serve.proofs.Keeping.{keeps-none}
use Rattle.dine_serve.proofs.broker.Broker.going_on.Goals as goal

-- nobody waits
pub invariant_of-result : goal.invariant_of-result
invariant_of-result c = (keeps-none c.args.arbiter.table c.new.result c.book.ensures.sound c.new.ensures.rows c.new.ensures.len).kept

pub returns : goal.returns
returns c =
    let none = (keeps-none c.args.arbiter.table c.new.result c.book.ensures.sound c.new.ensures.rows c.new.ensures.len).order in
    ap (λ l. record { table = c.args.arbiter.table; awaits = l; receipts = c.in_ok-receipts.receipts.items; is_numbered = c.is_some.result; lines = 0; has_fault = false }) none
    ∙ ap (λ l. record { table = c.args.arbiter.table; awaits = []; receipts = l; is_numbered = c.is_some.result; lines = 0; has_fault = false }) c.in_ok-receipts.ensures
    ∙ ap (λ b. record { table = c.args.arbiter.table; awaits = []; receipts = no_receipts c.args.passes; is_numbered = b; lines = 0; has_fault = false }) c.is_some.ensures
