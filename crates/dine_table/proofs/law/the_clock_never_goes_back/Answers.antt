use Rattle.std.proofs.Common.{arith}
use Rattle.dine_table.specs.Table.{opening_table}
use Rattle.dine_table.proofs.Clock.{clock-after_call-ge, clock-after_call-le, clock-from-ge}
use Rattle.dine_table.proofs.law.the_clock_never_goes_back.Goals as goal

pub returns-clause-not_back : goal.returns-clause-not_back
returns-clause-not_back c t call = clock-after_call-le t call

pub returns-clause-by_one_at_most : goal.returns-clause-by_one_at_most
returns-clause-by_one_at_most c t call = clock-after_call-ge t call

pub returns-clause-calls : goal.returns-clause-calls
returns-clause-calls c limits history = let bound = clock-from-ge (opening_table limits) history in omega (arith, bound)
