use Rattle.dine_table.proofs.Slots.{newcomers_slot-free, newcomers_slot-least, newcomers_slot-lt}
use Rattle.dine_table.proofs.law.newcomers_slot_is_the_least_free.Goals as goal

pub returns-clause-free : goal.returns-clause-free
returns-clause-free c t = newcomers_slot-free t

pub returns-clause-least : goal.returns-clause-least
returns-clause-least c t s before = newcomers_slot-least t s before

pub returns-clause-below_the_limit : goal.returns-clause-below_the_limit
returns-clause-below_the_limit c t ok = newcomers_slot-lt t ok
