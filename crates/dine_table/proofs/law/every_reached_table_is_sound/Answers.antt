use Rattle.dine_table.proofs.Sound.{sound_after, sound_after_call, sound_at_opening}
use Rattle.dine_table.proofs.law.every_reached_table_is_sound.Goals as goal

pub returns-clause-at_opening : goal.returns-clause-at_opening
returns-clause-at_opening c limits = sound_at_opening limits

pub returns-clause-after_a_call : goal.returns-clause-after_a_call
returns-clause-after_a_call c t call sound = sound_after_call t call sound

pub returns-clause-after_a_history : goal.returns-clause-after_a_history
returns-clause-after_a_history c limits history = sound_after limits history
