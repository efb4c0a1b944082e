use Rattle.std.proofs.Common.{sym, subst}
use Rattle.dine_table.specs.Sound.{IsSound}
use Rattle.dine_table.proofs.CallerLemmas.{sound_after_call}
use Rattle.dine_uses.proofs.calling.carry_out.Goals as goal

pub returns-in-Joined-clause-sound : goal.returns-in-Joined-clause-sound
returns-in-Joined-clause-sound c sound = subst IsSound (sym c.apply.ensures.table) (sound_after_call c.args.arbiter.now.table c.args.call sound)
