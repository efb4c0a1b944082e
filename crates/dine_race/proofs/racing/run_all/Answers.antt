use Rattle.std.proofs.Common.{refl}
use Rattle.dine_race.proofs.Setups.{has_raced}
use Rattle.dine_race.proofs.racing.run_all.Goals as goal

-- the setup, and then the workers
pub returns : goal.returns
returns g c =
    has_raced c.args.scenario.now _ c.args.passes.items c.remove-first.new.self.items c.put_first.new.passes.items c.in_ok-handed.handed.items c.remove-first.result c.into_parts-first.result.0 c.in_ok-set_up.field-0 c.into_parts-first.result.1 c.deref.result.now c.deref-2.result.now
    c.requires.some refl c.requires.new c.remove-first.ensures.value c.remove-first.ensures.by_index.2
    c.deref.ensures.value c.in_ok-set_up.ensures.run c.in_ok-set_up.ensures.first
    c.into_parts-first.ensures.pass c.into_parts-first.ensures.names c.in_ok-put_first.ensures
    c.deref-2.ensures.value c.in_ok-handed.ensures.done
