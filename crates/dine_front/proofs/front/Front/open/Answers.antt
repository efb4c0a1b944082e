use Rattle.dine_front.proofs.front.Front.open.Goals as goal

-- the passes that are handed out are those that were asked for
pub returns-in-Ok-hand_out-clause-new : goal.returns-in-Ok-hand_out-clause-new
returns-in-Ok-hand_out-clause-new g c = rw (← c.opened.view_is) c.in-Ok-hand_out.ensures.new
