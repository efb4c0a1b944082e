-- What an engine says of the marks of the reader and the writer that it is given, each before and after.
use Rattle.std.specs.Prelude.{◌≡◌, ◌≢◌, Bool, true, Result, Err, OnOk}
use Rattle.dine_streams.specs.declared.ended.CliFault.{CliFault}
use Rattle.dine_streams.specs.declared.ended.CliFault.TheVariants.{Read, Write}

-- what the marks of the reader and the writer tell, each before and after a run: no other failure ends it so, and none is
-- marked where it ends well. `ReadFailed` is what is known of a failed read
pub record IsMarked {A : Type 0} (outcome : Result A CliFault) (ReadFailed : Type 0) (read_old read_new write_old write_new : Bool) : Type 0 where
  pub read_mark : outcome ≡ Err Read → ReadFailed
  pub write_mark : outcome ≡ Err Write → write_new ≡ true
  pub read_unmarked : OnOk outcome (read_new ≡ read_old)
  pub write_unmarked : OnOk outcome (write_new ≡ write_old)

-- a step reads nothing, so no failed read ends it. Where a failed write does, the writer is marked, and where all is well the
-- writer's mark is as it was
pub record WritesOnly {A : Type 0} (outcome : Result A CliFault) (before after : Bool) : Type 0 where
  pub no_read : outcome ≢ Err Read
  pub mark : outcome ≡ Err Write → after ≡ true
  pub unmarked : OnOk outcome (after ≡ before)
