-- What a client's request makes of the table of a broker.
use Rattle.std.specs.Prelude.{◌≡◌, List, [], ◌∷◌, ◌++◌, map, None}
use Rattle.dine_words.specs.declared.task.Task.{Task}
use Rattle.dine_words.specs.declared.task.State.TheVariants.{Hungry}
use Rattle.dine_table.specs.Table.{Table, state_of}

-- the pairs of a client with each of its rivals
abbrev pub rivalries : Task → List Task → List (Task × Task)
rivalries client rivals = map (λ rival. (client, rival)) rivals

-- the table, a client being in conflict with each of these rivals too
abbrev pub with_rivals : Table → Task → List Task → Table
with_rivals t client rivals = record t { conflicts = t.conflicts ++ rivalries client rivals }

-- The client is a new one, and hungry. It stands last, as one who was just served, and is in conflict with each of its
-- rivals. All others, and their conflicts, are as they were
pub record HasRequested (old new : Table) (client : Task) (rivals : List Task) : Type 0 where
  pub is_new : state_of old client ≡ None
  pub stands_last : new.order ≡ old.order ++ record { task = client; state = Hungry } ∷ []
  pub conflicts : new.conflicts ≡ old.conflicts ++ rivalries client rivals
  pub limits : new.limits ≡ old.limits

-- the same clients in the same states and order, with the same conflicts. Only the clock may have moved on
pub record IsAsBefore (old new : Table) : Type 0 where
  pub order : new.order ≡ old.order
  pub conflicts : new.conflicts ≡ old.conflicts
  pub limits : new.limits ≡ old.limits
