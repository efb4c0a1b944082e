-- What follows from a clause on a call's success or its error.
use Rattle.std.proofs.Common.{Result, Ok, Err, OnErr, OnOk}

-- what is said of a success is also said where something follows from it
pub on_ok : {X E : Type 0} (P Q : Type 0) (r : Result X E) → (P → Q) → OnOk r P → OnOk r Q
on_ok P Q (Ok x) follows p = follows p
on_ok P Q (Err e) follows p = tt

-- what is said of an error is also said where something follows from it
pub on_err : {X E : Type 0} (P Q : Type 0) (r : Result X E) → (P → Q) → OnErr r P → OnErr r Q
on_err P Q (Ok x) follows p = tt
on_err P Q (Err e) follows p = follows p
