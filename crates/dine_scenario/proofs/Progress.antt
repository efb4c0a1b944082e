-- What a loop has found so far, before what a definition says of the rest.
use Rattle.std.proofs.Common.{List, ◌++◌, Option, Some, None, Result, Ok, Err}

-- what was found, and then the rest, if the rest is found
abbrev pub found_before : {A : Type 0} → List A → Option (List A) → Option (List A)
found_before found None = None
found_before found (Some rest) = Some (found ++ rest)

-- what was read, and then the rest, if the rest has no fault
abbrev pub read_before : {A E : Type 0} → List A → Result (List A) E → Result (List A) E
read_before done (Ok rest) = Ok (done ++ rest)
read_before done (Err e) = Err e
