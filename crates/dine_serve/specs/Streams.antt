-- What a service has answered of what it heard.
use Rattle.std.specs.Prelude.{◌≡◌, ℕ, Bool, true, List, [], ◌++◌, Option, IfSome, Result, Err, IfOk, OnOk}
use Rattle.std.specs.Io.KnownBytes.{Appends, Consumes}
use Rattle.dine_serve.specs.Words.{text_of_lines, CliFault, Memory, Read, Write, seen_lines, IsMarked, WritesOnly, AppendsLinesOf, AppendsPartOf}
use Rattle.dine_serve.specs.Serving.{Broker, said_from, said_to_input}

-- some bytes were heard, and all answers owed to the whole lines among them are written, after the lines that came first
pub record HasAnswered (s : Broker) (first : List (List ℕ)) (input rest old new : Option (List ℕ)) : Type 0 where
  pub heard : List ℕ
  pub consumed : Consumes input rest heard
  pub written : Appends old new (text_of_lines (first ++ said_from s (seen_lines [] heard)))

-- a service stands here, writes these lines first, and answers all that it hears: how it ended, what it has written then of
-- all that is to be said, and what the marks of its reader and its writer tell. `Ends` is what its value tells of the input
pub record Serves {A : Type 0} (outcome : Result A CliFault) (Ends : A → List ℕ → Type 0) (s : Broker) (first : List (List ℕ)) (input rest old new : Option (List ℕ)) (read_old read_new write_old write_new : Bool) : Type 0 where
  pub output : OnOk outcome (IfSome input (λ bytes. Appends old new (text_of_lines (first ++ said_to_input s bytes))))
  pub ended : IfOk outcome (λ value. IfSome input (λ bytes. Ends value bytes))
  pub at_each_read : outcome ≡ Err Read → HasAnswered s first input rest old new
  pub memory : outcome ≡ Err Memory → IfSome input (λ bytes. AppendsLinesOf old new (first ++ said_to_input s bytes))
  pub write :
      outcome ≡ Err Write → IfSome input (λ bytes. AppendsPartOf old new (text_of_lines (first ++ said_to_input s bytes)))
  pub marks : IsMarked outcome (read_new ≡ true) read_old read_new write_old write_new

-- a step reads nothing and writes these bytes: how it ended, what it has written then, and what the writer's mark tells.
-- `Left` is what is known where memory was wanting
pub record Says {A : Type 0} (outcome : Result A CliFault) (bytes : List ℕ) (Left : Type 0) (old new : Option (List ℕ)) (mark_old mark_new : Bool) : Type 0 where
  pub written : OnOk outcome (Appends old new bytes)
  pub memory : outcome ≡ Err Memory → Left
  pub write : outcome ≡ Err Write → AppendsPartOf old new bytes
  pub writes_only : WritesOnly outcome mark_old mark_new
