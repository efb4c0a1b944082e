-- How a service ends that writes a first line, and then answers what it hears.
use Rattle.dine_serve.proofs.Words.{◌≡◌, ℕ, Bool, true, false, List, [], ◌∷◌, ◌++◌, Option, IfSome, IfOk, OnOk, Result, Ok, Err, refl, sym, ap, ◌∙◌, Appends, text_of_lines, CliFault, Memory, Read, Write, Ended, end_of, AppendsLinesOf, AppendsPartOf, Broker, has_fault_of, said_to_input, HasAnswered, Says, Serves}
use Rattle.std.specs.Result.{IsErr}
use Rattle.dine_serve.proofs.Answering.{of_known, on_ok}
use Rattle.dine_serve.proofs.Opening.{headed-all, headed-answered, headed-in_lines, headed-in_part}

-- ---- what a result tells

-- what holds in any case holds of a success
pub in_any_case : {A E P : Type 0} (r : Result A E) → P → OnOk r P
in_any_case (Ok x) holds = holds
in_any_case (Err fault) holds = tt

-- what holds of a success holds of its value
pub of_value : {A E P Q : Type 0} (r : Result A E) → (P → Q) → OnOk r P → IfOk r (λ x. Q)
of_value (Ok x) more holds = more holds
of_value (Err fault) more holds = tt

-- no success is a fault
no_fault : {A : Type 0} (x : A) (fault : CliFault) → ◌≡◌ {A = Result A CliFault} (Ok x) (Err fault) → ⊥
no_fault x fault same = absurd cc

-- a result tells one fault
pub two_faults : {A : Type 0} {fault told : CliFault} → ◌≡◌ {A = Result A CliFault} (Err fault) (Err told) → (fault ≡ told → ⊥) → ⊥
two_faults {fault = fault} {told = told} same differ = differ (let is : fault ≡ told = cc in is)

-- ---- services

-- a service that gave up: what was written by then
pub serves-in_part : {A : Type 0} (r : Result A CliFault) (Ends : A → List ℕ → Type 0) (s : Broker) (first : List (List ℕ)) (input rest old new : Option (List ℕ)) (ro rn wo wn : Bool) → IsErr r → (r ≡ Err Read → HasAnswered s first input rest old new × (rn ≡ true)) → (r ≡ Err Memory → IfSome input (λ bytes. AppendsLinesOf old new (first ++ said_to_input s bytes))) → (r ≡ Err Write → IfSome input (λ bytes. AppendsPartOf old new (text_of_lines (first ++ said_to_input s bytes)))) → (r ≡ Err Write → wn ≡ true) → Serves r Ends s first input rest old new ro rn wo wn
serves-in_part (Ok x) Ends s first input rest old new ro rn wo wn gave_up read memory write mark = absurd (let two : false ≡ true = gave_up in cc)
serves-in_part (Err fault) Ends s first input rest old new ro rn wo wn gave_up read memory write mark = record {
  output = tt;
  ended = tt;
  at_each_read = λ failed. (read failed).0;
  memory = memory;
  write = write;
  marks = record {
    read_mark = λ failed. (read failed).1;
    write_mark = mark;
    read_unmarked = tt;
    write_unmarked = tt;
  };
}

-- behind a first line a service serves as one that writes it first
pub headed-serves : {A : Type 0} (r : Result A CliFault) (Ends : A → List ℕ → Type 0) (s : Broker) (h : List ℕ) (input rest old mid new : Option (List ℕ)) (ro rn wo wm wn : Bool) → Appends old mid (text_of_lines (h ∷ [])) → wm ≡ wo → Serves r Ends s [] input rest mid new ro rn wm wn → Serves r Ends s (h ∷ []) input rest old new ro rn wo wn
headed-serves r Ends s h input rest old mid new ro rn wo wm wn wrote same served = record {
  output = on_ok r (headed-all h input old mid new (said_to_input s) wrote) served.output;
  ended = served.ended;
  at_each_read = λ failed. headed-answered h s s input rest old mid new refl wrote (served.at_each_read failed);
  memory = λ failed. headed-in_lines h input old mid new (said_to_input s) wrote (served.memory failed);
  write = λ failed. headed-in_part h input old mid new (said_to_input s) wrote (served.write failed);
  marks = record {
    read_mark = served.marks.read_mark;
    write_mark = served.marks.write_mark;
    read_unmarked = served.marks.read_unmarked;
    write_unmarked = on_ok r (λ unmarked. unmarked ∙ same) served.marks.write_unmarked;
  };
}

-- a service that has answered all ends as the faults of the lines say
pub served-end : (end : Ended) (is_fault : Bool) (s : Broker) (first : List (List ℕ)) (input rest old new : Option (List ℕ)) (ro rn wo wn : Bool) → end ≡ end_of is_fault → IfSome input (λ bytes. Appends old new (text_of_lines (first ++ said_to_input s bytes))) → IfSome input (λ bytes. is_fault ≡ has_fault_of s bytes) → rn ≡ ro → wn ≡ wo → Serves (Ok end) (λ e bytes. e ≡ end_of (has_fault_of s bytes)) s first input rest old new ro rn wo wn
served-end end is_fault s first input rest old new ro rn wo wn is written fault read_unmarked write_unmarked = record {
  output = written;
  ended = of_known input (λ bytes. is_fault ≡ has_fault_of s bytes) (λ bytes. end ≡ end_of (has_fault_of s bytes)) (λ bytes same. is ∙ ap end_of same) fault;
  at_each_read = λ failed. absurd (no_fault end Read failed);
  memory = λ failed. absurd (no_fault end Memory failed);
  write = λ failed. absurd (no_fault end Write failed);
  marks = record {
    read_mark = λ failed. absurd (no_fault end Read failed);
    write_mark = λ failed. absurd (no_fault end Write failed);
    read_unmarked = read_unmarked;
    write_unmarked = write_unmarked;
  };
}

-- ---- steps

-- a step that found no memory: what was written by then
pub says-in_lines : {A : Type 0} (r : Result A CliFault) (bytes : List ℕ) (Left : Type 0) (old new : Option (List ℕ)) (mark_old mark_new : Bool) → r ≡ Err Memory → Left → Says r bytes Left old new mark_old mark_new
says-in_lines (Ok x) bytes Left old new mark_old mark_new is left = absurd (no_fault x Memory is)
says-in_lines (Err fault) bytes Left old new mark_old mark_new is left = record {
  written = tt;
  memory = λ failed. left;
  write = λ failed. absurd (two_faults (sym is ∙ failed) (λ same. absurd cc));
  writes_only = record {
    no_read = λ failed. two_faults (sym is ∙ failed) (λ same. absurd cc);
    mark = λ failed. absurd (two_faults (sym is ∙ failed) (λ same. absurd cc));
    unmarked = tt;
  };
}

-- a step whose write failed
pub says-in_part : {A : Type 0} (r : Result A CliFault) (bytes : List ℕ) (Left : Type 0) (old new : Option (List ℕ)) (mark_old mark_new : Bool) → r ≡ Err Write → AppendsPartOf old new bytes → mark_new ≡ true → Says r bytes Left old new mark_old mark_new
says-in_part (Ok x) bytes Left old new mark_old mark_new is part mark = absurd (no_fault x Write is)
says-in_part (Err fault) bytes Left old new mark_old mark_new is part mark = record {
  written = tt;
  memory = λ failed. absurd (two_faults (sym is ∙ failed) (λ same. absurd cc));
  write = λ failed. part;
  writes_only = record {
    no_read = λ failed. two_faults (sym is ∙ failed) (λ same. absurd cc);
    mark = λ failed. mark;
    unmarked = tt;
  };
}
