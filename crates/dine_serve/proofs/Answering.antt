-- What is said to lines that are heard in several pieces, and what of it is written.
use Rattle.dine_serve.proofs.Words.{◌≡◌, ◌≢◌, ◌↔◌, IsTrue, ℕ, ◌+◌, ◌-◌, ◌^◌, ◌<◌, nat_le, min, Bool, true, false, ◌||◌, if◌then◌else◌, List, [], ◌∷◌, ◌++◌, length, take, is_ok, Option, Some, None, Err, IfSome, OnErr, OnOk, Result, Ok, refl, sym, ap, ◌∙◌, subst, append_assoc, arith, take-append-add, take-append_seam, take-append-le, take_min, flat_map-append, nat_tests, Appends-trans, IsPrefix, Appends, Consumes, begun_line, kept_of, seen_lines, seen-pieces, reading_of, HasRoom, Broker, has_no_room, after_reading, counted, is_torn, said_from, said_of_begun, said_to, said_to_input, standing_from, AppendsLinesOf, AppendsPartOf, text_of_lines}

-- ---- the first of the lines

module _ (s s' : Broker) (line : Option (List ℕ)) (now lines : List (Option (List ℕ))) (is : now ≡ line ∷ lines) (after : s' ≡ after_reading (counted s) (reading_of s.is_numbered line)) where
  -- what is said to it comes first
  pub said_from-first : said_from s now ≡ said_to (counted s) (reading_of s.is_numbered line) ++ said_from s' lines
  said_from-first = ap (said_from s) is ∙ ap (λ t. said_to (counted s) (reading_of s.is_numbered line) ++ said_from t lines) (sym after)

  -- and what it leaves comes first
  pub standing_from-first : standing_from s now ≡ standing_from s' lines
  standing_from-first = ap (standing_from s) is ∙ ap (λ t. standing_from t lines) (sym after)

-- ---- several pieces

-- what is said to two pieces
pub said_from-append : (s : Broker) (xs ys : List (Option (List ℕ))) → said_from s (xs ++ ys) ≡ said_from s xs ++ said_from (standing_from s xs) ys
said_from-append s [] ys = refl
said_from-append s (x ∷ xs) ys =
    let now = said_to (counted s) (reading_of s.is_numbered x) in
    let next = after_reading (counted s) (reading_of s.is_numbered x) in
    ap (λ more. now ++ more) (said_from-append next xs ys)
    ∙ sym (append_assoc now (said_from next xs) (said_from (standing_from next xs) ys))

-- where two pieces lead
pub standing_from-append : (s : Broker) (xs ys : List (Option (List ℕ))) → standing_from s (xs ++ ys) ≡ standing_from (standing_from s xs) ys
standing_from-append s [] ys = refl
standing_from-append s (x ∷ xs) ys = standing_from-append (after_reading (counted s) (reading_of s.is_numbered x)) xs ys

-- what is said to the rest of an input of which this was heard
abbrev pub said_later : Broker → List ℕ → List ℕ → List (List ℕ)
said_later s heard rest =
    said_from (standing_from s (seen_lines [] heard)) (seen_lines (begun_line [] heard) rest)
    ++ said_of_begun (standing_from s (seen_lines [] (heard ++ rest))) (begun_line [] (heard ++ rest))

-- what is said to an input begins with what is said to its first bytes
pub said_to_input-front : (s : Broker) (heard rest : List ℕ) → said_to_input s (heard ++ rest) ≡ said_from s (seen_lines [] heard) ++ said_later s heard rest
said_to_input-front s heard rest =
    let end = said_of_begun (standing_from s (seen_lines [] (heard ++ rest))) (begun_line [] (heard ++ rest)) in
    let first = said_from s (seen_lines [] heard) in
    let next = said_from (standing_from s (seen_lines [] heard)) (seen_lines (begun_line [] heard) rest) in
    ap (λ lines. said_from s lines ++ end) (seen-pieces [] heard rest)
    ∙ ap (λ said. said ++ end) (said_from-append s (seen_lines [] heard) (seen_lines (begun_line [] heard) rest))
    ∙ append_assoc first next end

-- an input begins with what was consumed of it
pub of_front : (a b : Option (List ℕ)) (heard : List ℕ) (P : List ℕ → Type 0) → Consumes a b heard → ((rest : List ℕ) → P (heard ++ rest)) → IfSome a P
of_front None b heard P consumed each = tt
of_front (Some xs) None heard P consumed each = absurd consumed
of_front (Some xs) (Some ys) heard P consumed each = subst P (sym consumed) (each ys)

-- ---- what is written

-- after lines that are written, some first lines of others
pub lines-later : (a b c : Option (List ℕ)) (first next later : List (List ℕ)) → Appends a b (text_of_lines first) → AppendsLinesOf b c next → AppendsLinesOf a c (first ++ next ++ later)
lines-later a b c first next later wrote (n, more) =
    let few = min n (length next) in
    let part : take (length first + few) (first ++ next ++ later) ≡ first ++ take n next =
    ap (take (length first + few)) (append_assoc first next later)
    ∙ take-append-add first (next ++ later) few
    ∙ ap (λ l. first ++ l) (take-append-le few next later (omega arith) ∙ take_min n next) in
    let text : text_of_lines (first ++ take n next) ≡ text_of_lines first ++ text_of_lines (take n next) = flat_map-append _ first (take n next) in
    (length first + few, subst (Appends a c) (sym text ∙ ap text_of_lines (sym part)) (Appends-trans a b c _ _ wrote more))

-- after lines that are written, some first bytes of others
pub part-later : (a b c : Option (List ℕ)) (first next later : List (List ℕ)) → Appends a b (text_of_lines first) → AppendsPartOf b c (text_of_lines next) → AppendsPartOf a c (text_of_lines (first ++ next ++ later))
part-later a b c first next later wrote (n, more) =
    let text = text_of_lines first in
    let bytes = text_of_lines next in
    let few = min n (length bytes) in
    let whole : text_of_lines (first ++ next ++ later) ≡ text ++ (bytes ++ text_of_lines later) =
    flat_map-append _ (first ++ next) later
    ∙ ap (λ l. l ++ text_of_lines later) (flat_map-append _ first next)
    ∙ append_assoc text bytes (text_of_lines later) in
    let part : take (length text + few) (text_of_lines (first ++ next ++ later)) ≡ text ++ take n bytes =
    ap (take (length text + few)) whole
    ∙ take-append-add text (bytes ++ text_of_lines later) few
    ∙ ap (λ l. text ++ l) (take-append-le few bytes (text_of_lines later) (omega arith) ∙ take_min n bytes) in
    (length text + few, subst (Appends a c) (sym part) (Appends-trans a b c _ _ wrote more))

-- all lines that are written, of more
pub lines-all : (a b : Option (List ℕ)) (first later : List (List ℕ)) → Appends a b (text_of_lines first) → AppendsLinesOf a b (first ++ later)
lines-all a b first later wrote =
    (length first, subst (λ lines. Appends a b (text_of_lines lines)) (sym (take-append_seam first later)) wrote)

-- ---- the line that has no line feed

-- what is kept of it tells whether there is one
pub said_of_begun-kept : (s : Broker) (begun : List ℕ) → said_of_begun s (kept_of begun) ≡ said_of_begun s begun
said_of_begun-kept s [] = refl
said_of_begun-kept s (byte ∷ bytes) = refl

-- whether a line has begun is told by what is kept of it
pub is_torn-kept : (begun : List ℕ) → is_torn (kept_of begun) ≡ is_torn begun
is_torn-kept [] = refl
is_torn-kept (byte ∷ bytes) = refl

-- there is none
pub none-begun : (told : Bool) (begun : List ℕ) → IsTrue told ↔ (begun ≢ []) → told ≡ false → begun ≡ []
none-begun told [] tells off = refl
none-begun true (byte ∷ bytes) tells off = absurd (let k : true ≡ false = off in cc)
none-begun false (byte ∷ bytes) tells off = absurd (let k : false ≡ true = tells.1 (λ none. let is : byte ∷ bytes ≡ [] = none in cc) in cc)

-- ---- room for one line more

-- where one of two facts would be too much, neither holds
neither : (a b : Bool) → (a || b) ≡ false → (a ≡ false) × (b ≡ false)
neither true b h = absurd (let k : true ≡ false = h in cc)
neither false b h = (refl, h)

-- a number that isn't at least another is below it
above : (m n : ℕ) → nat_le m n ≡ false → n < m
above m n h = grind (arith, nat_tests, h)

-- a broker that is told to have room has it
pub has_room : (s : Broker) → has_no_room s ≡ false → HasRoom s
has_room s h =
    let (lines, clock) = neither (nat_le (2 ^ 64 - 1) s.lines) (nat_le (2 ^ 64 - 2) s.table.clock) h in
    record { lines = above (2 ^ 64 - 1) s.lines lines; going = above (2 ^ 64 - 2) s.table.clock clock }

-- ---- results

-- what follows from what holds of a success
pub on_ok : {A E P Q : Type 0} (r : Result A E) → (P → Q) → OnOk r P → OnOk r Q
on_ok (Ok x) more holds = more holds
on_ok (Err fault) more holds = tt

-- what holds, holds where there is an error
pub of_error : {X E : Type 0} (P : Type 0) (r : Result X E) → P → OnErr r P
of_error P (Ok x) holds = tt
of_error P (Err e) holds = holds

-- what begins with a text goes on beginning with it where more is appended
pub begins_on : (old mid new text : List ℕ) → IsPrefix old mid → new ≡ mid ++ text → IsPrefix old new
begins_on old mid new text begins more = (begins.0 ++ text, sym (append_assoc old begins.0 text) ∙ ap (λ l. l ++ text) begins.1 ∙ sym more)

-- what is left is what a success leaves
pub left_ok : {A E X : Type 0} (r : Result A E) (left good bad : X) → left ≡ (if is_ok r then good else bad) → OnOk r (left ≡ good)
left_ok (Ok x) left good bad is = is
left_ok (Err fault) left good bad is = tt

-- what follows from what holds of known bytes
pub of_known : (o : Option (List ℕ)) (P Q : List ℕ → Type 0) → ((x : List ℕ) → P x → Q x) → IfSome o P → IfSome o Q
of_known None P Q more holds = tt
of_known (Some x) P Q more holds = more x holds

-- what holds of all bytes holds of those that are known
pub for_all_known : (o : Option (List ℕ)) (P : List ℕ → Type 0) → ((x : List ℕ) → P x) → IfSome o P
for_all_known None P each = tt
for_all_known (Some x) P each = each x
