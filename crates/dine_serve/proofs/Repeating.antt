-- Requests that come again: with a blank line in the place of each nothing is changed but the lines that answer them.
use Rattle.dine_serve.proofs.Words.{◌≡◌, ℕ, eqb, Bool, true, false, if◌then◌else◌, List, [], ◌∷◌, ◌++◌, map, Option, Some, None, Result, Ok, Err, inl, inr, refl, sym, ap, ◌∙◌, cases_Bool, filter-append, filter, Entry, has_to_wait, entry_text, LineFault, Made, Cancelled, Waits, Coming, First, Again, Stale, Foreign, Deed, Make, Cancel, Request, Ask, Order, Numbered, is_of_journal, coming_of, is_again, is_no_repeat, is_repeat, without_repeats, reading_of, Broker, after_coming, after_reading, counted, entries_by, entries_coming, entries_from, entries_made, is_full, said_coming, said_done, said_from, said_to, standing_from}
use Rattle.dine_words.specs.declared.call.Call.TheVariants as call
use Rattle.dine_serve.specs.declared.request.Deed.TheVariants.{Await as await}
use Rattle.dine_serve.proofs.Legal.{entry_of_journal}

-- ---- a line that comes again

-- a request that comes again leaves the broker where it stands
still-coming : (s : Broker) (pass number : ℕ) (deed : Deed) (coming : Coming) → is_again coming ≡ true → after_coming s pass number deed coming ≡ s
still-coming s pass number deed First h = absurd (let k : false ≡ true = h in cc)
still-coming s pass number deed (Again answer) h = refl
still-coming s pass number deed Stale h = absurd (let k : false ≡ true = h in cc)
still-coming s pass number deed Foreign h = absurd (let k : false ≡ true = h in cc)

-- it makes no call
none-coming : (s : Broker) (pass : ℕ) (deed : Deed) (coming : Coming) → is_again coming ≡ true → entries_coming s pass deed coming ≡ []
none-coming s pass deed First h = absurd (let k : false ≡ true = h in cc)
none-coming s pass deed (Again answer) h = refl
none-coming s pass deed Stale h = refl
none-coming s pass deed Foreign h = refl

-- nothing is said to it but lines that begin with `=`
unsaid-coming : (s : Broker) (pass : ℕ) (deed : Deed) (coming : Coming) → is_again coming ≡ true → filter is_no_repeat (said_coming s pass deed coming) ≡ []
unsaid-coming s pass deed First h = absurd (let k : false ≡ true = h in cc)
unsaid-coming s pass deed (Again (Made e)) h = refl
unsaid-coming s pass deed (Again (Cancelled found u)) h = refl
unsaid-coming s pass deed (Again Waits) h = refl
unsaid-coming s pass deed Stale h = absurd (let k : false ≡ true = h in cc)
unsaid-coming s pass deed Foreign h = absurd (let k : false ≡ true = h in cc)

-- it leaves the broker where it stands
still : (s : Broker) (r : Result (Option Request) LineFault) → is_repeat s r ≡ true → after_reading s r ≡ s
still s (Ok (Some (Numbered pass number deed))) h = still-coming s pass number deed (coming_of s.receipts pass number) h
still s (Ok None) h = refl
still s (Ok (Some (Ask question))) h = refl
still s (Ok (Some (Order pass deed))) h = absurd (let k : false ≡ true = h in cc)
still s (Err found) h = absurd (let k : false ≡ true = h in cc)

-- no call is made
none-made : (s : Broker) (r : Result (Option Request) LineFault) → is_repeat s r ≡ true → entries_by s r ≡ []
none-made s (Ok (Some (Numbered pass number deed))) h = none-coming s pass deed (coming_of s.receipts pass number) h
none-made s (Ok None) h = refl
none-made s (Ok (Some (Ask question))) h = refl
none-made s (Ok (Some (Order pass deed))) h = absurd (let k : false ≡ true = h in cc)
none-made s (Err found) h = refl

-- what is said to it begins with `=`
unsaid : (s : Broker) (r : Result (Option Request) LineFault) → is_repeat s r ≡ true → filter is_no_repeat (said_to s r) ≡ []
unsaid s (Ok (Some (Numbered pass number deed))) h = unsaid-coming s pass deed (coming_of s.receipts pass number) h
unsaid s (Ok None) h = refl
unsaid s (Ok (Some (Ask question))) h = absurd (let k : false ≡ true = h in cc)
unsaid s (Ok (Some (Order pass deed))) h = absurd (let k : false ≡ true = h in cc)
unsaid s (Err found) h = absurd (let k : false ≡ true = h in cc)

-- ---- a line that doesn't

-- a line of the journal doesn't begin with `=`
no_repeat : (line : List ℕ) → is_of_journal line ≡ true → is_no_repeat line ≡ true
no_repeat [] h = refl
no_repeat (b ∷ bs) h = elim (cases_Bool (eqb b 61)) [
  | inr e ↦ rw e refl
  | inl e ↦ elim (cases_Bool (eqb b 63)) [
    | inl f ↦ absurd (let k : false ≡ true = rw f at h in cc)
    | inr f ↦ elim (cases_Bool (eqb b 33)) [
      | inl g ↦ absurd (let k : false ≡ true = rw (f, g) at h in cc)
      | inr g ↦ absurd (let k : false ≡ true = rw (f, g, e) at h in cc)
    ]
  ]
]

-- no entry's line begins with `=`
kept-entries : (es : List Entry) → filter is_no_repeat (map entry_text es) ≡ map entry_text es
kept-entries [] = refl
kept-entries (e ∷ es) = rw (no_repeat (entry_text e) (entry_of_journal e)) (ap (λ l. entry_text e ∷ l) (kept-entries es))

-- no line that is said to a request begins with `=`, where it doesn't come again
kept-done : (s : Broker) (pass : ℕ) (deed : Deed) → filter is_no_repeat (said_done s pass deed) ≡ said_done s pass deed
kept-done s pass (Make c) = kept-entries (entries_made s pass c)
kept-done s pass (Cancel u) = refl
kept-done s pass (await u) = elim (cases_Bool (has_to_wait s.table u)) [
  | inl e ↦ rw e (elim (cases_Bool (is_full s)) [
    | inl f ↦ rw f refl
    | inr f ↦ rw f refl
  ])
  | inr e ↦ rw e (kept-entries (entries_made s pass (call.Begin u)))
]

-- so it is with a request with a number
kept-coming : (s : Broker) (pass : ℕ) (deed : Deed) (coming : Coming) → is_again coming ≡ false → filter is_no_repeat (said_coming s pass deed coming) ≡ said_coming s pass deed coming
kept-coming s pass deed First h = kept-done s pass deed
kept-coming s pass deed (Again answer) h = absurd (let k : true ≡ false = h in cc)
kept-coming s pass deed Stale h = refl
kept-coming s pass deed Foreign h = refl

-- what is said to it doesn't begin so
kept : (s : Broker) (r : Result (Option Request) LineFault) → is_repeat s r ≡ false → filter is_no_repeat (said_to s r) ≡ said_to s r
kept s (Ok None) h = refl
kept s (Ok (Some (Ask question))) h = refl
kept s (Ok (Some (Order pass deed))) h = kept-done s pass deed
kept s (Ok (Some (Numbered pass number deed))) h = kept-coming s pass deed (coming_of s.receipts pass number) h
kept s (Err found) h = refl

-- ---- a blank line in its place

-- a blank line asks for nothing
blank : (numbered : Bool) → reading_of numbered (Some []) ≡ Ok None
blank numbered = refl

module _ (s : Broker) (line : Option (List ℕ)) where
  abbrev reading : Result (Option Request) LineFault
  reading = reading_of s.is_numbered line

  abbrev silent : Option (List ℕ)
  silent = if is_repeat s reading then Some [] else line

  silent-after : after_reading (counted s) (reading_of s.is_numbered silent) ≡ after_reading (counted s) reading
  silent-after = elim (cases_Bool (is_repeat s reading)) [
    | inl e ↦ rw e (sym (still (counted s) reading e))
    | inr e ↦ rw e refl
  ]

  silent-entries : entries_by (counted s) (reading_of s.is_numbered silent) ≡ entries_by (counted s) reading
  silent-entries = elim (cases_Bool (is_repeat s reading)) [
    | inl e ↦ rw e (sym (none-made (counted s) reading e))
    | inr e ↦ rw e refl
  ]

  silent-said : filter is_no_repeat (said_to (counted s) reading) ≡ said_to (counted s) (reading_of s.is_numbered silent)
  silent-said = elim (cases_Bool (is_repeat s reading)) [
    | inl e ↦ unsaid (counted s) reading e ∙ rw e refl
    | inr e ↦ kept (counted s) reading e ∙ rw e refl
  ]

-- ---- many lines

-- with a blank line in the place of each that comes again the broker stands where it stands
pub standing-repeats : (s : Broker) (lines : List (Option (List ℕ))) → standing_from s lines ≡ standing_from s (without_repeats s lines)
standing-repeats s [] = refl
standing-repeats s (line ∷ lines) =
    let next = after_reading (counted s) (reading_of s.is_numbered line) in
    standing-repeats next lines
    ∙ ap (λ t. standing_from t (without_repeats next lines)) (sym (silent-after s line))

-- the same calls are made
pub entries-repeats : (s : Broker) (lines : List (Option (List ℕ))) → entries_from s lines ≡ entries_from s (without_repeats s lines)
entries-repeats s [] = refl
entries-repeats s (line ∷ lines) =
    let reading = reading_of s.is_numbered line in
    let next = after_reading (counted s) reading in
    let rest = without_repeats next lines in
    ap (λ l. entries_by (counted s) reading ++ l) (entries-repeats next lines)
    ∙ ap (λ l. l ++ entries_from next rest) (sym (silent-entries s line))
    ∙ ap (λ t. entries_by (counted s) (reading_of s.is_numbered (silent s line)) ++ entries_from t rest) (sym (silent-after s line))

-- the same is said, but for the lines that begin with `=`
pub said-repeats : (s : Broker) (lines : List (Option (List ℕ))) → filter is_no_repeat (said_from s lines) ≡ said_from s (without_repeats s lines)
said-repeats s [] = refl
said-repeats s (line ∷ lines) =
    let reading = reading_of s.is_numbered line in
    let next = after_reading (counted s) reading in
    let rest = without_repeats next lines in
    filter-append is_no_repeat (said_to (counted s) reading) (said_from next lines)
    ∙ ap (λ l. filter is_no_repeat (said_to (counted s) reading) ++ l) (said-repeats next lines)
    ∙ ap (λ l. l ++ said_from next rest) (silent-said s line)
    ∙ ap (λ t. said_to (counted s) (reading_of s.is_numbered (silent s line)) ++ said_from t rest) (sym (silent-after s line))
