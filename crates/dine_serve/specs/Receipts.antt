-- What each pass asked last, where requests are numbered, and what it was answered.
use Rattle.std.specs.Prelude.{ℕ, min, nat_lt, ◌==◌, Bool, false, if◌then◌else◌, List, [], replicate, slice_get, slice_set, Option, Some, None}
use Rattle.dine_serve.specs.Words.{Entry, Await, Made, Coming, First, Again, Stale, Foreign, Receipt}

-- the most passes that can number their requests
abbrev pub most_numbered_passes : ℕ
most_numbered_passes = 65536

-- nobody asked for anything. Where requests have no numbers there are none, and else one for each pass
abbrev pub no_receipts : Option ℕ → List (Option Receipt)
no_receipts None = []
no_receipts (Some passes) = replicate (min passes most_numbered_passes) None

-- ---- how a request comes, by its number and its pass's last request

-- where the pass may ask: a number past the last one's comes first, the same comes again, and a smaller one is stale
abbrev pub coming_after : Option Receipt → ℕ → Coming
coming_after None number = First
coming_after (Some last) number =
    if nat_lt last.number number then First
    else (if last.number == number then Again last.answer else Stale)

-- where the pass isn't one of those that may ask, it is foreign
abbrev pub coming_at : Option (Option Receipt) → ℕ → Coming
coming_at None number = Foreign
coming_at (Some last) number = coming_after last number

-- the same, by the receipts of all passes
abbrev pub coming_of : List (Option Receipt) → ℕ → ℕ → Coming
coming_of receipts pass number = coming_at (slice_get receipts pass) number

-- ---- a begin that waited is made

-- the last request of a pass has this number
abbrev pub has_number : Option (Option Receipt) → ℕ → Bool
has_number None number = false
has_number (Some None) number = false
has_number (Some (Some last)) number = last.number == number

-- the receipt of its pass is this, if the pass has asked for no more than the request with this number
abbrev pub settled_by : Option ℕ → List (Option Receipt) → ℕ → Entry → List (Option Receipt)
settled_by None receipts pass e = receipts
settled_by (Some number) receipts pass e =
    if has_number (slice_get receipts pass) number
    then slice_set receipts pass (Some record { number = number; answer = Made e })
    else receipts

-- its entry is on the receipt of its pass, unless the pass has asked for more since
abbrev pub settled : List (Option Receipt) → Await → Entry → List (Option Receipt)
settled receipts a e = settled_by a.number receipts a.pass e
