-- The counts of slots, as records come, go and change their forks.
use Rattle.dine_forks.proofs.Words.{◌≡◌, ℕ, Bool, ◌<◌, ◌≤◌, true, false, eqb, ◌==◌, ◌≢◌, not, if◌then◌else◌, List, [], ◌∷◌, ◌++◌, Some, inl, inr, sym, arith, cases_Bool, eqb-true, eqb-false, Fork, ForkId, ForkRecord, ForkBook, IsBook, EachIdOnce, record_of, with_fork, without, Count, counted_less, counted_more, count_in, count_with, count_without, is_asked, lacks, one_if, is_non_holder, is_asked_of}
use Rattle.dine_forks.proofs.RecordTests.{length-filter-le}
use Rattle.dine_forks.proofs.Records.{pass-append, pass-with_fork, pass-without, with_this}
use Rattle.dine_forks.proofs.Linking.{AreEnds, ends_of_used}

-- ---- an end of one record

-- the first end, or the second
abbrev pub end_of : Bool → ForkRecord → ℕ
end_of first r = if first then r.first else r.second

-- it lacks the fork, or is asked for it, as the fork tells of that end
pub at-end : (first : Bool) (r : ForkRecord) → r.first ≢ r.second → (is_non_holder (end_of first r) r ≡ lacks first r.fork) × (is_asked_of (end_of first r) r ≡ is_asked first r.fork)
at-end true r differ = (grind arith, grind arith)
at-end false r differ = (grind arith, grind arith)

-- the ends differ
pub ends-differ : (first : Bool) (r : ForkRecord) → r.first ≢ r.second → end_of (not first) r ≢ end_of first r
ends-differ true r differ = λ same. differ (sym same)
ends-differ false r differ = differ

-- a slot that is neither end isn't counted there
pub no-end : (first : Bool) (s : ℕ) (r : ForkRecord) → s ≢ end_of first r → s ≢ end_of (not first) r → (is_non_holder s r ≡ false) × (is_asked_of s r ≡ false)
no-end true s r one two = (grind arith, grind arith)
no-end false s r one two = (grind arith, grind arith)

-- two counts are one by their numbers
pub same-count : (a b : Count) → a.lacked ≡ b.lacked → a.asked ≡ b.asked → a ≡ b
same-count a b lacked asked = grind (arith, lacked, asked)

-- ---- records come, go and change

-- the count of a slot, once a fork is counted in place of another at the two ends of a record
abbrev pub recounted_at : ℕ → ForkRecord → Bool → Fork → Fork → Count → Count
recounted_at s r first had fork c =
    if s == end_of first r then count_with first fork (count_without first had c)
    else if s == end_of (not first) r then count_with (not first) fork (count_without (not first) had c)
    else c

-- of one end
pub put-end : (rs : List ForkRecord) (id : ForkId) (fork : Fork) (r : ForkRecord) (first : Bool) → EachIdOnce rs → record_of id rs ≡ Some r → r.first ≢ r.second
    → count_in (with_fork id fork rs) (end_of first r) ≡ count_with first fork (count_without first r.fork (count_in rs (end_of first r)))
put-end rs id fork r first once found differ =
    let s = end_of first r in
    let was = at-end first r differ in let is = at-end first (with_this fork r) differ in
    let lacked = rw (was.0, is.0) at (pass-with_fork (is_non_holder s) rs id fork r once found) in
    let asked = rw (was.1, is.1) at (pass-with_fork (is_asked_of s) rs id fork r once found) in
    let some = rw was.0 at (pass-without (is_non_holder s) rs id r once found) in
    let some_asked = rw was.1 at (pass-without (is_asked_of s) rs id r once found) in
    same-count _ _ (omega arith) (omega arith)

-- of any slot
pub count-put : (rs : List ForkRecord) (id : ForkId) (fork : Fork) (r : ForkRecord) (first : Bool) → EachIdOnce rs → record_of id rs ≡ Some r → r.first ≢ r.second
    → (s : ℕ) → count_in (with_fork id fork rs) s ≡ recounted_at s r first r.fork fork (count_in rs s)
count-put rs id fork r first once found differ s = elim (cases_Bool (eqb s (end_of first r))) [
  | inl e ↦ rw (e, eqb-true s (end_of first r) e) (put-end rs id fork r first once found differ)
  | inr e ↦ elim (cases_Bool (eqb s (end_of (not first) r))) [
    | inl f ↦ rw (e, f, eqb-true s (end_of (not first) r) f) (put-end rs id fork r (not first) once found differ)
    | inr f ↦
        let was = no-end first s r (eqb-false s (end_of first r) e) (eqb-false s (end_of (not first) r) f) in
        let is = no-end first s (with_this fork r) (eqb-false s (end_of first r) e) (eqb-false s (end_of (not first) r) f) in
        let lacked = rw (was.0, is.0) at (pass-with_fork (is_non_holder s) rs id fork r once found) in
        let asked = rw (was.1, is.1) at (pass-with_fork (is_asked_of s) rs id fork r once found) in
        rw (e, f) (same-count _ _ (omega arith) (omega arith))
  ]
]

-- of one end of a record that comes
append-end : (rs : List ForkRecord) (r : ForkRecord) (first : Bool) → r.first ≢ r.second → count_in (rs ++ r ∷ []) (end_of first r) ≡ count_with first r.fork (count_in rs (end_of first r))
append-end rs r first differ =
    let at = at-end first r differ in
    same-count _ _ (rw at.0 at (pass-append (is_non_holder (end_of first r)) rs r)) (rw at.1 at (pass-append (is_asked_of (end_of first r)) rs r))

-- a record comes
pub count-append : (rs : List ForkRecord) (r : ForkRecord) → r.first ≢ r.second → (s : ℕ) → count_in (rs ++ r ∷ []) s ≡ counted_more s r (count_in rs s)
count-append rs r differ s = elim (cases_Bool (eqb s r.first)) [
  | inl e ↦ rw (e, eqb-true s r.first e) (append-end rs r true differ)
  | inr e ↦ elim (cases_Bool (eqb s r.second)) [
    | inl f ↦ rw (e, f, eqb-true s r.second f) (append-end rs r false differ)
    | inr f ↦
        let at = no-end true s r (eqb-false s r.first e) (eqb-false s r.second f) in
        let lacked = rw at.0 at (pass-append (is_non_holder s) rs r) in let asked = rw at.1 at (pass-append (is_asked_of s) rs r) in
        rw (e, f) (same-count _ _ (omega arith) (omega arith))
  ]
]

-- of one end of a record that goes
gone-end : (rs : List ForkRecord) (id : ForkId) (r : ForkRecord) (first : Bool) → EachIdOnce rs → record_of id rs ≡ Some r → r.first ≢ r.second
    → count_in (without id rs) (end_of first r) ≡ count_without first r.fork (count_in rs (end_of first r))
gone-end rs id r first once found differ =
    let s = end_of first r in let at = at-end first r differ in
    let lacked = rw at.0 at (pass-without (is_non_holder s) rs id r once found) in let asked = rw at.1 at (pass-without (is_asked_of s) rs id r once found) in
    same-count _ _ (omega arith) (omega arith)

-- a record goes
pub count-gone : (rs : List ForkRecord) (id : ForkId) (r : ForkRecord) → EachIdOnce rs → record_of id rs ≡ Some r → r.first ≢ r.second → (s : ℕ) → count_in (without id rs) s ≡ counted_less s r (count_in rs s)
count-gone rs id r once found differ s = elim (cases_Bool (eqb s r.first)) [
  | inl e ↦ rw (e, eqb-true s r.first e) (gone-end rs id r true once found differ)
  | inr e ↦ elim (cases_Bool (eqb s r.second)) [
    | inl f ↦ rw (e, f, eqb-true s r.second f) (gone-end rs id r false once found differ)
    | inr f ↦
        let at = no-end true s r (eqb-false s r.first e) (eqb-false s r.second f) in
        let lacked = rw at.0 at (pass-without (is_non_holder s) rs id r once found) in let asked = rw at.1 at (pass-without (is_asked_of s) rs id r once found) in
        rw (e, f) (same-count _ _ (omega arith) (omega arith))
  ]
]

-- ---- what is told of a record of a book

module _ (book : ForkBook) (id : ForkId) (r : ForkRecord) (sound : IsBook book) (found : record_of id book.records ≡ Some r) where
  -- its ends are two slots
  pub ends_in : AreEnds book.slots r
  ends_in = ends_of_used book.slots id book.records r sound.ends_are_slots found

  -- either is one
  pub end_in : (first : Bool) → end_of first r < book.slots
  end_in true = ends_in.first
  end_in false = ends_in.second

  -- its fork is counted at either
  pub some-at : (first : Bool) → (one_if (lacks first r.fork) ≤ (count_in book.records (end_of first r)).lacked) × (one_if (is_asked first r.fork) ≤ (count_in book.records (end_of first r)).asked)
  some-at first =
      let at = at-end first r ends_in.differ in
      let lacked = rw at.0 at (pass-without (is_non_holder (end_of first r)) book.records id r sound.each_id_once found) in
      let asked = rw at.1 at (pass-without (is_asked_of (end_of first r)) book.records id r sound.each_id_once found) in
      (omega arith, omega arith)

-- no slot lacks more forks than a book has room for, nor is asked for more
pub few-in : (book : ForkBook) → IsBook book → (s : ℕ) → ((count_in book.records s).lacked ≤ 65536) × ((count_in book.records s).asked ≤ 65536)
few-in book sound s =
    let lacked = length-filter-le (is_non_holder s) book.records in let asked = length-filter-le (is_asked_of s) book.records in
    let fits = sound.fits in let room = sound.little_room in
    (omega arith, omega arith)

-- of a fork less no number is more
pub without-le : (first : Bool) (fork : Fork) (c : Count) → ((count_without first fork c).lacked ≤ c.lacked) × ((count_without first fork c).asked ≤ c.asked)
without-le first fork c = (omega arith, omega arith)
