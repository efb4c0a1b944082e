-- The lines of a legal journal's text, read a second time: each is the line of the next entry, and behind the last there
-- is none.
use Rattle.std.proofs.Common.{◌≡◌, ◌<◌, ℕ, List, [], ◌∷◌, ◌++◌, length, refl, sym, ap, ◌∙◌, subst, length-append, arith}
use Rattle.dine_words.specs.declared.entry.Entry.{Entry}
use Rattle.dine_words.specs.declared.limits.Limits.{Limits}
use Rattle.dine_words.specs.declared.version.JournalVersion.{JournalVersion}
use Rattle.dine_words.specs.Texts.{IsEntryOf, entry_text}
use Rattle.dine_words.specs.Versions.{AllowsLimits}
use Rattle.dine_words.specs.JournalText.{AllFit, HasNoEntry}
use Rattle.dine_journal.specs.JournalText.{IsTextOf}
use Rattle.dine_journal.specs.JournalText.{entry_line, entry_lines, header_line_of}
use Rattle.dine_journal.specs.Kept.{Journal}
use Rattle.dine_words.proofs.CallerLemmas.{header-same, line-same}
use Rattle.dine_chart.specs.Reading.{IsLegalText}

-- the rest is the lines of these entries, of the version and the limits that the header of the journal gave
pub record IsReadTo (text : List ℕ) (journal : Journal) (v : JournalVersion) (limits : Limits) (rest : List ℕ) (es : List Entry) : Type 0 where
  pub text_of : IsTextOf text journal
  pub limits_are : limits ≡ journal.limits
  pub rest_is : rest ≡ entry_lines es
  pub fit : AllFit v es

-- the header was read
pub read-header : (text rest : List ℕ) (v : JournalVersion) (limits : Limits) (legal : IsLegalText text) → AllowsLimits v limits → text ≡ header_line_of v limits ++ rest → IsReadTo text legal.0 v limits rest legal.0.entries
read-header text rest v limits legal allowed is =
    let t = legal.1 in
    let same = header-same v t.version limits legal.0.limits rest (entry_lines legal.0.entries) allowed t.allowed (sym is ∙ t.whole) in
    record {
      text_of = t;
      limits_are = same.1;
      rest_is = same.2;
      fit = subst (λ w. AllFit w legal.0.entries) (sym same.0) t.fit;
    }

-- a line has a byte
pub line-byte : (e : Entry) (rest : List ℕ) → length rest < length (entry_line e ++ rest)
line-byte e rest = omega (arith, length-append (entry_line e) rest, length-append (entry_text e) (10 ∷ []))

-- what is left is shorter
pub line-shorter : (e : Entry) (front rest : List ℕ) → front ≡ entry_line e ++ rest → length rest < length front
line-shorter e front rest is = subst (λ (l : List ℕ). length rest < length l) (sym is) (line-byte e rest)

-- a line was read: it is that of the first of the entries
pub record IsNext (e : Entry) (after : List ℕ) (es : List Entry) : Type 0 where
  pub others : List Entry
  pub first : es ≡ e ∷ others
  pub after_is : after ≡ entry_lines others

-- a line that is read is the next entry's
pub next_line : (v : JournalVersion) (es : List Entry) (rest after : List ℕ) (e : Entry) → AllFit v es → rest ≡ entry_lines es → IsEntryOf v e → rest ≡ entry_line e ++ after → IsNext e after es
next_line v [] rest after e fit is fits front =
    absurd (let shorter = line-shorter e rest after front in let none : length rest ≡ 0 = ap length is in omega arith)
next_line v (x ∷ xs) rest after e fit is fits front =
    let same = line-same v x e (entry_lines xs) after fit.0 fits (sym is ∙ front) in
    record { others = xs; first = ap (λ y. y ∷ xs) same.0; after_is = sym same.1 }

module _ (text : List ℕ) (journal : Journal) (v : JournalVersion) (limits : Limits) (rest : List ℕ) (es : List Entry) (p : IsReadTo text journal v limits rest es) where
  -- the next line
  pub read-next : (e : Entry) (after : List ℕ) → IsEntryOf v e → rest ≡ entry_line e ++ after → IsNext e after es
  read-next e after fits front = next_line v es rest after e p.fit p.rest_is fits front

  -- the reading behind it
  pub read-on : (e : Entry) (after : List ℕ) (n : IsNext e after es) → IsReadTo text journal v limits after n.others
  read-on e after n = record {
    text_of = p.text_of;
    limits_are = p.limits_are;
    rest_is = n.after_is;
    fit = (subst (AllFit v) n.first p.fit).1;
  }

  -- no line is left
  pub read-end : HasNoEntry v rest → es ≡ []
  read-end none = by es p.rest_is p.fit
    where
      by : (xs : List Entry) → rest ≡ entry_lines xs → AllFit v xs → xs ≡ []
      by [] is fit = refl
      by (x ∷ xs) is fit = absurd (none x (entry_lines xs) fit.0 is)
