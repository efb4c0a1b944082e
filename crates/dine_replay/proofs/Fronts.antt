-- A text that does not begin with a line, however it goes on.
use Rattle.std.proofs.Common.{◌≡◌, ◌≢◌, ℕ, ◌==◌, ◌<◌, ◌≤◌, List, [], ◌∷◌, ◌++◌, length, inl, inr, sym, ap, ◌∙◌, subst, arith, length-append}
use Rattle.std.proofs.lemmas.Bool.{cases_Bool}
use Rattle.dine_words.specs.declared.version.JournalVersion.{JournalVersion}
use Rattle.dine_words.specs.Texts.{entry_text, header_text}
use Rattle.dine_words.specs.JournalText.{HasNoEntry, HasNoHeader}
use Rattle.dine_streams.specs.Lines.{begun_line, ended_lines}
use Rattle.dine_streams.proofs.CallerLemmas.{begun-on, begun-pieces, ended-pieces, lines-whole, text_of_lines}
use Rattle.dine_streams.proofs.CallerLemmas.{IsShort, short-entry, short-header}

-- the text begins with the line
abbrev pub Begins : List ℕ → List ℕ → Type 0
Begins line text = (rest : List ℕ) × (text ≡ (line ++ 10 ∷ []) ++ rest)

-- then it is the first line
begins-first : (line text : List ℕ) → ended_lines [] line ≡ [] → (begins : Begins line text) → ended_lines [] text ≡ line ∷ ended_lines [] begins.0
begins-first line text one begins =
    let on : begun_line [] line ≡ line = begun-on [] line one in
    let first : ended_lines [] (line ++ 10 ∷ []) ≡ line ∷ [] = ended-pieces [] line (10 ∷ []) ∙ ap (λ lines. lines ++ ended_lines (begun_line [] line) (10 ∷ [])) one ∙ ap (λ l. l ∷ []) on in
    let after : begun_line [] (line ++ 10 ∷ []) ≡ [] = begun-pieces [] line (10 ∷ []) in
    ap (ended_lines []) begins.1
    ∙ ended-pieces [] (line ++ 10 ∷ []) begins.0
    ∙ ap (λ lines. lines ++ ended_lines (begun_line [] (line ++ 10 ∷ [])) begins.0) first
    ∙ ap (λ begun. line ∷ ended_lines begun begins.0) after

-- a line is at least as long as what had begun of it
ended-longer : (begun bytes line : List ℕ) (lines : List (List ℕ)) → ended_lines begun bytes ≡ line ∷ lines → length begun ≤ length line
ended-longer begun [] line lines is = absurd (let none : [] ≡ line ∷ lines = is in cc)
ended-longer begun (x ∷ xs) line lines is = elim (cases_Bool (x == 10)) [
  | inl e ↦ (let first : begun ∷ ended_lines [] xs ≡ line ∷ lines = rw e at is in let same : begun ≡ line = cc in subst (λ (l : List ℕ). length begun ≤ length l) same (omega arith))
  | inr e ↦ (let more : length (begun ++ x ∷ []) ≤ length line = ended-longer (begun ++ x ∷ []) xs line lines (rw e at is) in omega (arith, length-append begun (x ∷ [])))
]

module _ (line : List ℕ) (n : ℕ) (p : IsShort n line) where
  -- whole lines that don't begin with it don't however they go on
  no-front : (lines more : List ℕ) → begun_line [] lines ≡ [] → lines ≢ [] → (Begins line lines → ⊥) → Begins line (lines ++ more) → ⊥
  no-front lines more ended some none begins = by (ended_lines [] lines) (lines-whole lines ended) (ended-pieces [] lines more)
    where
      by : (all : List (List ℕ)) → text_of_lines all ≡ lines → ended_lines [] (lines ++ more) ≡ all ++ ended_lines (begun_line [] lines) more → ⊥
      by [] whole is = some (sym whole)
      by (first ∷ others) whole is =
          let both : first ∷ (others ++ ended_lines (begun_line [] lines) more) ≡ line ∷ ended_lines [] begins.0 = sym is ∙ begins-first line (lines ++ more) p.one begins in
          let same : first ≡ line = cc in
          none (text_of_lines others, sym whole ∙ ap (λ l. (l ++ 10 ∷ []) ++ text_of_lines others) same)

  -- a longer line doesn't
  no-long-front : (begun more : List ℕ) → ended_lines [] begun ≡ [] → n < length begun → Begins line (begun ++ more) → ⊥
  no-long-front begun more one long begins =
      let on : begun_line [] begun ≡ begun = begun-on [] begun one in
      let first : ended_lines begun more ≡ line ∷ ended_lines [] begins.0 =
      ap (λ b. ended_lines b more) (sym on) ∙ ap (λ lines. lines ++ ended_lines (begun_line [] begun) more) (sym one)
      ∙ sym (ended-pieces [] begun more) ∙ begins-first line (begun ++ more) p.one begins in
      let longer : length begun ≤ length line = ended-longer begun more line _ first in
      let short = p.short in
      absurd (omega arith)

  -- a line without its line feed doesn't
  no-torn-front : (begun : List ℕ) → ended_lines [] begun ≡ [] → Begins line begun → ⊥
  no-torn-front begun one begins = let none : [] ≡ line ∷ ended_lines [] begins.0 = sym one ∙ begins-first line begun p.one begins in absurd (cc)

-- ---- entries

module _ (v : JournalVersion) where
  -- a text whose first lines begin with no entry begins with none, however it goes on
  pub no_entry-on : (lines more : List ℕ) → begun_line [] lines ≡ [] → lines ≢ [] → HasNoEntry v lines → HasNoEntry v (lines ++ more)
  no_entry-on lines more ended some none e rest fits is =
      no-front (entry_text e) 165 (short-entry v e fits) lines more ended some (λ begins. none e begins.0 fits begins.1) (rest, is)

  -- a text whose first line is too long begins with no entry
  pub no_entry-long : (begun more : List ℕ) → ended_lines [] begun ≡ [] → 4096 < length begun → HasNoEntry v (begun ++ more)
  no_entry-long begun more one long e rest fits is = no-long-front (entry_text e) 165 (short-entry v e fits) begun more one (omega arith) (rest, is)

  -- a text without a line feed begins with no entry
  pub no_entry-torn : (begun : List ℕ) → ended_lines [] begun ≡ [] → HasNoEntry v begun
  no_entry-torn begun one e rest fits is = no-torn-front (entry_text e) 165 (short-entry v e fits) begun one (rest, is)

-- ---- the header

-- a text whose first lines begin with no header has none, however it goes on
pub no_header-on : (lines more : List ℕ) → begun_line [] lines ≡ [] → lines ≢ [] → HasNoHeader lines → HasNoHeader (lines ++ more)
no_header-on lines more ended some none v limits rest allowed is =
    no-front (header_text v limits) 48 (short-header v limits allowed) lines more ended some (λ begins. none v limits begins.0 allowed begins.1) (rest, is)

-- a text whose first line is too long has no header
pub no_header-long : (begun more : List ℕ) → ended_lines [] begun ≡ [] → 4096 < length begun → HasNoHeader (begun ++ more)
no_header-long begun more one long v limits rest allowed is = no-long-front (header_text v limits) 48 (short-header v limits allowed) begun more one (omega arith) (rest, is)

-- a text without a line feed has no header
pub no_header-torn : (begun : List ℕ) → ended_lines [] begun ≡ [] → HasNoHeader begun
no_header-torn begun one v limits rest allowed is = no-torn-front (header_text v limits) 48 (short-header v limits allowed) begun one (rest, is)
