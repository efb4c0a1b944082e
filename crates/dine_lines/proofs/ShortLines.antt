-- Lines of short words.
use Rattle.std.proofs.Common.{◌≡◌, ℕ, suc, get_or, true≢false, ◌+◌, ◌-◌, ◌*◌, ◌<◌, ◌≤◌, Bool, true, false, not, List, [], ◌∷◌, ◌++◌, length, length-append, append_assoc, append-nil, if◌then◌else◌, take, drop, take-append-drop, refl, sym, ap, ◌∙◌, arith}
use Rattle.std.proofs.lemmas.Bool.Decides.{nat_tests}
use Rattle.std.proofs.lemmas.List.{drop-drop, length-take-le}
use Rattle.std.specs.List.{filter, list_all}
use Rattle.dine_lines.specs.Lines.{is_blank, is_filled, is_line_feed, lines_of, onto_first, pieces_of, words_of}
use Rattle.dine_lines.specs.ShortWords.{BeginsBlank, BeginsFilledLine, BeginsSpaced, BeginsWord, is_above_space}
use Rattle.dine_lines.proofs.LineForms.{is_within, pieces_of-append, pieces_of-whole, within-append, words_of-word}
use Rattle.dine_lines.proofs.Padded.{and_first, and_true, both_true}

-- the text begins with a line of these words and a line feed, and then comes the rest
pub record BeginsWords (text : List ℕ) (words : List (List ℕ)) (rest : List ℕ) : Type 0 where
  pub line : List ℕ
  pub is : text ≡ line ++ 10 ∷ rest
  pub in_line : is_within is_line_feed line ≡ true
  pub cut : words_of line ≡ words
  pub short : length line < 32 * length words

-- what holds of each byte above the space holds of all of a word
above_within : (ends : ℕ → Bool) → ((byte : ℕ) → is_above_space byte ≡ true → not (ends byte) ≡ true) → (word : List ℕ) → list_all is_above_space word ≡ true → is_within ends word ≡ true
above_within ends each [] all = refl
above_within ends each (byte ∷ word) all =
    both_true _ _ (each byte (and_first _ _ all)) (above_within ends each word (and_true _ _ all))

-- no line feed is above the space
in_line : (word : List ℕ) → list_all is_above_space word ≡ true → is_within is_line_feed word ≡ true
in_line = above_within is_line_feed (λ byte above. grind (arith, nat_tests))

-- and no blank
in_word : (word : List ℕ) → list_all is_above_space word ≡ true → is_within is_blank word ≡ true
in_word = above_within is_blank (λ byte above. grind (arith, nat_tests))

-- a word with a byte is filled
filled : (word : List ℕ) → 0 < length word → is_filled word ≡ true
filled [] some = absurd (omega arith)
filled (byte ∷ word) some = refl

-- a lone word is the word of its line
lone : (word : List ℕ) → 0 < length word → is_within is_blank word ≡ true → words_of word ≡ word ∷ []
lone [] some within = absurd (omega arith)
lone (byte ∷ word) some within = rw (pieces_of-whole is_blank byte word within) refl

-- a line of one word
pub begins-last : (text rest : List ℕ) (len : ℕ) → BeginsWord text len true rest → BeginsWords text (take len text ∷ []) rest
begins-last text rest len word =
    let long : length (take len text) ≡ len = length-take-le len text word.within in
    let some = word.some in
    let short = word.short in
    record {
      line = take len text;
      is = word.is;
      in_line = in_line (take len text) word.above;
      cut = lone (take len text) (omega (arith, long, some)) (in_word (take len text) word.above);
      short = omega (arith, long, short);
    }

-- and one of a word more
pub begins-onto : (text more rest : List ℕ) (words : List (List ℕ)) (len : ℕ) → BeginsWord text len false more → BeginsWords more words rest → BeginsWords text (take len text ∷ words) rest
begins-onto text more rest words len word line =
    let front : List ℕ = take len text in
    let long : length front ≡ len = length-take-le len text word.within in
    let all = length-append front (32 ∷ line.line) in
    let some = word.some in
    let short = word.short in
    let next = line.short in
    record {
      line = front ++ 32 ∷ line.line;
      is = word.is ∙ ap (λ l. front ++ 32 ∷ l) line.is ∙ sym (append_assoc front (32 ∷ line.line) (10 ∷ rest));
      in_line = within-append is_line_feed front (32 ∷ line.line) (in_line front word.above) line.in_line;
      cut = words_of-word front line.line (filled front (omega (arith, long, some))) (in_word front word.above) ∙ ap (λ ws. front ∷ ws) line.cut;
      short = omega (arith, long, all, short, next);
    }

-- it is the first line of the text
pub lines_of-begins : (text rest : List ℕ) (words : List (List ℕ)) (line : BeginsWords text words rest) → lines_of text ≡ line.line ∷ lines_of rest
lines_of-begins text rest words line = ap lines_of line.is ∙ pieces_of-append is_line_feed line.line rest 10 line.in_line refl

-- a text in three parts
pub in-three : (text : List ℕ) (len gap : ℕ) → text ≡ take len text ++ take gap (drop len text) ++ drop (len + gap) text
in-three text len gap =
    sym (take-append-drop len text)
    ∙ ap (λ l. take len text ++ l) (sym (take-append-drop gap (drop len text)) ∙ ap (λ l. take gap (drop len text) ++ l) (drop-drop gap len text ∙ ap (λ n. drop n text) (omega arith)))
    ∙ sym (append_assoc (take len text) (take gap (drop len text)) (drop (len + gap) text))

-- ---- lines of short words with some blanks between

-- the text begins with a line of these words, of at most so many bytes, and a line feed, and then comes the rest
pub record BeginsLine (text : List ℕ) (words : List (List ℕ)) (most : ℕ) (rest : List ℕ) : Type 0 where
  pub line : List ℕ
  pub is : text ≡ line ++ 10 ∷ rest
  pub in_line : is_within is_line_feed line ≡ true
  pub cut : words_of line ≡ words
  pub short : length line ≤ most

-- a blank is no line feed
blanks_in_line : (gap : List ℕ) → list_all is_blank gap ≡ true → is_within is_line_feed gap ≡ true
blanks_in_line [] all = refl
blanks_in_line (byte ∷ gap) all =
    both_true _ _ (blank_in_line byte (and_first _ _ all)) (blanks_in_line gap (and_true _ _ all))
  where
    blank_in_line : (byte : ℕ) → is_blank byte ≡ true → not (is_line_feed byte) ≡ true
    blank_in_line byte blank = grind (arith, nat_tests)

-- blanks in front of words are none
words_of-gap : (gap line : List ℕ) → list_all is_blank gap ≡ true → words_of (gap ++ line) ≡ words_of line
words_of-gap [] line all = refl
words_of-gap (byte ∷ gap) line all = rw (and_first (is_blank byte) _ all) (words_of-gap gap line (and_true (is_blank byte) _ all))

-- a word before blanks is one
words_of-spaced : (word gap line : List ℕ) → is_filled word ≡ true → is_within is_blank word ≡ true → 0 < length gap → list_all is_blank gap ≡ true → words_of (word ++ gap ++ line) ≡ word ∷ words_of line
words_of-spaced word [] line filled within some all = absurd (omega arith)
words_of-spaced word (byte ∷ gap) line filled within some all =
    ap words_of (append_assoc word (byte ∷ gap) line)
    ∙ ap (filter is_filled) (pieces_of-append is_blank word (gap ++ line) byte within (and_first (is_blank byte) _ all))
    ∙ first word filled (filter is_filled (pieces_of is_blank (gap ++ line)))
    ∙ ap (λ ws. word ∷ ws) (words_of-gap gap line (and_true (is_blank byte) _ all))
  where
    first : (word : List ℕ) → is_filled word ≡ true → (ws : List (List ℕ)) → (if is_filled word then word ∷ ws else ws) ≡ word ∷ ws
    first word filled ws = rw filled refl

-- so is a lone one
words_of-alone : (word gap : List ℕ) → 0 < length word → is_within is_blank word ≡ true → list_all is_blank gap ≡ true → words_of (word ++ gap) ≡ word ∷ []
words_of-alone word [] some within all = ap words_of (append-nil word) ∙ lone word some within
words_of-alone word (byte ∷ gap) some within all =
    ap (λ l. words_of (word ++ l)) (sym (append-nil (byte ∷ gap)))
    ∙ ap words_of (sym (append_assoc word (byte ∷ gap) []))
    ∙ words_of-spaced word (byte ∷ gap) [] (filled word some) within (omega arith) all

-- a line of one word
pub line-last : (text rest : List ℕ) (len : ℕ) → BeginsSpaced text len true rest → BeginsLine text (take len text ∷ []) 64 rest
line-last text rest len word =
    let front : List ℕ = take len text in
    let long : length front ≡ len = length-take-le len text word.within in
    let all = length-append front word.gap in
    let some = word.some in
    let short = word.short in
    let few = word.few in
    record {
      line = front ++ word.gap;
      is = word.is;
      in_line = within-append is_line_feed front word.gap (in_line front word.above) (blanks_in_line word.gap word.blanks);
      cut = words_of-alone front word.gap (omega (arith, long, some)) (in_word front word.above) word.blanks;
      short = omega (arith, long, all, short, few);
    }

-- and one of a word more
pub line-onto : (text more rest : List ℕ) (words : List (List ℕ)) (len most : ℕ) → BeginsSpaced text len false more → BeginsLine more words most rest → BeginsLine text (take len text ∷ words) (64 + most) rest
line-onto text more rest words len most word line =
    let front : List ℕ = take len text in
    let long : length front ≡ len = length-take-le len text word.within in
    let all = length-append (front ++ word.gap) line.line in
    let before = length-append front word.gap in
    let some = word.some in
    let short = word.short in
    let few = word.few in
    let next = line.short in
    record {
      line = front ++ word.gap ++ line.line;
      is = word.is ∙ ap (λ l. front ++ word.gap ++ l) line.is ∙ sym (append_assoc (front ++ word.gap) line.line (10 ∷ rest));
      in_line = within-append is_line_feed (front ++ word.gap) line.line (within-append is_line_feed front word.gap (in_line front word.above) (blanks_in_line word.gap word.blanks)) line.in_line;
      cut = words_of-spaced front word.gap line.line (filled front (omega (arith, long, some))) (in_word front word.above) (word.apart refl) word.blanks ∙ ap (λ ws. front ∷ ws) line.cut;
      short = omega (arith, long, all, before, short, few, next);
    }

-- and one with blanks in front
pub line-behind : (text more rest : List ℕ) (words : List (List ℕ)) (most : ℕ) → BeginsBlank text more → BeginsLine more words most rest → BeginsLine text words (64 + most) rest
line-behind text more rest words most blanks line =
    let all = length-append blanks.gap line.line in
    let few = blanks.few in
    let next = line.short in
    record {
      line = blanks.gap ++ line.line;
      is = blanks.is ∙ ap (λ l. blanks.gap ++ l) line.is ∙ sym (append_assoc blanks.gap line.line (10 ∷ rest));
      in_line = within-append is_line_feed blanks.gap line.line (blanks_in_line blanks.gap blanks.blanks) line.in_line;
      cut = words_of-gap blanks.gap line.line blanks.blanks ∙ line.cut;
      short = omega (arith, all, few, next);
    }

-- it is the first line of the text
pub lines_of-line : (text rest : List ℕ) (words : List (List ℕ)) (most : ℕ) (line : BeginsLine text words most rest) → lines_of text ≡ line.line ∷ lines_of rest
lines_of-line text rest words most line = ap lines_of line.is ∙ pieces_of-append is_line_feed line.line rest 10 line.in_line refl

-- ---- a line of more words

-- a byte in front of pieces is in a filled one
filled-onto : (byte : ℕ) (pieces : List (List ℕ)) → (word : List ℕ) × (words : List (List ℕ)) × (filter is_filled (onto_first byte pieces) ≡ word ∷ words)
filled-onto byte [] = (byte ∷ [], [], refl)
filled-onto byte (piece ∷ pieces) = (byte ∷ piece, filter is_filled pieces, refl)

-- a line that begins with no blank has a word
some_word : (byte : ℕ) (line : List ℕ) → is_blank byte ≡ false → (word : List ℕ) × (words : List (List ℕ)) × (words_of (byte ∷ line) ≡ word ∷ words)
some_word byte line other =
    let found = filled-onto byte (pieces_of is_blank line) in
    (found.0, found.1, rw other found.2)

-- a text that begins with a byte above the space has a word in its first line
pub more-of : (text line rest : List ℕ) → 0 < length text → is_above_space (get_or text 0 0) ≡ true → lines_of text ≡ line ∷ lines_of rest → (word : List ℕ) × (words : List (List ℕ)) × (words_of line ≡ word ∷ words)
more-of [] line rest some above first = absurd (omega arith)
more-of (byte ∷ text) line rest some above first = by (lines_of text) (rw no_feed at first)
  where
    no_feed : is_line_feed byte ≡ false
    no_feed = grind (arith, nat_tests)

    no_blank : is_blank byte ≡ false
    no_blank = grind (arith, nat_tests)

    by : (pieces : List (List ℕ)) → onto_first byte pieces ≡ line ∷ lines_of rest → (word : List ℕ) × (words : List (List ℕ)) × (words_of line ≡ word ∷ words)
    by [] is = let same : line ≡ byte ∷ [] = cc in rw same (some_word byte [] no_blank)
    by (piece ∷ pieces) is = let same : line ≡ byte ∷ piece = cc in rw same (some_word byte piece no_blank)

-- a word in front of the first line
lines_of-onto : (word : List ℕ) (text line : List ℕ) (lines : List (List ℕ)) → is_within is_line_feed word ≡ true → lines_of text ≡ line ∷ lines → lines_of (word ++ text) ≡ (word ++ line) ∷ lines
lines_of-onto [] text line lines within first = first
lines_of-onto (byte ∷ word) text line lines within first =
    rw (not_feed (is_line_feed byte) (and_first _ _ within)) (ap (onto_first byte) (lines_of-onto word text line lines (and_true _ _ within) first))
  where
    not_feed : (b : Bool) → not b ≡ true → b ≡ false
    not_feed true passed = absurd (true≢false (sym passed))
    not_feed false passed = refl

-- what is left of a text behind a front
left-onto : (front text rest : List ℕ) → length rest ≤ length text → rest ≡ drop (length text - length rest) text → rest ≡ drop (length (front ++ text) - length rest) (front ++ text)
left-onto [] text rest short left = left
left-onto (byte ∷ front) text rest short left =
    let more : suc (length (front ++ text)) - length rest ≡ suc (length (front ++ text) - length rest) = omega (arith, short, length-append front text) in
    left-onto front text rest short left ∙ sym (ap (λ n. drop n (byte ∷ front ++ text)) more)

-- the first line of a text that begins with a word and one space before such a line
pub more-onto : (text more rest : List ℕ) (len : ℕ) (word : BeginsWord text len false more) (line : BeginsFilledLine more rest) → (one : List ℕ) × (lines_of text ≡ one ∷ lines_of rest) × (words_of one ≡ take len text ∷ line.word ∷ line.words) × (length rest < length text) × (rest ≡ drop (length text - length rest) text)
more-onto text more rest len word line =
    let front : List ℕ = take len text in
    let long : length front ≡ len = length-take-le len text word.within in
    let some = word.some in
    let shorter = line.shorter in
    let is : text ≡ (front ++ 32 ∷ []) ++ more = word.is ∙ sym (append_assoc front (32 ∷ []) more) in
    let size = ap length is ∙ length-append (front ++ 32 ∷ []) more in (
      (front ++ 32 ∷ []) ++ line.line,
      ap lines_of is ∙ lines_of-onto (front ++ 32 ∷ []) more line.line (lines_of rest) (within-append is_line_feed front (32 ∷ []) (in_line front word.above) refl) line.first,
      ap words_of (append_assoc front (32 ∷ []) line.line) ∙ words_of-word front line.line (filled front (omega (arith, long, some))) (in_word front word.above) ∙ ap (λ ws. front ∷ ws) line.cut,
      omega (arith, size, shorter),
      left-onto (front ++ 32 ∷ []) more rest (omega (arith, shorter)) line.left ∙ ap (λ l. drop (length l - length rest) l) (sym is),
    )
