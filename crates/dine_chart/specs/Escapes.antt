-- A text that somebody gives, as it stands in markup, in a quoted text of JSON, and in one of DOT; and what it means
-- there that it can't end what it stands in.
use Rattle.std.specs.Prelude.{ℕ, ◌==◌, Bool, true, false, not, ◌&&◌, ◌||◌, if◌then◌else◌, nat_le, List, [], ◌∷◌, codes}
use Rattle.std.specs.List.{flat_map}
use Rattle.dine_chart.specs.declared.escape.Setting.{Setting}
use Rattle.dine_chart.specs.declared.escape.Setting.TheVariants.{Markup, Json, Dot}

-- a control character of ASCII
abbrev pub is_control : ℕ → Bool
is_control byte = nat_le byte 31 || (byte == 127)

-- ---- markup: SVG and HTML

-- what stands for a byte: its entity where it could begin or end something, and a question mark for a control character
abbrev pub in_markup : ℕ → List ℕ
in_markup byte =
    if byte == 38 then codes "&amp;"
    else if byte == 60 then codes "&lt;"
    else if byte == 62 then codes "&gt;"
    else if byte == 34 then codes "&quot;"
    else if byte == 39 then codes "&#39;"
    else if is_control byte then codes "?"
    else byte ∷ []

-- the text begins so
abbrev pub begins : List ℕ → List ℕ → Bool
begins [] text = true
begins (c ∷ cs) [] = false
begins (c ∷ cs) (b ∷ bs) = (c == b) && begins cs bs

-- what follows an ampersand is the rest of an entity
abbrev pub is_entity : List ℕ → Bool
is_entity text =
    begins (codes "amp;") text || begins (codes "lt;") text || begins (codes "gt;") text
    || begins (codes "quot;") text || begins (codes "#39;") text

-- the byte begins or ends an element or a value of an attribute
abbrev pub is_delimiter : ℕ → Bool
is_delimiter byte = (byte == 60) || (byte == 62) || (byte == 34) || (byte == 39)

-- no byte of the text begins or ends an element or a value, and each ampersand is an entity's
abbrev pub is_inert : List ℕ → Bool
is_inert [] = true
is_inert (b ∷ bs) = not (is_delimiter b) && (if b == 38 then is_entity bs else true) && is_inert bs

-- ---- quoted texts: JSON and DOT

-- what stands for a byte: a backslash before a quote or a backslash, and a question mark for a control character
abbrev pub in_quotes : ℕ → List ℕ
in_quotes byte =
    if byte == 34 then codes "\\\""
    else if byte == 92 then codes "\\\\"
    else if is_control byte then codes "?"
    else byte ∷ []

-- between quotes of DOT entities are read too, so an ampersand stands as one
abbrev pub in_dot : ℕ → List ℕ
in_dot byte = if byte == 38 then codes "&amp;" else in_quotes byte

-- no byte of the text ends the quoted text: no quote stands bare, no backslash is left over, and no control character stands
-- there. After a backslash a quote or another backslash is due
abbrev pub is_quotable : Bool → List ℕ → Bool
is_quotable due [] = not due
is_quotable true (b ∷ bs) = ((b == 34) || (b == 92)) && is_quotable false bs
is_quotable false (b ∷ bs) = not (b == 34) && not (is_control b) && is_quotable (b == 92) bs

-- ---- any of them

-- what stands for a byte
abbrev pub byte_in : Setting → ℕ → List ℕ
byte_in Markup byte = in_markup byte
byte_in Json byte = in_quotes byte
byte_in Dot byte = in_dot byte

-- a text, as it stands there
abbrev pub text_in : Setting → List ℕ → List ℕ
text_in setting text = flat_map (byte_in setting) text
