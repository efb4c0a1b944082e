-- A text has one answer at most: two histories whose lines begin it, and which both stop there, are one.
use Rattle.std.proofs.Common.{◌≡◌, ℕ, ◌+◌, List, [], ◌∷◌, ◌++◌, length, Result, Ok, Err, refl, sym, ap, ◌∙◌, subst, append_assoc, append-nil, length-append, arith}
use Rattle.dine_words.specs.declared.entry.Entry.{Entry}
use Rattle.dine_words.specs.declared.call.Reply.{Reply}
use Rattle.dine_words.specs.declared.limits.Limits.{Limits}
use Rattle.dine_words.specs.declared.version.JournalVersion.{JournalVersion}
use Rattle.dine_words.specs.Versions.{AllowsLimits}
use Rattle.dine_table.specs.Table.{Table}
use Rattle.dine_table.specs.Calls.{reply_of, table_after_call}
use Rattle.dine_table.specs.History.{table_from, table_after, IsLegal, IsLegalFrom}
use Rattle.dine_words.specs.Texts.{IsEntryOf, entry_text}
use Rattle.dine_replay.specs.declared.audit_answer.AuditFault.{AuditFault}
use Rattle.dine_replay.specs.declared.audit_answer.AuditFault.TheVariants.{Header, Line, Wrong, Read, Memory}
use Rattle.dine_journal.specs.Kept.{Journal}
use Rattle.dine_journal.specs.JournalText.{entry_line, entry_lines, header_line_of, text_of_version}
use Rattle.dine_words.specs.JournalText.{AllFit, HasNoHeader}
use Rattle.dine_journal.specs.JournalText.{IsTextOf}
use Rattle.dine_replay.specs.Audit.{IsAnswer, IsBrokenAt, IsWrongAt, TellsOfText}
use Rattle.dine_words.proofs.CallerLemmas.{header-same, line-same}

-- ---- where a history stops

-- no line of the version follows that would make the history longer
abbrev IsStuck : JournalVersion → Table → List ℕ → Type 0
IsStuck v t rest = (e : Entry) (more : List ℕ) → IsEntryOf v e → rest ≡ entry_line e ++ more → e.reply ≡ reply_of t e.call → ⊥

-- two histories whose lines begin one text and that are stuck are one
history-same : (v : JournalVersion) (t : Table) (xs ys : List Entry) (a b : List ℕ) → AllFit v xs → AllFit v ys → IsLegalFrom t xs → IsLegalFrom t ys → IsStuck v (table_from t xs) a → IsStuck v (table_from t ys) b → entry_lines xs ++ a ≡ entry_lines ys ++ b → (xs ≡ ys) × (a ≡ b)
history-same v t [] [] a b fx fy lx ly sx sy h = (refl, h)
history-same v t [] (y ∷ ys) a b fx fy lx ly sx sy h = absurd (sx y (entry_lines ys ++ b) fy.0 (h ∙ append_assoc (entry_line y) (entry_lines ys) b) ly.0)
history-same v t (x ∷ xs) [] a b fx fy lx ly sx sy h = absurd (sy x (entry_lines xs ++ a) fx.0 (sym h ∙ append_assoc (entry_line x) (entry_lines xs) a) lx.0)
history-same v t (x ∷ xs) (y ∷ ys) a b fx fy lx ly sx sy h =
    let front = line-same v x y (entry_lines xs ++ a) (entry_lines ys ++ b) fx.0 fy.0 (sym (append_assoc (entry_line x) (entry_lines xs) a) ∙ h ∙ append_assoc (entry_line y) (entry_lines ys) b) in
    let legal : IsLegalFrom (table_after_call t x.call) ys = subst (λ (e : Entry). IsLegalFrom (table_after_call t e.call) ys) (sym front.0) ly.1 in
    let stuck : IsStuck v (table_from (table_after_call t x.call) ys) b = subst (λ (e : Entry). IsStuck v (table_from (table_after_call t e.call) ys) b) (sym front.0) sy in
    let rest = history-same v (table_after_call t x.call) xs ys a b fx.1 fy.1 lx.1 legal sx stuck front.1 in
    (subst (λ (e : Entry). x ∷ xs ≡ e ∷ ys) front.0 (ap (λ (es : List Entry). x ∷ es) rest.0), rest.1)

-- a history whose lines begin the text, in a version, and that stops before the rest
record Stops (text : List ℕ) (v : JournalVersion) (limits : Limits) (entries : List Entry) (rest : List ℕ) : Type 0 where
  pub begins : text ≡ text_of_version v limits entries ++ rest
  pub allowed : AllowsLimits v limits
  pub fit : AllFit v entries
  pub legal : IsLegal limits entries
  pub stuck : IsStuck v (table_after limits entries) rest

-- what two such histories have in common: all
record SameStop (v w : JournalVersion) (a b : Limits) (xs ys : List Entry) (one other : List ℕ) : Type 0 where
  pub version : v ≡ w
  pub limits : a ≡ b
  pub entries : xs ≡ ys
  pub rest : one ≡ other

-- two histories that stop in one text have all in common
stop-same : (text : List ℕ) (v w : JournalVersion) (a b : Limits) (xs ys : List Entry) (one other : List ℕ) → Stops text v a xs one → Stops text w b ys other → SameStop v w a b xs ys one other
stop-same text v w a b xs ys one other p q =
    let front = header-same v w a b (entry_lines xs ++ one) (entry_lines ys ++ other) p.allowed q.allowed (sym (append_assoc (header_line_of v a) (entry_lines xs) one) ∙ sym p.begins ∙ q.begins ∙ append_assoc (header_line_of w b) (entry_lines ys) other) in
    let moved : Stops text v a ys other = subst (λ (l : Limits). Stops text v l ys other) (sym front.1) (subst (λ (x : JournalVersion). Stops text x b ys other) (sym front.0) q) in
    let rest = history-same v _ xs ys one other p.fit moved.fit p.legal moved.legal p.stuck moved.stuck front.2 in
    record { version = front.0; limits = front.1; entries = rest.0; rest = rest.1 }

-- a line isn't empty
line-some : (e : Entry) (more : List ℕ) → [] ≡ entry_line e ++ more → ⊥
line-some e more h =
    let lengths : length (entry_line e ++ more) ≡ 0 = ap length (sym h) in
    absurd (omega (arith, length-append (entry_line e) more, length-append (entry_text e) (10 ∷ [])))

-- ---- each answer but a missing header is such a stop

-- a legal journal's history stops at the end of its text
stops-legal : (text : List ℕ) (journal : Journal) (h : IsTextOf text journal) → Stops text h.version journal.limits journal.entries []
stops-legal text journal h =
    record {
      begins = h.whole ∙ sym (append-nil (text_of_version h.version journal.limits journal.entries));
      allowed = h.allowed;
      fit = h.fit;
      legal = h.legal;
      stuck = λ e more fits line said. line-some e more line;
    }

-- the history before a line that is no entry's stops there
stops-broken : (text : List ℕ) (n : ℕ) (h : IsBrokenAt text n) → Stops text h.version h.before.limits h.before.entries h.rest
stops-broken text n h = record { begins = h.begins; allowed = h.allowed; fit = h.fit; legal = h.legal; stuck = λ e more fits line said. h.no_entry e more fits line }

-- the history before a line with another reply stops there
stops-wrong : (text : List ℕ) (n : ℕ) (wanted : Reply) (h : IsWrongAt text n wanted) → Stops text h.version h.before.limits h.before.entries (entry_line h.entry ++ h.rest)
stops-wrong text n wanted h =
    record {
      begins = h.begins;
      allowed = h.allowed;
      fit = h.fit;
      legal = h.legal;
      stuck = λ e more fits line said.
          let same = line-same h.version h.entry e h.rest more h.entry_fits fits line in
          h.other (ap (λ (x : Entry). x.reply) same.0 ∙ said ∙ ap (λ (x : Entry). reply_of (table_after h.before.limits h.before.entries) x.call) (sym same.0) ∙ sym h.says);
    }

-- a text without a header begins with no history
header-clash : (text : List ℕ) (v : JournalVersion) (limits : Limits) (entries : List Entry) (rest : List ℕ) → HasNoHeader text → Stops text v limits entries rest → ⊥
header-clash text v limits entries rest none p = none v limits (entry_lines entries ++ rest) p.allowed (p.begins ∙ append_assoc (header_line_of v limits) (entry_lines entries) rest)

-- ---- two answers

-- journals of equal limits and entries are one
chronicle-same : (j k : Journal) → j.limits ≡ k.limits → j.entries ≡ k.entries → j ≡ k
chronicle-same j k limits entries =
    ap (λ (x : Limits). let c : Journal = record { limits = x; entries = j.entries } in c) limits
    ∙ ap (λ (x : List Entry). let c : Journal = record { limits = k.limits; entries = x } in c) entries

-- a text is that of one journal at most
legal_legal : (text : List ℕ) (j k : Journal) → IsTextOf text j → IsTextOf text k → j ≡ k
legal_legal text j k p q =
    let same = stop-same text _ _ _ _ _ _ _ _ (stops-legal text j p) (stops-legal text k q) in chronicle-same j k same.limits same.entries

-- the text of a legal journal has no line that is no entry's
legal_broken : (text : List ℕ) (j : Journal) (n : ℕ) → IsTextOf text j → IsBrokenAt text n → ⊥
legal_broken text j n p q =
    let same = stop-same text _ _ _ _ _ _ _ _ (stops-legal text j p) (stops-broken text n q) in q.goes_on (sym same.rest)

-- the text of a legal journal has no line with another reply
legal_wrong : (text : List ℕ) (j : Journal) (n : ℕ) (wanted : Reply) → IsTextOf text j → IsWrongAt text n wanted → ⊥
legal_wrong text j n wanted p q =
    let same = stop-same text _ _ _ _ _ _ _ _ (stops-legal text j p) (stops-wrong text n wanted q) in line-some q.entry q.rest same.rest

-- the first line that is no entry's is one
broken_broken : (text : List ℕ) (m n : ℕ) → IsBrokenAt text m → IsBrokenAt text n → m ≡ n
broken_broken text m n p q =
    let same = stop-same text _ _ _ _ _ _ _ _ (stops-broken text m p) (stops-broken text n q) in
    p.line ∙ ap (λ (es : List Entry). length es + 1) same.entries ∙ sym q.line

-- the entry of the one is none of the other's version, which is the same
broken_wrong : (text : List ℕ) (m n : ℕ) (wanted : Reply) → IsBrokenAt text m → IsWrongAt text n wanted → ⊥
broken_wrong text m n wanted p q =
    let same = stop-same text _ _ _ _ _ _ _ _ (stops-broken text m p) (stops-wrong text n wanted q) in
    let fits : IsEntryOf p.version q.entry = subst (λ (v : JournalVersion). IsEntryOf v q.entry) (sym same.version) q.entry_fits in
    p.no_entry q.entry q.rest fits same.rest

-- the first line with another reply is one, and so is the table's reply
wrong_wrong : (text : List ℕ) (m n : ℕ) (r s : Reply) → IsWrongAt text m r → IsWrongAt text n s → (m ≡ n) × (r ≡ s)
wrong_wrong text m n r s p q =
    let same = stop-same text _ _ _ _ _ _ _ _ (stops-wrong text m r p) (stops-wrong text n s q) in
    let fits : IsEntryOf p.version q.entry = subst (λ (v : JournalVersion). IsEntryOf v q.entry) (sym same.version) q.entry_fits in
    let entry = line-same p.version p.entry q.entry p.rest q.rest p.entry_fits fits same.rest in (
      p.line ∙ ap (λ (es : List Entry). length es + 1) same.entries ∙ sym q.line,
      p.says
          ∙ ap (λ (l : Limits). reply_of (table_after l p.before.entries) p.entry.call) same.limits
          ∙ ap (λ (es : List Entry). reply_of (table_after q.before.limits es) p.entry.call) same.entries
          ∙ ap (λ (e : Entry). reply_of (table_after q.before.limits q.before.entries) e.call) entry.0
          ∙ sym q.says,
    )

-- what an audit answers
abbrev Answered : Type 0
Answered = Result Journal AuditFault

-- an answer that tells of the text is the text's only one
pub one_answer : (text : List ℕ) (a b : Result Journal AuditFault) → TellsOfText a → TellsOfText b → IsAnswer text a → IsAnswer text b → a ≡ b
one_answer text (Ok j) (Ok k) ta tb p q = ap (λ (x : Journal). let r : Answered = Ok x in r) (legal_legal text j k p q)
one_answer text (Ok j) (Err Header) ta tb p q = absurd (header-clash text _ _ _ _ q (stops-legal text j p))
one_answer text (Ok j) (Err (Line n)) ta tb p q = absurd (legal_broken text j n p q)
one_answer text (Ok j) (Err (Wrong n r)) ta tb p q = absurd (legal_wrong text j n r p q)
one_answer text (Err Header) (Ok k) ta tb p q = absurd (header-clash text _ _ _ _ p (stops-legal text k q))
one_answer text (Err Header) (Err Header) ta tb p q = refl
one_answer text (Err Header) (Err (Line n)) ta tb p q = absurd (header-clash text _ _ _ _ p (stops-broken text n q))
one_answer text (Err Header) (Err (Wrong n r)) ta tb p q = absurd (header-clash text _ _ _ _ p (stops-wrong text n r q))
one_answer text (Err (Line m)) (Ok k) ta tb p q = absurd (legal_broken text k m q p)
one_answer text (Err (Line m)) (Err Header) ta tb p q = absurd (header-clash text _ _ _ _ q (stops-broken text m p))
one_answer text (Err (Line m)) (Err (Line n)) ta tb p q = ap (λ (x : ℕ). let r : Answered = Err (Line x) in r) (broken_broken text m n p q)
one_answer text (Err (Line m)) (Err (Wrong n r)) ta tb p q = absurd (broken_wrong text m n r p q)
one_answer text (Err (Wrong m r)) (Ok k) ta tb p q = absurd (legal_wrong text k m r q p)
one_answer text (Err (Wrong m r)) (Err Header) ta tb p q = absurd (header-clash text _ _ _ _ q (stops-wrong text m r p))
one_answer text (Err (Wrong m r)) (Err (Line n)) ta tb p q = absurd (broken_wrong text n m r q p)
one_answer text (Err (Wrong m r)) (Err (Wrong n s)) ta tb p q =
    let same = wrong_wrong text m n r s p q in
    ap (λ (x : ℕ). let a : Answered = Err (Wrong x r) in a) same.0 ∙ ap (λ (x : Reply). let a : Answered = Err (Wrong n x) in a) same.1
one_answer text (Err Read) b ta tb p q = absurd ta
one_answer text (Err Memory) b ta tb p q = absurd ta
one_answer text (Ok j) (Err Read) ta tb p q = absurd tb
one_answer text (Ok j) (Err Memory) ta tb p q = absurd tb
one_answer text (Err Header) (Err Read) ta tb p q = absurd tb
one_answer text (Err Header) (Err Memory) ta tb p q = absurd tb
one_answer text (Err (Line m)) (Err Read) ta tb p q = absurd tb
one_answer text (Err (Line m)) (Err Memory) ta tb p q = absurd tb
one_answer text (Err (Wrong m r)) (Err Read) ta tb p q = absurd tb
one_answer text (Err (Wrong m r)) (Err Memory) ta tb p q = absurd tb
