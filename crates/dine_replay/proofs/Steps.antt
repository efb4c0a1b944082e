-- What was replayed of a text while it is heard.
use Rattle.std.proofs.Common.{◌≡◌, ◌≢◌, ℕ, ◌+◌, ◌-◌, ◌^◌, ◌<◌, ◌≤◌, ◌||◌, Bool, List, [], ◌∷◌, ◌++◌, length, Option, Some, None, IfSome, IfOk, IfErr, Result, Ok, Err, refl, sym, ap, ◌∙◌, subst, append_assoc, append-nil, arith, length-append, length-take}
use Rattle.std.specs.Prelude.{IsErrOf}
use Rattle.std.specs.Io.KnownBytes.{Consumes}
use Rattle.std.proofs.lemmas.List.{take_all}
use Rattle.dine_words.specs.declared.entry.Entry.{Entry}
use Rattle.dine_words.specs.declared.header.Header.{Header}
use Rattle.dine_words.specs.declared.version.JournalVersion.{JournalVersion}
use Rattle.dine_table.specs.Table.{Table, opening_table}
use Rattle.dine_table.specs.Calls.{reply_of}
use Rattle.dine_table.specs.History.{IsLegal, IsLegalFrom, table_after, table_from}
use Rattle.dine_words.specs.Texts.{entry_text}
use Rattle.dine_words.specs.Versions.{AllowsLimits}
use Rattle.dine_table.proofs.CallerLemmas.{table_from-split}
use Rattle.dine_replay.specs.declared.audit_answer.AuditFault.{AuditFault}
use Rattle.dine_replay.specs.declared.audit_answer.AuditFault.TheVariants.{Header as header, Line, Wrong, Read, Memory}
use Rattle.dine_words.specs.JournalText.{AllFit, HasNoEntry}
use Rattle.dine_replay.specs.Audit.{IsAnswer, IsRefusedBy}
use Rattle.dine_journal.specs.JournalText.{entry_line, entry_lines, header_line_of, text_of_version}
use Rattle.dine_journal.specs.Overtaking.{overtakes_somebody, some_entry}
use Rattle.dine_journal.proofs.CallerLemmas.{clock-table_after, text_of_version-append}
use Rattle.dine_streams.specs.Lines.{begun_line, ended_lines, kept_of}
use Rattle.dine_streams.proofs.CallerLemmas.{begun-pieces, ended-pieces, lines-whole, text_of_lines}
use Rattle.dine_replay.specs.declared.replayed.Replayed.{Replayed}
use Rattle.dine_replay.specs.Lines.{AddsLines, IsOpened, IsRefusedIn, IsReplayedWhole, IsStoppedIn}
use Rattle.dine_replay.specs.Noting.{Telling}
use Rattle.dine_replay.specs.Replaying.{IsNotTorn, IsRefusal, IsReplayedBefore}
use Rattle.dine_replay.proofs.Fronts.{no_entry-long, no_entry-on, no_entry-torn}
use Rattle.dine_replay.proofs.Grown.{few_entries, fit-both, legal-both, some_entry-both}

-- what holds however known bytes go on, holds of all of them
pub consumed-whole : (a b : Option (List ℕ)) (heard : List ℕ) (P : List ℕ → Type 0) → Consumes a b heard → ((more : List ℕ) → P (heard ++ more)) → IfSome a P
consumed-whole None b heard P consumed on = tt
consumed-whole (Some all) None heard P consumed on = absurd consumed
consumed-whole (Some all) (Some more) heard P consumed on = subst P (sym consumed) (on more)

-- all of a line that has begun is kept, where that is no longer than a line may be
pub all_kept : (kept begun : List ℕ) → kept ≡ kept_of begun → length kept ≤ 4096 → kept ≡ begun
all_kept kept begun is short = is ∙ take_all 4097 begun (let few : length (kept_of begun) ≤ 4096 = subst (λ (l : List ℕ). length l ≤ 4096) is short in omega (arith, length-take 4097 begun))

-- a line of which too much is kept is too long
pub long_kept : (kept begun : List ℕ) → kept ≡ kept_of begun → 4096 < length kept → 4096 < length begun
long_kept kept begun is long = let much : 4096 < length (kept_of begun) = subst (λ (l : List ℕ). 4096 < length l) is long in omega (arith, length-take 4097 begun)

-- what follows from a clause on a result
pub if_ok : {X E : Type 0} (P Q : X → Type 0) (r : Result X E) → IfOk r P → ((x : X) → P x → Q x) → IfOk r Q
if_ok P Q (Ok x) p follows = follows x p
if_ok P Q (Err e) p follows = tt

-- what holds of an error holds where something weaker is asked
pub if_err : {X E : Type 0} (P Q : E → Type 0) (r : Result X E) → IfErr r P → ((e : E) → P e → Q e) → IfErr r Q
if_err P Q (Ok x) p follows = tt
if_err P Q (Err e) p follows = follows e p

-- the fault of a result that is known
pub err_is : {X : Type 0} (fault : AuditFault) → IsErrOf {T = X} (Err fault) Read → fault ≡ Read
err_is {X} fault read = let same : ◌≡◌ {A = Result X AuditFault} (Err fault) (Err Read) = read in cc

-- nothing has begun after a line's line feed
pub line-ended : (line rest : List ℕ) → begun_line [] ((line ++ 10 ∷ []) ++ rest) ≡ begun_line [] rest
line-ended line rest = begun-pieces [] (line ++ 10 ∷ []) rest ∙ ap (λ begun. begun_line begun rest) (begun-pieces [] line (10 ∷ []))

-- behind the lines of entries no further line has begun
entries-ended : (entries : List Entry) → begun_line [] (entry_lines entries) ≡ []
entries-ended [] = refl
entries-ended (e ∷ es) = line-ended (entry_text e) (entry_lines es) ∙ entries-ended es

-- what is left of whole lines behind those of entries is whole lines
rest-ended : (lines : List ℕ) (entries : List Entry) (rest : List ℕ) → lines ≡ entry_lines entries ++ rest → begun_line [] lines ≡ [] → begun_line [] rest ≡ []
rest-ended lines entries rest begins ended =
    ap (λ begun. begun_line begun rest) (sym (entries-ended entries)) ∙ sym (begun-pieces [] (entry_lines entries) rest) ∙ ap (begun_line []) (sym begins) ∙ ended

-- a text that isn't empty isn't with more behind it
goes_on_after : (xs ys : List ℕ) → xs ≢ [] → xs ++ ys ≢ []
goes_on_after [] ys some none = some refl
goes_on_after (x ∷ xs) ys some none = let e : x ∷ (xs ++ ys) ≡ [] = none in cc

-- whole lines are not torn, however they go on
whole-not_torn : (lines more : List ℕ) → begun_line [] lines ≡ [] → lines ≢ [] → IsNotTorn (lines ++ more)
whole-not_torn lines more ended some none = absurd (by (ended_lines [] lines) (lines-whole lines ended) (sym (ended-pieces [] lines more) ∙ none))
  where
    by : (all : List (List ℕ)) → text_of_lines all ≡ lines → all ++ ended_lines (begun_line [] lines) more ≡ [] → ⊥
    by [] whole is = some (sym whole)
    by (first ∷ others) whole is = let e : first ∷ (others ++ ended_lines (begun_line [] lines) more) ≡ [] = is in cc

-- ---- the header

-- where a header was read, all before the rest is replayed
pub opened : (text rest : List ℕ) (first : Header) (new : Replayed) → IsOpened first new → AllowsLimits first.version first.limits → text ≡ header_line_of first.version first.limits ++ rest → IsReplayedBefore text rest new
opened text rest first new p allowed is = record {
  limits = first.limits;
  history = [];
  whole = is ∙ ap (λ l. l ++ rest) (sym (append-nil (header_line_of first.version first.limits))) ∙ ap (λ (v : JournalVersion). text_of_version v first.limits [] ++ rest) (sym p.version);
  allowed = subst (λ (v : JournalVersion). AllowsLimits v first.limits) (sym p.version) allowed;
  fit = tt;
  legal = tt;
  table = p.table;
  counted = p.counted;
  noted = p.noted;
}

-- ---- lines

module _ (text rest : List ℕ) (old : Replayed) (p : IsReplayedBefore text rest old) where
  -- the clock is at most the number of entries
  pub clock_before : old.arbiter.table.clock ≤ old.entries
  clock_before = let few = clock-table_after p.limits p.history in rw p.table (let counted = p.counted in omega arith)

  -- another text goes on behind the same history, whatever is told of its last line
  pub goes_on_with : (text' rest' : List ℕ) (is_torn : Bool) → text' ≡ text_of_version old.version p.limits p.history ++ rest' → IsReplayedBefore text' rest' (record old { is_torn = is_torn })
  goes_on_with text' rest' is_torn whole = record {
    limits = p.limits;
    history = p.history;
    whole = whole;
    allowed = p.allowed;
    fit = p.fit;
    legal = p.legal;
    table = p.table;
    counted = p.counted;
    noted = p.noted;
  }

  -- more was heard
  pub heard_more : (bytes more : List ℕ) → rest ++ bytes ≡ more → IsReplayedBefore (text ++ bytes) more old
  heard_more bytes more is =
      goes_on_with (text ++ bytes) more old.is_torn (ap (λ l. l ++ bytes) p.whole ∙ append_assoc (text_of_version old.version p.limits p.history) rest bytes ∙ ap (λ l. text_of_version old.version p.limits p.history ++ l) is)

  -- lines were replayed
  pub added : (lines more : List ℕ) (new : Replayed) (was is_told : Telling) → rest ≡ lines ++ more → AddsLines old new was is_told lines → IsReplayedBefore text more new
  added lines more new was is_told is adds =
      let t = opening_table p.limits in
      record {
        limits = p.limits;
        history = p.history ++ adds.history;
        whole =
            p.whole ∙ ap (λ l. text_of_version old.version p.limits p.history ++ l) (is ∙ ap (λ l. l ++ more) adds.whole)
            ∙ sym (append_assoc (text_of_version old.version p.limits p.history) (entry_lines adds.history) more)
            ∙ ap (λ l. l ++ more) (sym (text_of_version-append old.version p.limits p.history adds.history))
            ∙ ap (λ (v : JournalVersion). text_of_version v p.limits (p.history ++ adds.history) ++ more) (sym adds.version);
        allowed = subst (λ (v : JournalVersion). AllowsLimits v p.limits) (sym adds.version) p.allowed;
        fit = subst (λ (v : JournalVersion). AllFit v (p.history ++ adds.history)) (sym adds.version) (fit-both old.version p.history adds.history p.fit adds.fit);
        legal = legal-both t p.history adds.history p.legal (subst (λ (x : Table). IsLegalFrom x adds.history) p.table adds.legal);
        table = adds.table ∙ ap (λ x. table_from x adds.history) p.table ∙ sym (table_from-split t p.history adds.history);
        counted = (let before = p.counted in let now = adds.counted in omega (arith, length-append p.history adds.history));
        noted =
            adds.noted
            ∙ ap (λ b. b || some_entry overtakes_somebody old.arbiter.table adds.history) p.noted
            ∙ ap (λ x. some_entry overtakes_somebody t p.history || some_entry overtakes_somebody x adds.history) p.table
            ∙ sym (some_entry-both overtakes_somebody t p.history adds.history);
      }

  -- a line is too long
  pub too_long : (more : List ℕ) → ended_lines [] rest ≡ [] → 4096 < length rest → IsRefusal (text ++ more) (Line (old.entries + 1))
  too_long more one long = (
    record {
      version = old.version;
      before = record { limits = p.limits; entries = p.history };
      rest = rest ++ more;
      begins = ap (λ l. l ++ more) p.whole ∙ append_assoc (text_of_version old.version p.limits p.history) rest more;
      allowed = p.allowed;
      fit = p.fit;
      legal = p.legal;
      goes_on = goes_on_after rest more (λ none. absurd (let empty : length rest ≡ 0 = ap length none in omega arith));
      no_entry = no_entry-long old.version rest more one long;
      line = ap (λ n. n + 1) p.counted;
    },
    λ none. omega (arith, length-append rest more),
  )

  -- the last line lacks its line feed
  pub torn : ended_lines [] rest ≡ [] → rest ≢ [] → IsAnswer text (Err (Line (old.entries + 1)))
  torn one some = record {
    version = old.version;
    before = record { limits = p.limits; entries = p.history };
    rest = rest;
    begins = p.whole;
    allowed = p.allowed;
    fit = p.fit;
    legal = p.legal;
    goes_on = some;
    no_entry = no_entry-torn old.version rest one;
    line = ap (λ n. n + 1) p.counted;
  }

  -- a line was refused
  module _ (lines more : List ℕ) (fault : AuditFault) (is : rest ≡ lines ++ more) (stop : IsRefusedIn old.version old.arbiter.table old.entries lines fault) where
    begins_all : (after : List ℕ) → text ++ after ≡ text_of_version old.version p.limits (p.history ++ stop.history) ++ (stop.rest ++ (more ++ after))
    begins_all after =
        let first : List ℕ = text_of_version old.version p.limits p.history in
        ap (λ l. l ++ after) (p.whole ∙ ap (λ l. first ++ l) (is ∙ ap (λ l. l ++ more) stop.begins))
        ∙ append_assoc first ((entry_lines stop.history ++ stop.rest) ++ more) after
        ∙ ap (λ l. first ++ l) (append_assoc (entry_lines stop.history ++ stop.rest) more after ∙ append_assoc (entry_lines stop.history) stop.rest (more ++ after))
        ∙ sym (append_assoc first (entry_lines stop.history) (stop.rest ++ (more ++ after)))
        ∙ ap (λ l. l ++ (stop.rest ++ (more ++ after))) (sym (text_of_version-append old.version p.limits p.history stop.history))

    fit_all : AllFit old.version (p.history ++ stop.history)
    fit_all = fit-both old.version p.history stop.history p.fit stop.fit

    legal_all : IsLegal p.limits (p.history ++ stop.history)
    legal_all = legal-both (opening_table p.limits) p.history stop.history p.legal (subst (λ (x : Table). IsLegalFrom x stop.history) p.table stop.legal)

    table_all : table_from old.arbiter.table stop.history ≡ table_after p.limits (p.history ++ stop.history)
    table_all = ap (λ x. table_from x stop.history) p.table ∙ sym (table_from-split (opening_table p.limits) p.history stop.history)

    number_all : old.entries + length stop.history + 1 ≡ length (p.history ++ stop.history) + 1
    number_all = let counted = p.counted in omega (arith, length-append p.history stop.history)

    -- so it is in each text that goes on so, unless that makes an entry's line of it
    answer : (after : List ℕ) → (HasNoEntry old.version stop.rest → HasNoEntry old.version (stop.rest ++ (more ++ after))) → (f : AuditFault) → IsRefusedBy old.version (table_from old.arbiter.table stop.history) (old.entries + length stop.history + 1) stop.rest f → IsAnswer (text ++ after) (Err f)
    answer after on header h = absurd h
    answer after on (Line n) h = record {
      version = old.version;
      before = record { limits = p.limits; entries = p.history ++ stop.history };
      rest = stop.rest ++ (more ++ after);
      begins = begins_all after;
      allowed = p.allowed;
      fit = fit_all;
      legal = legal_all;
      goes_on = goes_on_after stop.rest (more ++ after) stop.goes_on;
      no_entry = on h.0;
      line = h.1 ∙ number_all;
    }
    answer after on (Wrong n wanted) (e, behind, front, fits, says, other, number) = record {
      version = old.version;
      before = record { limits = p.limits; entries = p.history ++ stop.history };
      entry = e;
      rest = behind ++ (more ++ after);
      begins =
          begins_all after
          ∙ ap (λ l. text_of_version old.version p.limits (p.history ++ stop.history) ++ (l ++ (more ++ after))) front
          ∙ ap (λ l. text_of_version old.version p.limits (p.history ++ stop.history) ++ l) (append_assoc (entry_line e) behind (more ++ after));
      allowed = p.allowed;
      fit = fit_all;
      entry_fits = fits;
      legal = legal_all;
      says = says ∙ ap (λ x. reply_of x e.call) table_all;
      other = other;
      line = number ∙ number_all;
    }
    answer after on Read h = absurd h
    answer after on Memory h = absurd h

    -- which whole lines don't
    pub answer-ended : begun_line [] lines ≡ [] → (after : List ℕ) → IsAnswer (text ++ after) (Err fault)
    answer-ended ended after = answer after (no_entry-on old.version stop.rest (more ++ after) (rest-ended lines stop.history stop.rest stop.begins ended) stop.goes_on) fault stop.refused

    -- nor does a text that ends there
    pub answer-whole : more ≡ [] → IsAnswer text (Err fault)
    answer-whole none =
        subst (λ (t : List ℕ). IsAnswer t (Err fault)) (append-nil text)
        (answer [] (subst (HasNoEntry old.version) (sym (append-nil stop.rest) ∙ ap (λ l. stop.rest ++ (l ++ [])) (sym none))) fault stop.refused)

  module _ (lines more : List ℕ) (is : rest ≡ lines ++ more) where
    -- where the loop over lines stops, each text that begins so has this fault
    pub stopped : (fault : AuditFault) → begun_line [] lines ≡ [] → IsStoppedIn old.version old.arbiter.table old.entries lines fault → (after : List ℕ) → IsRefusal (text ++ after) fault
    unfolding answer-ended answer
    stopped header ended stop after = absurd stop
    stopped (Line n) ended stop after =
        (answer-ended lines more (Line n) is stop ended after, whole-not_torn stop.rest (more ++ after) (rest-ended lines stop.history stop.rest stop.begins ended) stop.goes_on)
    stopped (Wrong n wanted) ended stop after = answer-ended lines more (Wrong n wanted) is stop ended after
    stopped Read ended stop after = tt
    stopped Memory ended stop after = tt

    -- and so has a text that ends with the lines, whose last may be torn
    pub stopped-whole : (fault : AuditFault) → more ≡ [] → IsStoppedIn old.version old.arbiter.table old.entries lines fault → IsAnswer text (Err fault)
    stopped-whole header none stop = absurd stop
    stopped-whole (Line n) none stop = answer-whole lines more (Line n) is stop none
    stopped-whole (Wrong n wanted) none stop = answer-whole lines more (Wrong n wanted) is stop none
    stopped-whole Read none stop = tt
    stopped-whole Memory none stop = tt

    -- nothing is told of a text where it may have more entries than are counted
    pub endless : (fault : AuditFault) → IsStoppedIn old.version old.arbiter.table old.entries lines fault → fault ≡ Read → (after : List ℕ) → 2 ^ 64 - 2 ≤ length (text ++ after)
    endless fault stop none_told after =
        let many : 2 ^ 64 - 2 < old.entries + length lines = subst (λ (f : AuditFault). IsStoppedIn old.version old.arbiter.table old.entries lines f) none_told stop in
        let counted = p.counted in
        let few = few_entries p.history in
        omega (
          arith,
          ap length p.whole,
          ap length is,
          length-append text after,
          length-append lines more,
          length-append (text_of_version old.version p.limits p.history) rest,
          length-append (header_line_of old.version p.limits) (entry_lines p.history),
        )

-- what is told of the last line changes nothing else
pub with_torn : (text rest : List ℕ) (r : Replayed) (is_torn : Bool) → IsReplayedBefore text rest r → IsReplayedBefore text rest (record r { is_torn = is_torn })
with_torn text rest r is_torn p = goes_on_with text rest r p text rest is_torn p.whole

-- ---- a whole text

module _ (text lines : List ℕ) (first : Header) (start : Replayed) (p : IsOpened first start) (allowed : AllowsLimits first.version first.limits) (is : text ≡ header_line_of first.version first.limits ++ lines) where
  -- its header was read
  pub whole-opened : IsReplayedBefore text lines start
  whole-opened = opened text lines first start p allowed is

  -- all its lines were replayed
  pub whole-added : (new : Replayed) (was told : Telling) → AddsLines start new was told lines → IsReplayedWhole was told text new
  unfolding whole-opened added opened
  whole-added new was told adds = record { before = added text lines start whole-opened lines [] new was told (sym (append-nil lines)) adds; tells = adds.tells }

  -- or the loop over them stopped
  pub whole-stopped : (fault : AuditFault) → IsStoppedIn start.version start.arbiter.table start.entries lines fault → IsAnswer text (Err fault)
  whole-stopped fault stop = stopped-whole text lines start whole-opened lines [] (sym (append-nil lines)) fault refl stop
