-- The trace while it is written: what was written and what waits is the trace so far.
use Rattle.std.proofs.Common.{◌≡◌, ◌<◌, ℕ, ◌+◌, List, [], ◌∷◌, ◌++◌, length, take, Option, sym, ap, ◌∙◌, subst, append-nil, length-append, arith}
use Rattle.std.specs.Io.KnownBytes.{Appends}
use Rattle.std.proofs.KnownBytes.{Appends-nil}
use Rattle.dine_words.specs.declared.entry.Entry.{Entry}
use Rattle.dine_words.specs.declared.limits.Limits.{Limits}
use Rattle.dine_words.specs.declared.version.JournalVersion.{JournalVersion}
use Rattle.dine_words.specs.Texts.{IsEntryOf, header_text}
use Rattle.dine_words.specs.Versions.{AllowsLimits}
use Rattle.dine_words.specs.JournalText.{HasNoEntry}
use Rattle.dine_journal.specs.JournalText.{entry_line, header_line_of}
use Rattle.dine_journal.specs.Kept.{Journal}
use Rattle.dine_streams.specs.Gathered.{MovesOn}
use Rattle.dine_bars.specs.declared.bar.Window.{Window}
use Rattle.dine_bars.specs.declared.mark.Mark.{Mark}
use Rattle.dine_bars.specs.Marks.{Drawing, drawn_after, last_marks, marks_at, marks_from, opening_drawn}
use Rattle.dine_lines.specs.declared.label.Label.{Label}
use Rattle.dine_chart.specs.Reading.{IsLegalText, IsTraced, IsTracedInPart}
use Rattle.dine_chart.specs.Trace.{events_text, trace_end, trace_opening, trace_text}
use Rattle.dine_chart.proofs.Second.{IsReadTo, line-shorter, read-end, read-header, read-next, read-on}
use Rattle.dine_chart.proofs.Tracing.{IsDrawnTo, drawn-end, drawn-next, drawn-opening, goes-on, last, marks-left, so_far, so_far-more}
use Rattle.dine_chart.proofs.Waiting.{IsWaiting, waiting-all, waiting-cut, waiting-first, waiting-kept, waiting-more, waiting-moved}

-- some entries were read, and these are the marks that they end
pub record IsDrawnSoFar (text : List ℕ) (v : JournalVersion) (limits : Limits) (rest : List ℕ) (d : Drawing) : Type 0 where
  pub journal : Journal
  pub es : List Entry
  pub added : List Mark
  pub reads : IsReadTo text journal v limits rest es
  pub draws : IsDrawnTo journal d added es
  pub few : d.place + length rest < length text

-- and what was written and the lines that wait are the trace of these marks
pub record IsTracing (text : List ℕ) (labels : List Label) (w : Window) (v : JournalVersion) (limits : Limits) (before now : Option (List ℕ)) (lines rest : List ℕ) (d : Drawing) : Type 0 where
  pub drawn : IsDrawnSoFar text v limits rest d
  pub waits : IsWaiting before now lines (so_far labels w drawn.added)

module _ (text : List ℕ) (labels : List Label) (w : Window) where
  -- nothing was written
  pub traced-nothing : (before : Option (List ℕ)) → IsLegalText text → IsTracedInPart text labels w before before
  traced-nothing before legal = record { journal = legal.0; text_of = legal.1; count = 0; written = Appends-nil before }

  module _ (v : JournalVersion) (limits : Limits) (before : Option (List ℕ)) where
    -- the beginning waits
    pub tracing-opening : (rest lines : List ℕ) (d : Drawing) → IsLegalText text → AllowsLimits v limits → text ≡ header_line_of v limits ++ rest → d ≡ opening_drawn limits → lines ≡ trace_opening → IsTracing text labels w v limits before before lines rest d
    tracing-opening rest lines d legal allowed is opens begins =
        let reads = read-header text rest v limits legal allowed is in
        let place : d.place ≡ 0 = ap (λ (x : Drawing). x.place) opens in
        let long : length text ≡ length (header_line_of v limits ++ rest) = ap length is in
        record {
          drawn =
              record {
                journal = legal.0;
                es = legal.0.entries;
                added = [];
                reads = reads;
                draws = drawn-opening legal.0 d (opens ∙ ap opening_drawn reads.limits_are);
                few = omega (arith, length-append (header_line_of v limits) rest, length-append (header_text v limits) (10 ∷ []));
              };
          waits = subst (λ l. IsWaiting before before l (so_far labels w [])) (append-nil trace_opening ∙ sym begins) (waiting-first before (so_far labels w []));
        }

    module _ (now : Option (List ℕ)) (lines rest : List ℕ) (d : Drawing) (p : IsTracing text labels w v limits before now lines rest d) where
      -- how the trace goes on
      goes : trace_text labels w p.drawn.journal ≡ so_far labels w p.drawn.added ++ (events_text labels w (marks_from d p.drawn.es ++ last p.drawn.journal d p.drawn.added p.drawn.es p.drawn.draws) ++ trace_end)
      goes = goes-on labels w p.drawn.journal p.drawn.added (marks_from d p.drawn.es ++ last p.drawn.journal d p.drawn.added p.drawn.es p.drawn.draws) (marks-left p.drawn.journal d p.drawn.added p.drawn.es p.drawn.draws)

      -- the lines were written, or still wait
      pub tracing-moved : (next : Option (List ℕ)) (after : List ℕ) → MovesOn now next lines after → IsTracing text labels w v limits before next after rest d
      tracing-moved next after moved = record { drawn = p.drawn; waits = waiting-moved before now next lines after (so_far labels w p.drawn.added) p.waits moved }

      -- one entry on
      pub tracing-next : (e : Entry) (behind after : List ℕ) (next : Drawing) → IsEntryOf v e → rest ≡ entry_line e ++ behind → next ≡ drawn_after d e → after ≡ lines ++ events_text labels w (marks_at d e) → IsTracing text labels w v limits before now after behind next
      tracing-next e behind after next fits front draws more =
          let n = read-next text p.drawn.journal v limits rest p.drawn.es p.drawn.reads e behind fits front in
          let shorter = line-shorter e rest behind front in
          let few = p.drawn.few in
          let place : next.place ≡ d.place + 1 = ap (λ (x : Drawing). x.place) draws in
          record {
            drawn =
                record {
                  journal = p.drawn.journal;
                  es = n.others;
                  added = p.drawn.added ++ marks_at d e;
                  reads = read-on text p.drawn.journal v limits rest p.drawn.es p.drawn.reads e behind n;
                  draws = drawn-next p.drawn.journal d p.drawn.added p.drawn.es p.drawn.draws e n.others next n.first draws;
                  few = omega arith;
                };
            waits =
                subst (λ t. IsWaiting before now after t) (sym (so_far-more labels w p.drawn.added (marks_at d e)))
                (waiting-more before now lines after (so_far labels w p.drawn.added) (events_text labels w (marks_at d e)) more p.waits);
          }

      -- a write failed: a first part was written
      pub tracing-cut : (next : Option (List ℕ)) (k : ℕ) → Appends now next (take k lines) → IsTracedInPart text labels w before next
      tracing-cut next k part =
          let cut = waiting-cut before now next lines (so_far labels w p.drawn.added) _ (trace_text labels w p.drawn.journal) k p.waits goes part in
          record { journal = p.drawn.journal; text_of = p.drawn.reads.text_of; count = cut.0; written = cut.1 }

      -- memory ran out: nothing more was written
      pub tracing-kept : IsTracedInPart text labels w before now
      tracing-kept =
          let kept = waiting-kept before now lines (so_far labels w p.drawn.added) _ (trace_text labels w p.drawn.journal) p.waits goes in
          record { journal = p.drawn.journal; text_of = p.drawn.reads.text_of; count = kept.0; written = kept.1 }

      -- ---- the end

      module _ (none : HasNoEntry v rest) (marks : List Mark) (is : marks ≡ last_marks (d.place + 1) d.begun) (all : List ℕ) (ends : all ≡ lines ++ (events_text labels w marks ++ trace_end)) where
        -- the trace is what was written so far, the events of the bars that go on, and the end
        whole : trace_text labels w p.drawn.journal ≡ so_far labels w p.drawn.added ++ (events_text labels w marks ++ trace_end)
        whole = goes-on labels w p.drawn.journal p.drawn.added marks (drawn-end p.drawn.journal d p.drawn.added p.drawn.es p.drawn.draws (read-end text p.drawn.journal v limits rest p.drawn.es p.drawn.reads none) ∙ ap (λ m. p.drawn.added ++ m) (sym is))

        -- what waits then completes it
        waits_all : IsWaiting before now all (trace_text labels w p.drawn.journal)
        waits_all =
            subst (λ t. IsWaiting before now all t) (sym whole)
            (waiting-more before now lines all (so_far labels w p.drawn.added) (events_text labels w marks ++ trace_end) ends p.waits)

        -- all was written
        pub tracing-end : (next : Option (List ℕ)) → Appends now next all → IsTraced text labels w before next
        tracing-end next done = record {
          journal = p.drawn.journal;
          text_of = p.drawn.reads.text_of;
          written = waiting-all before now next all (trace_text labels w p.drawn.journal) waits_all done;
        }

        -- a first part of it
        pub tracing-end_cut : (next : Option (List ℕ)) (k : ℕ) → Appends now next (take k all) → IsTracedInPart text labels w before next
        tracing-end_cut next k part =
            let cut = waiting-cut before now next all (trace_text labels w p.drawn.journal) [] (trace_text labels w p.drawn.journal) k waits_all (sym (append-nil (trace_text labels w p.drawn.journal))) part in
            record { journal = p.drawn.journal; text_of = p.drawn.reads.text_of; count = cut.0; written = cut.1 }
