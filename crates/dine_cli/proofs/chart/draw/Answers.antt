use Rattle.std.proofs.Common.{◌≡◌, ◌≤◌, codes, decimal, length, inl, inr, ap, refl, ◌∙◌, subst}
use Rattle.dine_chart.specs.declared.picture.TheConstants.{MOST_LANES}
use Rattle.dine_chart.specs.Gather.{IsPictureOf}
use Rattle.dine_chart.specs.Picture.{places_of, window_in}
use Rattle.dine_cli.specs.ChartOutput.{Drawn, TooLong, TooMany, window_asked}
use Rattle.dine_cli.proofs.Charts.{as_line, not_long}
use Rattle.dine_cli.proofs.chart.draw.Goals as goal
use Rattle.dine_cli.proofs.chart.draw.Goals.{then-places-eq0-via-then-places-eq0, then-places-eq0-via-else-places-eq0+then-places-gt-MOST_PLACES}

pub returns-then-places-eq0 : goal.returns-then-places-eq0
returns-then-places-eq0 g c =
    let chart = c.args.chart in
    let journal = c.args.journal.now in
    let window : c.window_in-window.result ≡ window_asked chart journal = c.window_in-window.ensures ∙ ap (window_in record { from = chart.from; to = chart.to }) c.len.ensures.len in
    record {
      outcome = TooLong c.saturating_sub-places.result;
      right = (
        c.saturating_sub-places.ensures ∙ ap places_of window,
        elim c.then-places-eq0.branch [
          | then-places-eq0-via-then-places-eq0 w ↦ inl w.if-places-eq0.true
          | then-places-eq0-via-else-places-eq0+then-places-gt-MOST_PLACES w ↦ inr w.if-places-gt-MOST_PLACES.true
        ],
      );
      written = c.in_ok-push_number_line.ensures.ok ∙ as_line c.args.out.now.items (codes "fault places ") (decimal c.saturating_sub-places.result) (codes "\n");
      ends = refl;
    }

pub returns-then-lanes-gt-MOST_LANES : goal.returns-then-lanes-gt-MOST_LANES
returns-then-lanes-gt-MOST_LANES g c =
    let chart = c.args.chart in
    let journal = c.args.journal.now in
    let window : c.window_in-window.result ≡ window_asked chart journal = c.window_in-window.ensures ∙ ap (window_in record { from = chart.from; to = chart.to }) c.len.ensures.len in
    let picture = c.in_ok-picture.picture in
    record {
      outcome = TooMany c.len-lanes.result;
      right = (
        picture,
        subst (λ w. IsPictureOf journal w chart.labels.items picture) window c.in_ok-picture.ensures,
        c.len-lanes.ensures ∙ picture.lanes.ok.0,
        c.if-lanes-gt-MOST_LANES.true,
      );
      written = c.in_ok-push_number_line-2.ensures.ok ∙ as_line c.args.out.now.items (codes "fault lanes ") (decimal c.len-lanes.result) (codes "\n");
      ends = refl;
    }

pub returns : goal.returns
returns g c =
    let chart = c.args.chart in
    let journal = c.args.journal.now in
    let window : c.window_in-window.result ≡ window_asked chart journal = c.window_in-window.ensures ∙ ap (window_in record { from = chart.from; to = chart.to }) c.len.ensures.len in
    let picture = c.in_ok-picture.picture in
    let places : c.saturating_sub-places.result ≡ places_of (window_asked chart journal) = c.saturating_sub-places.ensures ∙ ap places_of window in
    let lanes : c.len-lanes.result ≡ length picture.lanes.items = c.len-lanes.ensures ∙ picture.lanes.ok.0 in
    record {
      outcome = Drawn picture;
      right = (
        subst (λ w. IsPictureOf journal w chart.labels.items picture) window c.in_ok-picture.ensures,
        subst (λ n. n ≤ MOST_LANES) lanes c.if-lanes-gt-MOST_LANES.false,
        not_long c.saturating_sub-places.result (places_of (window_asked chart journal)) places c.if-places-eq0.false c.if-places-gt-MOST_PLACES.false,
      );
      written = c.in_ok-write.ensures.ok;
      ends = refl;
    }
