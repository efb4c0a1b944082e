use Rattle.std.proofs.Common.{◌<◌, ◌≤◌, drop, length, subst, arith}
use Rattle.std.proofs.lemmas.Bool.Decides.{nat_tests}
use Rattle.std.proofs.lemmas.List.{length-drop, take_rest}
use Rattle.memchr.specs.Find.{is_byte}
use Rattle.dine_lines.specs.Blocks.{no_line_feed}
use Rattle.dine_lines.specs.Runs.{IsRunIn}
use Rattle.dine_lines.proofs.Blocks.{first_after, first_in_run}
use Rattle.dine_lines.proofs.line_feed.within_32.Goals as goal

pub returns-then-near-lt-NEAR : goal.returns-then-near-lt-NEAR
returns-then-near-lt-NEAR c =
    let text = c.args.text.now in
    let near = c.near_line_feed-near.result in
    let inside : 32 ≤ length (drop c.args.at text) = omega (arith, length-drop c.args.at text, c.requires.inside) in
    let short : near < 32 = grind (arith, nat_tests) in
    let found = subst (λ rest. IsRunIn no_line_feed rest 32 near) (take_rest text c.args.at) c.near_line_feed-near.ensures in
    first_after (is_byte 10) text c.args.at near (omega (arith, c.requires.inside)) c.requires.passed (first_in_run (drop c.args.at text) 32 near inside found short)
