use Rattle.std.proofs.Common.{◌≡◌, ◌++◌, refl, ap, ◌∙◌, sym, rules, arith}
use Rattle.dine_streams.specs.Inputs.{HeardInput}
use Rattle.dine_streams.proofs.CallerLemmas.{heard-on, heard-out-later, heard-same}
use Rattle.dine_script.proofs.FrontRuns.{printed-on, reads-less, run-none, run-on}
use Rattle.dine_script.proofs.script.run_front.Goals as goal

pub reads-init : goal.reads-init
reads-init g c =
    let none : c.args.input.now.heard ≡ 0 = ap (λ (i : HeardInput). i.heard) c.requires.nothing in
    record {
      ran = run-none c.args.print c.args.run.now.session (g.R.Source.remaining c.args.reader.now) c.args.input.now c.args.run.now.pending.items c.requires.nothing;
      most = omega (arith, none);
      clock = c.requires.clock;
      mark = refl;
    }

pub returns-in-Err-clause-heard : goal.returns-in-Err-clause-heard
returns-in-Err-clause-heard g c =
    let i = c.reads.invariant.ran in
    let more = c.in_ok-hear.ensures.heard in
    (i.bytes ++ more.bytes, heard-same (i.bytes ++ more.bytes) _ _ c.hear.new.self c.run_heard.new.input (heard-on i.bytes _ _ _ c.reads.input c.hear.new.self _ i.so_far more) c.in-Err.ensures.heard c.in-Err.ensures.end)

pub reads-smaller : goal.reads-smaller
reads-smaller g c =
    reads-less c.reads.input c.hear.new.self c.run_heard.new.input c.in_ok-hear.ensures.heard (sym c.reads-test.ensures) c.in-Ok.ensures.heard c.in-Ok.ensures.end

pub reads-preserved : goal.reads-preserved
reads-preserved g c =
    let i = c.reads.invariant in
    let most = c.in_ok-hear.ensures.heard.most in
    let same = c.in-Ok.ensures.heard in
    record {
      ran = run-on c.args.print c.args.run.now.session c.reads.run.session c.run_heard.new.run.session _ _ _ c.reads.input c.hear.new.self c.run_heard.new.input _ _ _ c.reads.faults c.in-Ok.more _ same c.in-Ok.ensures.end i.ran c.in_ok-hear.ensures.heard c.in-Ok.ensures.ran;
      most = omega (arith, most, same);
      clock = c.requires.clock;
      mark = c.in_ok-hear.ensures.unmarked ∙ i.mark;
    }

pub returns-then-len-most-clause-heard : goal.returns-then-len-most-clause-heard
returns-then-len-most-clause-heard g c =
    let i = c.reads.invariant.ran in
    let more = c.in_ok-hear.ensures.heard in
    (i.bytes ++ more.bytes, heard-same (i.bytes ++ more.bytes) _ _ c.hear.new.self c.run_heard.new.input (heard-on i.bytes _ _ _ c.reads.input c.hear.new.self _ i.so_far more) c.in-Ok.ensures.heard c.in-Ok.ensures.end)

pub returns-then-len-most-clause-ran : goal.returns-then-len-most-clause-ran
returns-then-len-most-clause-ran g c =
    run-on c.args.print c.args.run.now.session c.reads.run.session c.run_heard.new.run.session _ _ _ c.reads.input c.hear.new.self c.run_heard.new.input _ _ _ c.reads.faults c.in-Ok.more _ c.in-Ok.ensures.heard c.in-Ok.ensures.end c.reads.invariant.ran c.in_ok-hear.ensures.heard c.in-Ok.ensures.ran

pub returns-in-Err-clause-printed : goal.returns-in-Err-clause-printed
returns-in-Err-clause-printed g c =
    printed-on c.args.print c.args.run.now.session c.reads.run.session _ _ _ c.reads.input c.hear.new.self c.run_heard.new.input _ _ _ c.reads.faults _ c.in-Err.ensures.heard c.in-Err.ensures.end c.reads.invariant.ran c.in_ok-hear.ensures.heard c.in-Err.ensures.printed

pub returns-in_err-hear-clause-memory : goal.returns-in_err-hear-clause-memory
returns-in_err-hear-clause-memory g c = λ failed.
    let i = c.reads.invariant in
    heard-out-later i.ran.bytes _ _ _ c.reads.input _ _ _ i.ran.so_far i.mark (c.in_err-hear.ensures.memory (search (rules, failed)))
