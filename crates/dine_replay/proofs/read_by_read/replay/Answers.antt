use Rattle.std.proofs.Common.{ℕ, ◌-◌, ◌^◌, List, Option, arith}
use Rattle.dine_replay.proofs.Bounds.{at_first, has_read, has_read_none, to_endless}
use Rattle.dine_replay.proofs.read_by_read.replay.Goals as goal

pub returns-clause-answered : goal.returns-clause-answered
returns-clause-answered g c =
    let first : Option (List ℕ) = g.R.Source.remaining c.args.reader.now in
    let mark = g.R.Source.mark c.replay_within.new.reader in
    let most : ℕ = 2 ^ 64 - 3 in
    record {
      answer = c.replay_within.ensures.answer;
      mark = record {
        failed = λ read. to_endless mark first (c.replay_within.ensures.mark.failed read most first (at_first most first c.endless.result c.endless.ensures (omega arith)));
        unmarked = c.replay_within.ensures.mark.unmarked;
        read_alone = c.replay_within.ensures.mark.read_alone;
      };
    }

pub returns-clause-heard : goal.returns-clause-heard
returns-clause-heard g c =
    let first : Option (List ℕ) = g.R.Source.remaining c.args.reader.now in
    let most : ℕ = 2 ^ 64 - 3 in
    λ other. has_read first (g.R.Source.remaining c.replay_within.new.reader) (c.replay_within.ensures.within other most first (at_first most first c.endless.result c.endless.ensures (omega arith)))

pub returns-in_err-buffer-clause-heard : goal.returns-in_err-buffer-clause-heard
returns-in_err-buffer-clause-heard g c = λ _. has_read_none (g.R.Source.remaining c.args.reader.now)
