use Rattle.std.proofs.Common.{◌++◌, ◌∷◌, [], map, codes, decimal, length, ap, ◌∙◌}
use Rattle.dine_race.specs.Report.{meals_line, verdict_text}
use Rattle.dine_race.proofs.Reported.{labelled, reported}
use Rattle.dine_race.proofs.racing.Raced.report.Goals as goal

pub returns-clause-ok : goal.returns-clause-ok
returns-clause-ok c =
    let self = c.args.self.now in
    let workers = labelled c.args.out.now.items (codes "workers ") (decimal c.args.workers) c.push_number_line.new.out.items (c.in_ok-push_number_line.ensures.ok ∙ ap (λ n. c.args.out.now.items ++ codes "workers " ++ decimal n ++ 10 ∷ []) c.from.ensures) in
    let calls = labelled c.push_number_line.new.out.items (codes "calls ") (decimal (length self.journal.entries)) c.push_number_line-2.new.out.items (c.in_ok-push_number_line-2.ensures.ok ∙ ap (λ n. c.push_number_line.new.out.items ++ codes "calls " ++ decimal n ++ 10 ∷ []) c.len.ensures.len) in
    reported c.args.out.now.items c.push_number_line.new.out.items c.push_number_line-2.new.out.items c.push_meals.new.out.items c.push_verdict.new.out.items (map (meals_line self.journal.entries) self.names) (codes "workers " ++ decimal c.args.workers) (codes "calls " ++ decimal (length self.journal.entries)) (verdict_text self.verdict) workers calls c.in_ok-push_meals.ensures.ok c.in_ok-push_verdict.ensures.ok
