use Rattle.std.proofs.Common.{◌≡◌, ℕ, suc, ◌+◌, ◌<◌, ◌≤◌, List, [], ◌∷◌, ◌++◌, length, get_or, set, map, take, sym, ap, ◌∙◌, subst, arith}
use Rattle.std.proofs.Math.Seq.{take-suc, take-suc-set}
use Rattle.std.proofs.lemmas.List.{map-append, take_all}
use Rattle.dine_words.specs.declared.task.Task.{Task}
use Rattle.dine_embed.specs.declared.task.DineTask.{DineTask}
use Rattle.dine_embed.specs.Acting.{name_of}
use Rattle.dine_embed.proofs.task.write_names.Goals as goal

pub loop-at-preserved : goal.loop-at-preserved
loop-at-preserved c =
    let at = c.loop-at.at in
    let tasks = c.args.tasks.now in
    let nobody : Task = record { slot = 0; born = 0 } in
    let written = map name_of (take at tasks) in
    let room = c.loop-at.auto.place in
    let fits = c.requires in
    let below : at < length tasks = c.loop-at-test.true in
    let inside : at < length c.loop-at.place = omega arith in
    let longer =
    take-suc-set c.loop-at.place at c.of.result inside
    ∙ ap (λ (names : List DineTask). names ++ (c.of.result ∷ [])) c.loop-at.invariant
    ∙ ap (λ (name : DineTask). written ++ (name ∷ [])) c.of.ensures
    ∙ sym (map-append name_of (take at tasks) (get_or tasks at nobody ∷ []))
    ∙ ap (map name_of) (sym (take-suc tasks at nobody below)) in
    let next : suc at ≡ at + 1 = omega arith in
    subst (λ (n : ℕ). take n (set c.loop-at.place at c.of.result) ≡ map name_of (take n tasks)) next longer

pub returns-clause-names : goal.returns-clause-names
returns-clause-names c =
    let tasks = c.args.tasks.now in
    let past = c.loop-at-test.false in
    let within = c.loop-at.auto.at-end in
    let whole : c.loop-at.at ≡ length tasks = omega arith in
    let all : length tasks ≤ length tasks = omega arith in
    subst (λ (n : ℕ). take n c.loop-at.place ≡ map name_of (take n tasks)) whole c.loop-at.invariant
    ∙ ap (map name_of) (take_all (length tasks) tasks all)
