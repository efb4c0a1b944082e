use Rattle.dine_words.specs.declared.call.Call.TheVariants as call
use Rattle.dine_words.specs.CallWords.{call_about_two}
use Rattle.dine_replay.proofs.Repeating.{made-repeats, step-repeats}
use Rattle.dine_replay.proofs.made_again.repeat_line.Goals as goal

pub returns-in-Some : goal.returns-in-Some
returns-in-Some g c =
    let found = c.in-Some in
    step-repeats _ _ _ _ _ found.step found.pass c.args.text.now found.rest.now found.ensures.front found.ensures.has c.repeat_step.result c.repeat_step.ensures

pub returns-in-Some-read_pair : goal.returns-in-Some-read_pair
returns-in-Some-read_pair g c =
    let found = c.in-Some-read_pair in
    made-repeats _ _ _ _ _ c.args.text.now found.asked.now 0 (call_about_two found.pair found.first found.second) found.ensures c.repeat_pair.result c.repeat_pair.ensures

pub returns : goal.returns
returns g c =
    made-repeats _ _ _ _ _ c.args.text.now c.in-Some-read_join.asked.now 0 call.Join c.in-Some-read_join.ensures c.repeat.result c.repeat.ensures
