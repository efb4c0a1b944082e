use Rattle.dine_cli.proofs.Traces.{traced_err, traced_nowhere_err, traced_nowhere_ok, traced_ok}
use Rattle.dine_cli.proofs.trace.trace_legal.Goals as goal

pub returns-then-window-clause-ok : goal.returns-then-window-clause-ok
returns-then-window-clause-ok g c =
    traced_nowhere_ok c.args.trace c.args.text.now c.args.entries c.requires.counted c.window_in-window.result c.window_in-window.ensures c.if-window.true c.write_text.result _ _ c.write_text.ensures.written c.write_text.ensures.ended

pub returns-then-window-clause-part : goal.returns-then-window-clause-part
returns-then-window-clause-part g c =
    traced_nowhere_err c.args.trace c.args.text.now c.args.entries c.requires.counted c.window_in-window.result c.window_in-window.ensures c.if-window.true c.write_text.result _ _ c.write_text.ensures.left

pub returns-clause-ok : goal.returns-clause-ok
returns-clause-ok g c =
    traced_ok c.args.trace c.args.text.now c.args.entries c.requires.counted c.window_in-window.result c.window_in-window.ensures c.if-window.false c.deref.result.now c.deref.ensures.value c.write_window.result _ _ c.write_window.ensures.ok c.write_window.ensures.ended

pub returns-clause-part : goal.returns-clause-part
returns-clause-part g c =
    traced_err c.args.trace c.args.text.now c.args.entries c.requires.counted c.window_in-window.result c.window_in-window.ensures c.if-window.false c.deref.result.now c.deref.ensures.value c.write_window.result _ _ c.write_window.ensures.part
