use Rattle.std.proofs.Common.{◌≡◌, ℕ, List, ◌++◌, Result, OnOk, sym, subst}
use Rattle.std.specs.declared.alloc.AllocError.{AllocError}
use Rattle.dine_chart.specs.declared.fixed.FixedText.{FixedText}
use Rattle.dine_chart.specs.FixedTexts.{fixed_text}
use Rattle.dine_chart.specs.Page.{page_end, page_opening}
use Rattle.dine_chart.specs.Svg.{legend_signs, looks_text}
use Rattle.dine_chart.proofs.fixed.push_fixed.Goals as goal

-- what is appended for the text that it was found to be is appended for the text
appended : {X : Type 0} (r : Result X AllocError) (before after : List ℕ) (text found : FixedText) → text ≡ found → OnOk r (after ≡ before ++ fixed_text found) → OnOk r (after ≡ before ++ fixed_text text)
appended r before after text found is ok = subst (λ t. OnOk r (after ≡ before ++ fixed_text t)) (sym is) ok

pub returns-in-Looks-clause-ok : goal.returns-in-Looks-clause-ok
unfolding looks_text
returns-in-Looks-clause-ok c = appended c.push-in-Looks.result c.args.out.now.items c.push-in-Looks.new.out.items c.args.text _ c.in-Looks.is c.push-in-Looks.ensures.ok

pub returns-in-LegendSigns-clause-ok : goal.returns-in-LegendSigns-clause-ok
unfolding legend_signs
returns-in-LegendSigns-clause-ok c = appended c.push-in-LegendSigns.result c.args.out.now.items c.push-in-LegendSigns.new.out.items c.args.text _ c.in-LegendSigns.is c.push-in-LegendSigns.ensures.ok

pub returns-in-PageOpening-clause-ok : goal.returns-in-PageOpening-clause-ok
unfolding page_opening
returns-in-PageOpening-clause-ok c = appended c.push-in-PageOpening.result c.args.out.now.items c.push-in-PageOpening.new.out.items c.args.text _ c.in-PageOpening.is c.push-in-PageOpening.ensures.ok

pub returns-in-PageEnd-clause-ok : goal.returns-in-PageEnd-clause-ok
unfolding page_end
returns-in-PageEnd-clause-ok c = appended c.push-in-PageEnd.result c.args.out.now.items c.push-in-PageEnd.new.out.items c.args.text _ c.in-PageEnd.is c.push-in-PageEnd.ensures.ok
