use Rattle.std.proofs.Common.{rules, ◌≡◌, ℕ, List, ◌++◌, codes, decimal, append_assoc, sym, ap, ◌∙◌}
use Rattle.dine_lines.specs.Faults.{fault_text}
use Rattle.dine_scenario.specs.FaultText.{scenario_fault_text}
use Rattle.dine_scenario.proofs.scenario_fault.ScenarioFault.write_to.Goals as goal

-- the parts of a fault of the setup, each after the other
setup_parts : (out room first number space kind all : List ℕ) → room ≡ out → first ≡ room ++ codes "fault setup " → all ≡ first ++ number ++ space ++ kind → all ≡ out ++ (codes "fault setup " ++ number ++ space ++ kind)
setup_parts out room first number space kind all r f a =
    a ∙ ap (λ t. t ++ number ++ space ++ kind) (f ∙ ap (λ t. t ++ codes "fault setup ") r) ∙ simp append_assoc

-- the parts of a fault of a worker
worker_parts : (out room first worker second third number space kind all : List ℕ) → room ≡ out → first ≡ room ++ codes "fault worker " → second ≡ first ++ worker → third ≡ second ++ codes " step " → all ≡ third ++ number ++ space ++ kind → all ≡ out ++ (codes "fault worker " ++ worker ++ codes " step " ++ number ++ space ++ kind)
worker_parts out room first worker second third number space kind all r f s t a =
    a ∙ ap (λ t. t ++ number ++ space ++ kind) (t ∙ ap (λ t. t ++ codes " step ") (s ∙ ap (λ t. t ++ worker) (f ∙ ap (λ t. t ++ codes "fault worker ") r))) ∙ simp append_assoc

pub returns-in-Setup-clause-ok : goal.returns-in-Setup-clause-ok
returns-in-Setup-clause-ok c =
    setup_parts c.args.out.now.items _ _ (decimal c.in-Setup.line) _ (fault_text c.in-Setup.kind) _ c.in_ok-reserve.ensures.items c.put_text-in-Setup.ensures.text c.put_place.ensures
    ∙ ap (λ fault. c.args.out.now.items ++ scenario_fault_text fault) (sym c.in-Setup.is)

pub returns-in-Worker-clause-ok : goal.returns-in-Worker-clause-ok
returns-in-Worker-clause-ok c =
    worker_parts c.args.out.now.items _ _ (decimal c.in-Worker.worker) _ _ (decimal c.in-Worker.step) _ (fault_text c.in-Worker.kind) _ c.in_ok-reserve.ensures.items c.put_text-in-Worker.ensures.text (search rules) c.put_text-in-Worker-2.ensures.text c.put_place-in-Worker.ensures
    ∙ ap (λ fault. c.args.out.now.items ++ scenario_fault_text fault) (sym c.in-Worker.is)
