-- One more worker, and what is asked from then on.
use Rattle.std.proofs.Common.{◌≡◌, ◌≢◌, ℕ, ◌+◌, ◌<◌, List, [], ◌∷◌, ◌++◌, map, length, get_or, drop, Result, Ok, Err, sym, ap, ◌∙◌, subst}
use Rattle.std.proofs.lemmas.List.{drop_more, map-append}
use Rattle.std.specs.Result.{IsErrAnd}
use Rattle.dine_scenario.specs.declared.scenario_fault.ScenarioFault.{ScenarioFault}
use Rattle.dine_scenario.specs.declared.scenario_fault.ScenarioFault.TheVariants.{Memory}
use Rattle.dine_scenario.specs.declared.table_form.WorkerForm.{WorkerForm}
use Rattle.dine_scenario.specs.declared.scenario.Step.{Step}
use Rattle.dine_scenario.specs.declared.scenario.Worker.{Worker}
use Rattle.dine_scenario.specs.Asked.{◌>>=◌}
use Rattle.dine_scenario.specs.Forms.{worker_form_plan}
use Rattle.dine_scenario.specs.Outcomes.{Reads}
use Rattle.dine_scenario.specs.Plan.{WorkerPlan, worker_plan}
use Rattle.dine_scenario.specs.Scenarios.{steps_asked, worker_asked, workers_asked}
use Rattle.dine_scenario.proofs.Progress.{read_before}
use Rattle.dine_scenario.proofs.Steps.{read_before-push}

-- the workers that are read, or the first fault
abbrev Workers : Type 0
Workers = Result (List (WorkerPlan Step)) ScenarioFault

-- what is planned of a worker: its steps, so often
abbrev planned : ℕ → List Step → WorkerPlan Step
planned n steps = record { repeat = n; steps = steps }

-- a worker with its steps, if they have no fault, and the workers after it
abbrev before : ℕ → Result (List Step) ScenarioFault → Workers → Workers
before n steps rest = steps >>= (λ found. rest >>= (λ more. Ok (planned n found ∷ more)))

-- where a worker's steps are read, it stands in front of the others
before-Ok : (n : ℕ) (steps : Result (List Step) ScenarioFault) (rest : Workers) (first : WorkerPlan Step) → (steps >>= (λ found. Ok (planned n found))) ≡ Ok first → before n steps rest ≡ (rest >>= (λ more. Ok (first ∷ more)))
before-Ok n (Ok found) rest first is = let same : planned n found ≡ first = cc in ap (λ (w : WorkerPlan Step). rest >>= (λ more. Ok (w ∷ more))) same
before-Ok n (Err e) rest first is = absurd (let no : ◌≡◌ {A = Result (WorkerPlan Step) ScenarioFault} (Err e) (Ok first) = is in cc)

-- where they have a fault, it is the first
before-Err : (n : ℕ) (steps : Result (List Step) ScenarioFault) (rest : Workers) (fault : ScenarioFault) → (steps >>= (λ found. Ok (planned n found))) ≡ Err fault → before n steps rest ≡ Err fault
before-Err n (Ok found) rest fault is = absurd (let no : ◌≡◌ {A = Result (WorkerPlan Step) ScenarioFault} (Ok (planned n found)) (Err fault) = is in cc)
before-Err n (Err e) rest fault is = let no : ◌≡◌ {A = Result (WorkerPlan Step) ScenarioFault} (Err e) (Err fault) = is in cc

module _ (known : List (List ℕ)) (forms : List WorkerForm) (i : ℕ) (form : WorkerForm) (done : List Worker) (inside : i < length forms) (is : form ≡ get_or forms i form) where
  next : workers_asked known i (map worker_form_plan (drop i forms)) ≡ before form.repeat (steps_asked known i (worker_form_plan form).steps) (workers_asked known (i + 1) (map worker_form_plan (drop (i + 1) forms)))
  next =
      ap (λ (fs : List WorkerForm). workers_asked known i (map worker_form_plan fs)) (drop_more forms i form inside)
      ∙ ap (λ (f : WorkerForm). before f.repeat (steps_asked known i (worker_form_plan f).steps) (workers_asked known (i + 1) (map worker_form_plan (drop (i + 1) forms)))) (sym is)

  -- it is read
  pub workers_asked-more : (worker : Worker) → worker_asked known i (worker_form_plan form) ≡ Ok (worker_plan worker)
      → read_before (map worker_plan done) (workers_asked known i (map worker_form_plan (drop i forms)))
      ≡ read_before (map worker_plan (done ++ worker ∷ [])) (workers_asked known (i + 1) (map worker_form_plan (drop (i + 1) forms)))
  workers_asked-more worker asked =
      let rest : Workers = workers_asked known (i + 1) (map worker_form_plan (drop (i + 1) forms)) in
      ap (λ (r : Workers). read_before (map worker_plan done) r) (next ∙ before-Ok form.repeat (steps_asked known i (worker_form_plan form).steps) rest (worker_plan worker) asked)
      ∙ read_before-push (map worker_plan done) (worker_plan worker) rest
      ∙ ap (λ (l : List (WorkerPlan Step)). read_before l rest) (sym (map-append worker_plan done (worker ∷ [])))

  -- it has a fault
  pub workers_asked-stopped : (fault : ScenarioFault) → worker_asked known i (worker_form_plan form) ≡ Err fault
      → read_before (map worker_plan done) (workers_asked known i (map worker_form_plan (drop i forms))) ≡ Err fault
  workers_asked-stopped fault asked =
      ap (λ (r : Workers). read_before (map worker_plan done) r)
      (next ∙ before-Err form.repeat (steps_asked known i (worker_form_plan form).steps) (workers_asked known (i + 1) (map worker_form_plan (drop (i + 1) forms))) fault asked)

-- a fault that is passed on
pub Reads-passed : {A B : Type 0} (view : A → B) (r : Result A ScenarioFault) (fault : ScenarioFault) (said : Result B ScenarioFault) → IsErrAnd r (λ f. f ≡ fault) → (fault ≢ Memory → said ≡ Err fault) → Reads view r said
Reads-passed view (Ok x) fault said same h = absurd same
Reads-passed view (Err found) fault said same h = subst (λ (f : ScenarioFault). f ≢ Memory → said ≡ Err f) (sym same) h
