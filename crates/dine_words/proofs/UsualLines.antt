-- Lines as nearly all are: what is read there.
use Rattle.std.proofs.Common.{◌≡◌, ℕ, ◌-◌, ◌^◌, true, List, ◌∷◌, ◌++◌, Some, ap}
use Rattle.dine_words.specs.declared.call.Call.{Call}
use Rattle.dine_words.specs.declared.call_word.CallOnOne.{CallOnOne}
use Rattle.dine_words.specs.declared.call_word.CallOnOne.TheVariants as one
use Rattle.dine_words.specs.declared.version.JournalVersion.{JournalVersion}
use Rattle.dine_words.specs.CallWords.{call_about_one, opening_on_one}
use Rattle.dine_words.specs.Reading.{◌>>=◌, asked_at, number_at, of_task}
use Rattle.dine_words.specs.Versions.{has_call_on_one}

-- a call about one task behind its pass, which the version has
pub asked_on_a_pass : (v : JournalVersion) (step : CallOnOne) (pass : ℕ) (text after rest : List ℕ) (asked : Call) → number_at (2 ^ 32 - 1) text ≡ Some (pass, 32 ∷ (opening_on_one step ++ after)) → has_call_on_one v step ≡ true → of_task (call_about_one step) after ≡ Some (asked, rest) → asked_at v text ≡ Some (pass, asked, rest)
asked_on_a_pass v one.Leave pass text after rest asked front has named = rw front (ap (λ o. o >>= (λ (found : Call × List ℕ). Some (pass, found.0, found.1))) named)
asked_on_a_pass v one.Hungry pass text after rest asked front has named = rw front (ap (λ o. o >>= (λ (found : Call × List ℕ). Some (pass, found.0, found.1))) named)
asked_on_a_pass v one.Begin pass text after rest asked front has named = rw front (ap (λ o. o >>= (λ (found : Call × List ℕ). Some (pass, found.0, found.1))) named)
asked_on_a_pass v one.Finish pass text after rest asked front has named = rw front (ap (λ o. o >>= (λ (found : Call × List ℕ). Some (pass, found.0, found.1))) named)
asked_on_a_pass v one.Withdraw pass text after rest asked front has named = rw (front, has) (ap (λ o. o >>= (λ (found : Call × List ℕ). Some (pass, found.0, found.1))) named)
