use Rattle.std.proofs.Common.{◌≡◌, ℕ, true, List, Option, None, ap, inl, inr}
use Rattle.std.proofs.lemmas.Bool.{cases_Bool, false≢true}
use Rattle.std.proofs.lemmas.Str.{IsUtf8-from_is_utf8, is_utf8-from_IsUtf8}
use Rattle.std.specs.Option.{ok_or}
use Rattle.std.specs.Str.{IsUtf8, is_utf8}
use Rattle.toml.specs.Data.{Members}
use Rattle.toml.specs.Parse.{parse_document}
use Rattle.dine_scenario.specs.declared.scenario_fault.ScenarioFault.TheVariants.{Toml}
use Rattle.dine_scenario.specs.Scenarios.{document_of}
use Rattle.dine_scenario.proofs.scenario_reader.read_document.Goals as goal

-- a text in UTF-8 is the document that is parsed
document_of-IsUtf8 : (text : List ℕ) (found : Option Members) → IsUtf8 text → parse_document text ≡ found → document_of text ≡ found
document_of-IsUtf8 text found utf8 parsed =
    let holds : is_utf8 text ≡ true = is_utf8-from_IsUtf8 text utf8 in rw holds parsed

-- a text that is no TOML wherever it is UTF-8 is no document
document_of-refused : (text : List ℕ) → (IsUtf8 text → parse_document text ≡ None) → document_of text ≡ None
document_of-refused text refused =
    elim (cases_Bool (is_utf8 text)) [
      | inl holds ↦ rw holds (refused (IsUtf8-from_is_utf8 text holds))
      | inr fails ↦ rw fails
    ]

pub returns-in-Ok : goal.returns-in-Ok
returns-in-Ok c =
    let ok = c.in-Ok.ensures.ok in
    ap (λ (found : Option Members). ok_or found Toml) (document_of-IsUtf8 c.args.text.now _ ok.0 ok.1)

pub returns-else-is_memory : goal.returns-else-is_memory
returns-else-is_memory c = λ _. ap (λ (found : Option Members). ok_or found Toml) (document_of-refused c.args.text.now (c.in-Err.ensures.refused (λ is. false≢true (c.if-is_memory.ensures.1 is))))
