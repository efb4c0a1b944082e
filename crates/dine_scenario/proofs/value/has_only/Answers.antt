use Rattle.std.proofs.Common.{rules, tests, ◌≡◌, ℕ, ◌||◌, List, [], ◌∷◌, Bor, string_bytes, refl, sym, ap, ◌∙◌}
use Rattle.std.proofs.lemmas.Iterator.Consumers.{YieldsList-from_rest}
use Rattle.std.proofs.lemmas.Iterator.Search.{all_from_yields_List}
use Rattle.std.specs.List.{list_all, list_any}
use Rattle.std.specs.Map.{keys_of}
use Rattle.std.specs.Str.{bytes_eq}
use Rattle.toml.proofs.Views.{Entry}
use Rattle.toml.specs.View.{members_view}
use Rattle.dine_scenario.specs.Form.{has_only, is_one_of}
use Rattle.dine_scenario.specs.Lent.{lent}
use Rattle.dine_scenario.proofs.value.has_only.Goals as goal

-- a key is sought among texts as among their bytes
is_one_of-lent : (keys : List (Bor (List ℕ))) (key : List ℕ) → is_one_of (lent keys) key ≡ list_any (λ known. bytes_eq known.now key) keys
is_one_of-lent [] key = refl
is_one_of-lent (k ∷ keys) key = ap (λ b. bytes_eq k.now key || b) (is_one_of-lent keys key)

-- a table's keys are the keys of its map
has_only-members_view : (keys : List (Bor (List ℕ))) (es : List Entry) → has_only (lent keys) (members_view es) ≡ list_all (λ k. list_any (λ known. bytes_eq known.now (string_bytes k)) keys) (keys_of es)
has_only-members_view keys [] = refl
has_only-members_view keys (e ∷ es) = rw (is_one_of-lent keys (string_bytes e.0), has_only-members_view keys es)

pub returns : goal.returns
returns c =
    let all = all_from_yields_List (λ k. list_any (λ known. bytes_eq known.now (string_bytes k)) c.args.keys.now) _ _ c.all.result c.all.ensures.ran (YieldsList-from_rest (keys_of c.args.table.now.entries) c.keys.ensures.rest) (λ x b q k. search (rules, tests)) in
    all ∙ sym (has_only-members_view c.args.keys.now c.args.table.now.entries)
