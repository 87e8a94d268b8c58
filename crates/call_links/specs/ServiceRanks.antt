-- Tallies in order of the names of their services, by the ranks of these names.
use Rattle.std.specs.Prelude.{ℕ, ◌==◌, cond, List, [], ◌∷◌, map, fold, Option, Some, None, option_map, suc}
use Rattle.std.specs.BTreeMap.{insert_entry}
use Rattle.std.specs.Ordering.{nat_cmp}
use denote.Ref.{Bor}
use Rattle.jaeger_model.specs.declared.text.Text.{Text}
use Rattle.jaeger_model.specs.Texts.{text_cmp}
use Rattle.trace_model.specs.TakenSpans.{Taken}
use Rattle.trace_model.specs.declared.answer.Link.{Link}
use Rattle.call_links.specs.NumberedCalls.{NumberedService, text_in}
use Rattle.call_links.specs.LinkTallies.{PairNumbers, PairTexts, LinkTallies, number_cmp}

abbrev pub service_entry : ℕ × Taken → NumberedService
service_entry e = (e.0, text_in e.1.span)

-- the services of the tallies, in order of their numbers
abbrev pub with_services : List NumberedService → PairNumbers × (PairTexts × ℕ) → List NumberedService
with_services ss e = insert_entry nat_cmp (insert_entry nat_cmp ss e.0.0 e.1.0.0) e.0.1 e.1.0.1

abbrev pub services_met : LinkTallies → List NumberedService
services_met es = fold with_services [] es

-- the numbers of services, in order of their names
abbrev pub name_entry : Bor Text × ℕ → List ℕ × ℕ
name_entry e = (e.0.now, e.1)

abbrev pub with_name : List (List ℕ × ℕ) → NumberedService → List (List ℕ × ℕ)
with_name ns s = insert_entry text_cmp ns s.1 s.0

abbrev pub named : List NumberedService → List (List ℕ × ℕ)
named ss = fold with_name [] ss

abbrev pub numbers_by_name : LinkTallies → List ℕ
numbers_by_name es = map (λ (e : List ℕ × ℕ). e.1) (named (services_met es))

-- the first place of a number
abbrev pub rank_of : List ℕ → ℕ → Option ℕ
rank_of [] n = None
rank_of (k ∷ ks) n = cond (k == n) (Some 0) (option_map suc (rank_of ks n))

-- tallies by the ranks of their services
abbrev pub with_ranks : (ℕ → ℕ) → LinkTallies → PairNumbers × (PairTexts × ℕ) → LinkTallies
with_ranks rank rs e = insert_entry number_cmp rs (rank e.0.0, rank e.0.1) e.1

abbrev pub ranked : (ℕ → ℕ) → LinkTallies → LinkTallies
ranked rank es = fold (with_ranks rank) [] es

abbrev pub link_of : PairTexts × ℕ → Link
link_of e = record { parent = e.0.0; child = e.0.1; calls = e.1 }
