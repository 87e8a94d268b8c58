use Rattle.std.proofs.Common.{◌≡◌, true, false, ap, ◌∙◌, refl, rules, tests, eqb-true}
use Rattle.std.specs.Prelude.{Option, None, List, find, ◌==◌, if◌then◌else◌}
use Rattle.std.proofs.lemmas.Iterator.{YieldsList-from_slice}
use Rattle.std.proofs.lemmas.Iterator.Search.{find_from_yields_List}
use Rattle.jaeger_model.specs.declared.ids.SpanId.{SpanId}
use Rattle.jaeger_model.specs.declared.placed.Placed.{Placed}
use Rattle.trace_model.specs.ServiceLinks.{has_id}
use Rattle.plain_store.proofs.links.parent_in.Goals as goal

abbrev found_by : List Placed → SpanId → Option Placed
found_by trace id = if id.0 == 0 then None else find (has_id id) trace

by_id : (trace : List Placed) (id : SpanId) (r : Option Placed) → (id.0 ≡ 0 → ⊥) → r ≡ find (has_id id) trace → r ≡ found_by trace id
by_id trace id r some e = elim (id.0 == 0) as (λ b. (id.0 == 0) ≡ b → r ≡ (if b then None else find (has_id id) trace)) [
  | true ↦ λ z. absurd (some (eqb-true id.0 0 z))
  | false ↦ λ z. e
] refl

pub returns : goal.returns
returns c =
    let found = find_from_yields_List (has_id c.parent_of-parent.result) _ _ c.find.result c.find.ensures.ran (YieldsList-from_slice c.args.trace.now cc)
    (λ x b q k. search (rules, tests)) in
    by_id c.args.trace.now c.parent_of-parent.result _ c.if-parent-eq0.false found ∙ ap (found_by c.args.trace.now) c.parent_of-parent.ensures
