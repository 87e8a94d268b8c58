use Rattle.std.proofs.Common.{◌≡◌, ◌==◌, ◌∙◌, ◌∷◌, [], ℕ, ap, arith, get_or, subst, sym}
use Rattle.std.specs.List.{list_all}
use Rattle.std.proofs.lemmas.Bool.{OnTrue_at}
use Rattle.query_json.specs.declared.writing.trace.LentTrace.{LentTrace}
use Rattle.query_json.specs.LentTraces.{IsNumbered}
use Rattle.query_json.specs.NamedProcesses.{first_named}
use Rattle.query_json.proofs.ProcessPlaces.{numbered, one_numbered, zeros}
use Rattle.query_json.proofs.writing.trace.lent_item.Goals as goal

pub returns-then-are_zero-clause-writable : goal.returns-then-are_zero-clause-writable
returns-then-are_zero-clause-writable c =
    let ss = c.in_ok-spans.spans in
    let places = c.in_ok-places.places.items in
    let ps = c.in_ok-places.processes.items in
    let known : IsNumbered ss places ps =
    numbered ss places ps c.in_ok-places.ensures.places c.in_ok-places.ensures.processes
    (omega (arith, c.in_ok-check_count.ensures, c.len.ensures, c.len-2.ensures, c.in_ok-places.processes.ok.0)) in
    let alone : ps ≡ first_named ∷ [] = sym c.deref.ensures.value ∙ OnTrue_at c.if-is_first_alone.true c.is_first_alone.ensures in
    let none : (k : ℕ) → get_or places k 0 ≡ 0 =
    zeros places (ap (list_all (λ p. p == 0)) (sym c.deref-then-is_first_alone.ensures.value) ∙ sym c.are_zero.ensures ∙ c.if-are_zero.true) in
    one_numbered ss places ps known alone none

pub returns-clause-writable : goal.returns-clause-writable
returns-clause-writable c =
    let ss = c.in_ok-spans.spans in
    let places = c.in_ok-places.places.items in
    let ps = c.in_ok-places.processes.items in
    let known : IsNumbered ss places ps =
    numbered ss places ps c.in_ok-places.ensures.places c.in_ok-places.ensures.processes
    (omega (arith, c.in_ok-check_count.ensures, c.len.ensures, c.len-2.ensures, c.in_ok-places.processes.ok.0)) in
    subst (λ (t : LentTrace). IsNumbered t.spans t.places.items t.processes.items) (sym c.in_ok-new.ensures.ok) known
