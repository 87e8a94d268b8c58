use Rattle.std.proofs.Common.{◌≡◌, ◌∙◌, ℕ, ◌<◌, nat_lt, List, length, map, get_or, ap, sym, subst, arith}
use Rattle.std.specs.Prelude.{Vec}
use Rattle.std.specs.Global.{Global}
use Rattle.std.proofs.lemmas.Bool.{le-ltb}
use Rattle.std.proofs.lemmas.Result.{IfOk-weaker}
use Rattle.jaeger_model.specs.Texts.{sorted_set}
use Rattle.trace_model.specs.Names.{operation_cmp}
use Rattle.service_index.specs.ListedNames.{operations_of}
use Rattle.service_index.specs.Labels.{Names}
use Rattle.service_index.specs.Probes.{AreNumbersBelow}
use Rattle.service_index.specs.Indexes.{Index, listing_by, owners, operations_at, IsChain, IsNewest, LeadsBack}
use Rattle.service_index.proofs.LinkedOperations.{service_known, operations_none, operations_are, newest_of, leads_back}
use Rattle.service_index.proofs.LabelProbes.{no_numbers}
use Rattle.service_index.proofs.index.ServiceIndex.one_arrival_of_each_operation.Goals as goal

pub returns-then-row-services-clause-held : goal.returns-then-row-services-clause-held
returns-then-row-services-clause-held g c =
    subst (AreNumbersBelow (g.T.Texts.names c.args.texts.now).count) (sym c.new.ensures.items) (no_numbers (g.T.Texts.names c.args.texts.now).count)

pub returns-then-row-services-clause-operations : goal.returns-then-row-services-clause-operations
returns-then-row-services-clause-operations g c =
    let names = g.T.Texts.names c.args.texts.now in
    let index = c.args.self.now in
    let rows : c.services.result ≡ length index.services.numbers =
    c.services.ensures ∙ c.self.invariant.1.newest_links ∙ ap (λ (i : Index). length i.services.numbers) c.self.view_is in
    let row = c.service_row-row.ensures in
    let none = sym (service_known names index c.args.service.now c.requires) ∙ ap (λ r. nat_lt r (length index.services.numbers)) (sym row)
    ∙ le-ltb c.service_row-row.result (length index.services.numbers) (omega (arith, c.if-row-services.true)) in
    ap (λ (ns : List ℕ). sorted_set operation_cmp (operations_at names ns)) c.new.ensures.items
    ∙ operations_none c.args.service.now (listing_by names index) none

pub numbers_along-requires-clause-falls : goal.numbers_along-requires-clause-falls
numbers_along-requires-clause-falls g c =
    let names = g.T.Texts.names c.args.texts.now in
    let index = c.args.self.now in
    let numbers = c.numbers.ensures ∙ ap (λ (i : Index). i.operations.numbers) c.self.view_is in
    let earlier = c.earlier_links.ensures ∙ ap (λ (i : Index). i.earlier) c.self.view_is in
    subst (λ (ns : List ℕ). LeadsBack (length ns) c.earlier_links.result.now) (sym numbers)
    (subst (LeadsBack (length index.operations.numbers)) (sym earlier) (leads_back names index.operations.numbers index.earlier c.requires.linked.chain))

pub returns-clause-held : goal.returns-clause-held
returns-clause-held g c =
    let names = g.T.Texts.names c.args.texts.now in
    let numbers = c.numbers.ensures ∙ ap (λ (i : Index). i.operations.numbers) c.self.view_is in
    let held = subst (AreNumbersBelow names.count) (sym numbers) c.requires.operations.numbers in
    IfOk-weaker c.numbers_along.result (λ (v : Vec ℕ Global). (count : ℕ) → AreNumbersBelow count c.numbers.result.now → AreNumbersBelow count v.items)
    (λ (v : Vec ℕ Global). AreNumbersBelow names.count v.items)
    (λ v is. is names.count held) c.numbers_along.ensures.held

pub returns-clause-operations : goal.returns-clause-operations
returns-clause-operations g c =
    let names = g.T.Texts.names c.args.texts.now in
    let index = c.args.self.now in
    let s = c.args.service.now in
    let rows : c.services.result ≡ length index.services.numbers =
    c.services.ensures ∙ c.self.invariant.1.newest_links ∙ ap (λ (i : Index). length i.services.numbers) c.self.view_is in
    let below : c.service_row-row.result < length index.services.numbers = omega (arith, c.if-row-services.false) in
    let numbers = c.numbers.ensures ∙ ap (λ (i : Index). i.operations.numbers) c.self.view_is in
    let earlier = c.earlier_links.ensures ∙ ap (λ (i : Index). i.earlier) c.self.view_is in
    let newest = c.newest_link.ensures ∙ ap (λ (i : Index). get_or i.newest c.service_row-row.result 0) c.self.view_is in
    let h = newest_of names index s c.service_row-row.result _ c.numbers.result.now c.requires c.service_row-row.ensures below numbers newest in
    let chain : IsChain (owners names c.numbers.result.now) c.earlier_links.result.now =
    subst (λ (ns : List ℕ). IsChain (owners names ns) c.earlier_links.result.now) (sym numbers)
    (subst (IsChain (owners names index.operations.numbers)) (sym earlier) c.requires.linked.chain) in
    IfOk-weaker c.numbers_along.result
    (λ (v : Vec ℕ Global). (names : Names) → IsChain (owners names c.numbers.result.now) c.earlier_links.result.now → (service : List ℕ)
    → IsNewest (owners names c.numbers.result.now) service _ (length c.numbers.result.now)
    → sorted_set operation_cmp (operations_at names v.items) ≡ sorted_set operation_cmp (operations_of service (map names.at c.numbers.result.now)))
    (λ (v : Vec ℕ Global). sorted_set operation_cmp (operations_at names v.items) ≡ sorted_set operation_cmp (operations_of s (listing_by names index)))
    (λ v is. is names chain s h ∙ ap (λ ns. sorted_set operation_cmp (operations_of s (map names.at ns))) numbers
    ∙ operations_are s (map names.at index.operations.numbers)) c.numbers_along.ensures.along
