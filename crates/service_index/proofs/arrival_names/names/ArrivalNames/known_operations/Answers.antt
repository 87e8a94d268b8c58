use Rattle.std.proofs.Common.{◌≡◌, ◌∙◌, ℕ, List, map, ap, sym}
use Rattle.std.specs.Prelude.{filter}
use Rattle.std.specs.Arc.{arc_value}
use Rattle.std.specs.Global.{Global}
use Rattle.std.proofs.lemmas.Result.{IfOk-weaker}
use Rattle.jaeger_model.specs.Texts.{sorted_set}
use Rattle.trace_model.specs.declared.entry.Entry.{Entry}
use Rattle.trace_model.specs.declared.answer.Operation.{Operation}
use Rattle.trace_model.specs.Histories.{arrivals}
use Rattle.trace_model.specs.Names.{operation_cmp, is_asked_kind}
use Rattle.service_index.specs.ListedNames.{Listed, listed_in, operations_of}
use Rattle.service_index.specs.ListedNames.{names_of as sorted_names}
use Rattle.service_index.specs.Indexes.{listing_by, own_operations, operations_at}
use Rattle.service_index.proofs.Arrivals.{names_listed, operations_listed}
use Rattle.service_index.proofs.LinkedOperations.{names_are}
use Rattle.service_index.specs.KeptNames.{KeptNames, names_of_arrivals, AreOperations}
use Rattle.service_index.proofs.arrival_names.names.ArrivalNames.known_operations.Goals as goal

pub returns : goal.returns
returns c =
    let h : List Entry = map (arc_value {X = Entry} {Z = Global}) c.args.entries.now in
    let s = c.args.service.now in
    let names = names_of_arrivals c.arrivals-arrivals.result in
    let found : List ℕ → List Listed → List Operation = own_operations in
    let listing = listing_by names c.self.inside.index in
    let all : found c.as_str.result.now listing ≡ found s (listed_in (arrivals h)) =
    ap (λ t. found t listing) c.as_str.ensures.value
    ∙ ap (λ (x : List Entry). found s (listing_by (names_of_arrivals x) c.self.inside.index)) c.arrivals-arrivals.ensures
    ∙ ap (λ (v : KeptNames). found s (listing_by (names_of_arrivals h) v.index)) c.self.view_is ∙ ap (found s) c.requires.kept.listed in
    let listed : sorted_set operation_cmp (operations_at names c.deref.result.now) ≡ found s (listed_in (arrivals h)) =
    ap (λ (ns : List ℕ). sorted_set operation_cmp (operations_at names ns)) c.deref.ensures.value ∙ c.in_ok-numbers.ensures.operations ∙ all in
    IfOk-weaker c.operations_of.result (λ known. known.items ≡ operations_at names c.deref.result.now) (λ known. AreOperations s (arrivals h) known.items)
    (λ known is. record {
      names =
          sym (names_are known.items) ∙ ap sorted_names (ap (sorted_set operation_cmp) is ∙ listed) ∙ names_are (operations_of s (listed_in (arrivals h)))
          ∙ names_listed s (arrivals h);
      operations = λ kind. ap (filter (is_asked_kind kind)) (ap (sorted_set operation_cmp) is ∙ listed) ∙ operations_listed s kind (arrivals h);
    }) c.operations_of.ensures
