use Rattle.std.proofs.Common.{◌≡◌, ◌∙◌, ℕ, false, ◌||◌, List, [], map, None, ap, subst}
use Rattle.std.specs.Prelude.{codes, Option}
use Rattle.std.specs.Arc.{arc_value}
use Rattle.std.specs.Global.{Global}
use Rattle.trace_model.specs.declared.entry.Entry.{Entry}
use Rattle.trace_model.specs.Histories.{arrivals}
use Rattle.service_index.specs.ListedNames.{listed_in}
use Rattle.service_index.specs.Labels.{IsServiceNumberOf}
use Rattle.service_index.specs.Indexes.{listing_by, has_operation}
use Rattle.service_index.specs.OperationRows.{all_kinds as kinds}
use Rattle.service_index.proofs.LinkedOperations.{name_unknown}
use Rattle.service_index.specs.KeptNames.{KeptNames, names_of_arrivals}
use Rattle.service_index.proofs.AllKinds.{any_six, all_kinds}
use Rattle.service_index.proofs.KnownNames.{any_agree}
use Rattle.service_index.proofs.arrival_names.names.ArrivalNames.knows_operation.Goals as goal

pub returns-in_default : goal.returns-in_default
returns-in_default c =
    let h : List Entry = map (arc_value {X = Entry} {Z = Global}) c.args.entries.now in
    let s = c.args.service.now in
    let o = c.args.operation.now in
    let kept = c.requires.kept in
    let none = subst (λ (x : List Entry). IsServiceNumberOf (names_of_arrivals x) s None) c.arrivals-arrivals.ensures
    (subst (λ (r : Option ℕ). IsServiceNumberOf (names_of_arrivals c.arrivals-arrivals.result) s r) c.in_default.is c.service_number_of.ensures) in
    let missing : (k : List ℕ) → false ≡ has_operation s o k (listed_in (arrivals h)) = λ k.
    name_unknown (names_of_arrivals h) c.args.self.now.index (record { service = s; operation = record { name = o; kind = k } }) kept.indexed none
    ∙ ap (has_operation s o k) kept.listed in
    (λ i. missing [] i || (missing (codes "client") i
    || (missing (codes "server") i || (missing (codes "producer") i || (missing (codes "consumer") i || missing (codes "internal") i)))))
    ∙ all_kinds s o (arrivals h)

pub returns : goal.returns
returns c =
    let h : List Entry = map (arc_value {X = Entry} {Z = Global}) c.args.entries.now in
    let s = c.args.service.now in
    let o = c.args.operation.now in
    let is = subst (λ (r : Option ℕ). IsServiceNumberOf (names_of_arrivals c.arrivals-arrivals.result) s r) c.in-Some.is c.service_number_of.ensures in
    let reported : (k : List ℕ) → has_operation s o k (listing_by (names_of_arrivals c.arrivals-arrivals.result) c.self.inside.index)
    ≡ has_operation s o k (listed_in (arrivals h)) = λ k.
    ap (λ (x : List Entry). has_operation s o k (listing_by (names_of_arrivals x) c.self.inside.index)) c.arrivals-arrivals.ensures
    ∙ ap (λ (v : KeptNames). has_operation s o k (listing_by (names_of_arrivals h) v.index)) c.self.view_is
    ∙ ap (has_operation s o k) c.requires.kept.listed in
    c.knows_operation.ensures s is
    ∙ any_agree (λ (k : List ℕ). has_operation s o k (listing_by (names_of_arrivals c.arrivals-arrivals.result) c.self.inside.index))
    (λ (k : List ℕ). has_operation s o k (listed_in (arrivals h))) reported kinds
    ∙ any_six (λ (k : List ℕ). has_operation s o k (listed_in (arrivals h))) ∙ all_kinds s o (arrivals h)
