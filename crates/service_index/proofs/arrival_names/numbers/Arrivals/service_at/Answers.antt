use Rattle.std.proofs.Common.{◌≡◌, ◌∙◌, ◌<◌, ℕ, List, length, map, get_or, refl, ap, sym, subst, arith}
use Rattle.std.specs.Prelude.{IfOk}
use Rattle.std.specs.Arc.{arc_value}
use Rattle.std.specs.Global.{Global}
use Rattle.trace_model.specs.declared.entry.Entry.{Entry}
use Rattle.trace_model.specs.Histories.{arrivals}
use Rattle.service_index.specs.KeptNames.{reported_at}
use Rattle.service_index.proofs.ArrivalReports.{came_in, service_named}
use Rattle.service_index.proofs.arrival_names.numbers.Arrivals.service_at.Goals as goal

pub bounds-self-inside-n : goal.bounds-self-inside-n
bounds-self-inside-n c =
    let many = c.self.invariant.0.as_many in
    let asked = subst (λ (x : List Entry). c.args.n < length (arrivals x)) (sym c.self.view_is) c.requires in
    omega arith

pub returns : goal.returns
returns c =
    let a = c.self.inside in
    let h : List Entry = map (arc_value {X = Entry} {Z = Global}) a.entries.now in
    let asked : c.args.n < length (arrivals h) = subst (λ (x : List Entry). c.args.n < length (arrivals x)) (sym c.self.view_is) c.requires in
    let r = c.index-self-entry_index.result in
    let k = get_or a.entry_of.now c.args.n 0 in
    let e : Entry = arc_value (get_or a.entries.now k r) in
    let came = came_in a.entries.now a.entry_of.now a.firsts.now c.args.n r e c.self.invariant.0 asked refl in
    let is = sym (service_named h a.entry_of.now a.firsts.now c.args.n c.self.invariant.0 came.0 e came.1)
    ∙ ap (λ (x : List Entry). (reported_at x c.args.n).service) c.self.view_is in
    subst (λ (s : List ℕ). IfOk c.of_service.result (λ n. n ≡ s)) is c.of_service.ensures
