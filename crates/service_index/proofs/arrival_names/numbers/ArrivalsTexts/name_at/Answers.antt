use Rattle.std.proofs.Common.{◌∙◌, ◌<◌, List, length, map, ap, sym, subst, arith}
use Rattle.std.specs.Arc.{arc_value}
use Rattle.std.specs.Global.{Global}
use Rattle.trace_model.specs.declared.entry.Entry.{Entry}
use Rattle.trace_model.specs.Histories.{arrivals}
use Rattle.service_index.specs.KeptNames.{reported_at}
use Rattle.service_index.proofs.ArrivalReports.{came_in, service_named, name_named}
use Rattle.service_index.proofs.KeptKinds.{as_many_kinds, kind_is}
use Rattle.service_index.proofs.arrival_names.numbers.ArrivalsTexts.name_at.Goals as goal

pub returns : goal.returns
returns c =
    let a = c.self.inside in
    let h : List Entry = map (arc_value {X = Entry} {Z = Global}) a.entries.now in
    let asked : c.args.n < length (arrivals h) = subst (λ (x : List Entry). c.args.n < length (arrivals x)) (sym c.self.view_is) c.requires in
    let e : Entry = c.deref.result.now in
    let came = came_in a.entries.now a.entry_of.now a.firsts.now c.args.n c.index-self-entry_index.result e c.self.invariant.0 asked c.deref.ensures in
    let below = came.0 in
    let many = c.self.invariant.0.as_many in
    let has = as_many_kinds h a.kinds.now c.self.invariant.1 in
    let kinds : c.args.n < length a.kinds.now = omega arith in
    record {
      service =
          c.service.ensures ∙ sym (service_named h a.entry_of.now a.firsts.now c.args.n c.self.invariant.0 below e came.1)
          ∙ ap (λ (x : List Entry). (reported_at x c.args.n).service) c.self.view_is;
      operation =
          c.operation.ensures ∙ sym (name_named h a.entry_of.now a.firsts.now c.args.n c.self.invariant.0 below e came.1)
          ∙ ap (λ (x : List Entry). (reported_at x c.args.n).operation.name) c.self.view_is;
      kind =
          c.text.ensures ∙ kind_is h a.kinds.now c.args.n _ c.self.invariant.1 kinds
          ∙ ap (λ (x : List Entry). (reported_at x c.args.n).operation.kind) c.self.view_is;
    }
