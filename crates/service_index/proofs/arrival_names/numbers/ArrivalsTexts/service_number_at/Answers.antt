use Rattle.std.proofs.Common.{◌∙◌, ◌<◌, List, length, map, get_or, ap, sym, subst, arith}
use Rattle.std.specs.Arc.{arc_value}
use Rattle.std.specs.Global.{Global}
use Rattle.trace_model.specs.declared.entry.Entry.{Entry}
use Rattle.trace_model.specs.Histories.{arrivals}
use Rattle.service_index.specs.ServicePlaces.{service_number_in}
use Rattle.service_index.specs.KeptNames.{reported_at}
use Rattle.service_index.proofs.ArrivalReports.{service_reported}
use Rattle.service_index.proofs.arrival_names.numbers.ArrivalsTexts.service_number_at.Goals as goal

pub bounds-self-inside-n : goal.bounds-self-inside-n
bounds-self-inside-n c =
    let many = c.self.invariant.0.as_many in
    let asked = subst (λ (x : List Entry). c.args.n < length (arrivals x)) (sym c.self.view_is) c.requires in
    omega arith

pub service_number_at-requires : goal.service_number_at-requires
service_number_at-requires c =
    let a = c.self.inside in
    let many = c.self.invariant.0.as_many in
    let asked = subst (λ (x : List Entry). c.args.n < length (arrivals x)) (sym c.self.view_is) c.requires in
    let below : c.args.n < length a.entry_of.now = omega arith in
    let entry = (c.self.invariant.0.at c.args.n below).entry in
    let service_numbers = c.self.invariant.2.services_numbered.as_many in
    omega arith

pub returns : goal.returns
returns c =
    let a = c.self.inside in
    let h : List Entry = map (arc_value {X = Entry} {Z = Global}) a.entries.now in
    let many = c.self.invariant.0.as_many in
    let asked = subst (λ (x : List Entry). c.args.n < length (arrivals x)) (sym c.self.view_is) c.requires in
    let below : c.args.n < length a.entry_of.now = omega arith in
    let entry = (c.self.invariant.0.at c.args.n below).entry in
    c.service_number_at.ensures ∙ c.self.invariant.2.services_numbered.each (get_or a.entry_of.now c.args.n 0) entry
    ∙ ap (service_number_in h) (sym (service_reported h a.entry_of.now a.firsts.now c.args.n c.self.invariant.0 below))
    ∙ ap (λ (x : List Entry). service_number_in x (reported_at x c.args.n).service) c.self.view_is
