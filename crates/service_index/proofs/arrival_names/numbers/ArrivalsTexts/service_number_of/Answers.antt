use Rattle.std.proofs.Common.{◌∙◌, List, ℕ, ap, sym, subst}
use Rattle.std.specs.Prelude.{Option}
use Rattle.trace_model.specs.declared.entry.Entry.{Entry}
use Rattle.service_index.specs.Labels.{IsServiceNumberOf}
use Rattle.service_index.specs.ServicePlaces.{service_number_of}
use Rattle.service_index.specs.KeptNames.{names_of_arrivals}
use Rattle.service_index.proofs.ArrivalReports.{service_numbers_asked}
use Rattle.service_index.proofs.arrival_names.numbers.ArrivalsTexts.service_number_of.Goals as goal

pub returns : goal.returns
returns c =
    let s = c.args.service.now in
    subst (λ (r : Option ℕ). IsServiceNumberOf (names_of_arrivals c.args.self.now) s r)
    (sym (c.service_number_of.ensures ∙ ap (λ (x : List Entry). service_number_of x s) c.self.view_is))
    (service_numbers_asked c.args.self.now s)
