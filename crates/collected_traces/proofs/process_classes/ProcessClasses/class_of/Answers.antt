use Rattle.std.proofs.Common.{◌≡◌, subst, Option, ℕ}
use Rattle.std.specs.Prelude.{IfSome}
use Rattle.collected_traces.proofs.process_classes.ProcessClasses.class_of.Goals as goal

pub returns-in-Some-clause-class : goal.returns-in-Some-clause-class
returns-in-Some-clause-class c = λ process_of own leads.
    subst (λ (o : Option ℕ). IfSome o (λ class. process_of class ≡ process_of c.args.key)) c.in-Some.is (c.last_class.ensures process_of leads)

pub returns-clause-leads : goal.returns-clause-leads
returns-clause-leads c = λ process_of own leads.
    let next = c.in_ok-class.ensures.leads process_of own leads in
    record {
      by_process = next.by_process;
      by_key = next.by_key;
      last = c.in_ok-class.ensures.class process_of own leads;
    }
