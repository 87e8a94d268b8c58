use Rattle.std.proofs.Common.{◌∙◌, Some, ap, sym, cond}
use Rattle.std.specs.BTreeMap.{is_at}
use Rattle.std.specs.Map.{lookup}
use Rattle.std.specs.Ordering.{on}
use Rattle.jaeger_model.specs.declared.process_order.ByContent.{ByContent}
use Rattle.jaeger_model.specs.ProcessOrder.{process_cmp}
use Rattle.jaeger_model.specs.ProcessOrderLaws.{process_ties}
use Rattle.collected_traces.specs.ProcessClasses.{class_of_process}
use Rattle.collected_traces.proofs.KeyClasses.{process_put}
use Rattle.collected_traces.proofs.process_classes.ProcessClasses.class_of_process.Goals as goal

pub returns-in-Some-clause-class : goal.returns-in-Some-clause-class
returns-in-Some-clause-class c = λ process_of own leads.
    leads.by_process (record { 0 = c.args.process }) c.in-Some.class (sym c.get.ensures.value ∙ sym c.copied.ensures ∙ c.in-Some.is) ∙ sym own

pub returns-clause-leads : goal.returns-clause-leads
returns-clause-leads c = λ process_of own leads. record {
  by_process = λ k class e.
      process_put process_of c.args.process.now c.args.key own k.0.now (class_of_process c.args.self.now k) class (leads.by_process k class)
      (ap (λ t. cond t (Some c.args.key) (class_of_process c.args.self.now k)) (process_ties c.args.process.now k.0.now)
      ∙ sym (c.in_ok-insert.ensures.updates.0 k) ∙ e);
  by_key = leads.by_key;
  last = leads.last;
}

pub returns-in_err-insert-clause-leads : goal.returns-in_err-insert-clause-leads
returns-in_err-insert-clause-leads c = λ process_of own leads. record {
  by_process = λ k class e.
      leads.by_process k class (sym (ap (lookup (is_at (on (λ (b : ByContent). b.0.now) process_cmp k))) c.in_err-insert.ensures.err) ∙ e);
  by_key = leads.by_key;
  last = leads.last;
}
