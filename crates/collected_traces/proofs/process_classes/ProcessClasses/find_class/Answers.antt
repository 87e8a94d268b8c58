use Rattle.std.proofs.Common.{◌∙◌, sym, nat_cmp}
use Rattle.std.specs.BTreeMap.{get}
use Rattle.collected_traces.proofs.KeyClasses.{key_put}
use Rattle.collected_traces.proofs.process_classes.ProcessClasses.find_class.Goals as goal

pub returns-in-Some-clause-class : goal.returns-in-Some-clause-class
returns-in-Some-clause-class c = λ process_of own leads. leads.by_key c.args.key c.in-Some.class (sym c.known.ensures ∙ c.in-Some.is)

pub returns-clause-leads : goal.returns-clause-leads
returns-clause-leads c = λ process_of own leads.
    let next = c.in_ok-class.ensures.leads process_of own leads in
    let same = c.in_ok-class.ensures.class process_of own leads in
    record {
      by_process = next.by_process;
      by_key = λ n class e.
          key_put process_of c.args.key c.in_ok-class.class same n (get nat_cmp c.class_of_process.new.self.by_key n) class
          (next.by_key n class) (sym (c.in_ok-keep.ensures.kept n) ∙ e);
      last = next.last;
    }

pub returns-in_err-keep-clause-leads : goal.returns-in_err-keep-clause-leads
returns-in_err-keep-clause-leads c = λ process_of own leads.
    let next = c.in_ok-class.ensures.leads process_of own leads in
    record {
      by_process = next.by_process;
      by_key = λ n class e. next.by_key n class (sym (c.in_err-keep.ensures.err n) ∙ e);
      last = next.last;
    }
