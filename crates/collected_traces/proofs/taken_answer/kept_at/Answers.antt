use Rattle.std.proofs.Common.{sym, subst}
use Rattle.collected_traces.specs.TakenTraces.{HaveProcesses}
use Rattle.collected_traces.proofs.TakenSpans.{processes_got}
use Rattle.collected_traces.proofs.taken_answer.kept_at.Goals as goal

pub kept-requires : goal.kept-requires
kept-requires c =
    let process_of = c.requires.process_of in
    c.in_ok-trace.ensures.shared process_of
    (subst (HaveProcesses process_of) (sym c.trace-spans.ensures) (processes_got process_of c.args.traces.now c.args.index c.requires.each)) c.requires.leads

pub returns-clause-classes : goal.returns-clause-classes
returns-clause-classes c =
    let process_of = c.requires.process_of in
    record {
      process_of = process_of;
      each = c.requires.each;
      leads =
          c.in_ok-trace.ensures.leads process_of
          (subst (HaveProcesses process_of) (sym c.trace-spans.ensures) (processes_got process_of c.args.traces.now c.args.index c.requires.each))
          c.requires.leads;
    }
