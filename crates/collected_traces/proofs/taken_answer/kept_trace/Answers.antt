use Rattle.std.proofs.Common.{◌∙◌, ℕ, ap, Option}
use Rattle.jaeger_model.specs.declared.batch.Process.{Process}
use Rattle.trace_model.specs.BorrowedSpans.{placed_by_its_entry}
use Rattle.collected_traces.specs.ProcessClasses.{Leads}
use Rattle.collected_traces.specs.TakenTraces.{HaveProcesses}
use Rattle.collected_traces.proofs.TakenSpans.{has_process, kept_more, kept_share}
use Rattle.collected_traces.proofs.taken_answer.kept_trace.Goals as goal

pub loop-span-preserved : goal.loop-span-preserved
loop-span-preserved c =
    let xs = c.args.spans.now in
    let i = c.loop-span.span-index in
    let x = c.span-item.result in
    let le = c.loop-span-test.true in
    let old = c.args.classes.now in
    let invariant = c.loop-span.invariant in
    let own = λ (process_of : ℕ → Option Process) (has : HaveProcesses process_of xs). has_process xs i x le c.span-item.is process_of has in
    let key = λ (process_of : ℕ → Option Process) (has : HaveProcesses process_of xs) (known : Leads process_of old).
    c.in_ok-key.ensures.key process_of (own process_of has) (invariant.leads process_of has known) in
    let leads = λ (process_of : ℕ → Option Process) (has : HaveProcesses process_of xs) (known : Leads process_of old).
    c.in_ok-key.ensures.leads process_of (own process_of has) (invariant.leads process_of has known) in
    record {
      kept =
          kept_more old xs i x le c.span-item.is c.loop-span.kept.items c.push.new.self.items c.in_ok-one.one (placed_by_its_entry c.reported-seen.result)
          invariant.kept c.in_ok-push.ensures.items c.reported-seen.ensures c.in_ok-one.ensures.span
          (λ process_of has known. ap process_of c.in_ok-one.ensures.number ∙ key process_of has known);
      leads = leads;
    }

pub returns-clause-shared : goal.returns-clause-shared
returns-clause-shared c = λ process_of has known. kept_share _ _ process_of (c.loop-span.invariant.kept.processes process_of has known)

pub returns-clause-leads : goal.returns-clause-leads
returns-clause-leads c = λ process_of has known. c.loop-span.invariant.leads process_of has known
