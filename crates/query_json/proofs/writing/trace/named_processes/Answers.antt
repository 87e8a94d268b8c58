use Rattle.std.proofs.Common.{◌≡◌, ◌∙◌, List, ap, map, subst, sym}
use Rattle.std.specs.Prelude.{All}
use Rattle.jaeger_model.specs.declared.batch.Process.{Process}
use Rattle.answer_trees.specs.declared.naming.FirstSpan.{FirstSpan}
use Rattle.query_json.specs.NamedProcesses.{AreNamed}
use Rattle.answer_trees.specs.ProcessNumbers.{IsFirst, first_process}
use Rattle.answer_trees.specs.Trees.{processes_of}
use Rattle.query_json.proofs.writing.trace.named_processes.Goals as goal

pub returns-clause-processes : goal.returns-clause-processes
returns-clause-processes c =
    let ss = c.args.spans.now in
    let value = c.deref.ensures.value in
    let all = subst (λ (fs : List FirstSpan). All (IsFirst ss) fs) (sym value) c.in_ok-places.ensures.firsts in
    let whole : map first_process c.deref.result.now ≡ processes_of ss = ap (map first_process) value ∙ c.in_ok-places.ensures.processes in
    subst (λ (ps : List Process). AreNamed ss ps c.in_ok-named.named.items) whole (c.in_ok-named.ensures ss all)
