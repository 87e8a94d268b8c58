use Rattle.std.proofs.Common.{◌≡◌, ◌∙◌, IfOk, List, ap, map, string_bytes, subst}
use Rattle.serde_json.specs.View.{view}
use Rattle.trace_model.specs.declared.answer.Shown.{Shown}
use Rattle.answer_trees.specs.ProcessNumbers.{first_process}
use Rattle.answer_trees.specs.Trees.{list, processes_of, processes_tree, span_tree, trace_id_text, trace_object}
use Rattle.answer_trees.proofs.trace.ShownTraceTree.to_json.Goals as goal

pub returns : goal.returns
returns c =
    let ss = c.args.self.now in
    let slice : c.as_slice-shown.result.now ≡ ss = c.as_slice-shown.ensures in
    let whole : map first_process c.deref-3.result.now ≡ processes_of ss = ap (map first_process) c.deref-3.ensures.value ∙ c.in_ok-places.ensures.processes in
    let processes : view c.in_ok-processes.processes ≡ processes_tree (processes_of ss) = c.in_ok-processes.ensures {u = tt} ∙ ap processes_tree whole in
    let spans : view c.in_ok-spans.spans ≡ list (map (span_tree (processes_of ss)) ss) =
    c.in_ok-spans.ensures ∙ ap (λ (shown : List Shown). list (map (span_tree (processes_of shown)) shown)) slice in
    let id : string_bytes c.in_ok-id.id ≡ trace_id_text ss = c.in_ok-id.ensures {u = tt} ∙ ap trace_id_text slice in
    subst (λ d. IfOk c.trace_json.result (λ v. view v ≡ d)) (λ k. trace_object (processes k) (spans k) (id k)) c.trace_json.ensures
