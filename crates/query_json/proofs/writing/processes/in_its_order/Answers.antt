use Rattle.std.proofs.Common.{◌++◌, ◌∷◌, ◌∙◌, [], List, ap, sym, map, append_assoc, append-nil}
use Rattle.query_json.specs.declared.writing.processes.NamedProcess.{NamedProcess}
use Rattle.query_json.proofs.NamedProcesses.{Entry}
use Rattle.query_json.proofs.writing.processes.in_its_order.Goals as goal

pub loop-process-preserved : goal.loop-process-preserved
loop-process-preserved c =
    let l = c.loop-process in
    let left = map (λ e. e.1) c.next.new.self in
    ap (λ (ps : List NamedProcess). ps ++ left) c.in_ok-push.ensures.items ∙ append_assoc l.order.items (c.in-Some.process.now ∷ []) left
    ∙ ap (λ (es : List Entry). l.order.items ++ map (λ e. e.1) es) (sym c.in-Some.ensures.steps) ∙ l.invariant

pub returns : goal.returns
returns c =
    let l = c.loop-process in
    sym (append-nil l.order.items) ∙ ap (λ (es : List Entry). l.order.items ++ map (λ e. e.1) es) (sym c.in-None.ensures.steps.0) ∙ l.invariant
