use Rattle.std.proofs.Common.{◌≡◌, ◌∙◌, ◌++◌, ◌∷◌, [], List, ap, subst, sym, length, arith}
use Rattle.trace_model.specs.TakenSpans.{Taken}
use Rattle.collected_traces.specs.TraceParts.{cut_at, AreStarts}
use Rattle.collected_traces.proofs.TraceParts.{cut_begin, starts_begin}
use Rattle.collected_traces.proofs.taken.TakenTraces.begin.Goals as goal

pub invariant_of-self-2 : goal.invariant_of-self-2
invariant_of-self-2 c =
    let was = c.self.inside in
    let start : c.len-start.result ≡ length was.spans.items = omega arith in
    let put = c.in_ok-push.ensures.items ∙ ap (λ n. was.starts.items ++ n ∷ []) start in
    subst (AreStarts (length was.spans.items)) (sym put) (starts_begin (length was.spans.items) was.starts.items c.self.invariant)

pub returns : goal.returns
returns c =
    let was = c.self.inside in
    let start : c.len-start.result ≡ length was.spans.items = omega arith in
    let put = c.in_ok-push.ensures.items ∙ ap (λ n. was.starts.items ++ n ∷ []) start in
    ap (cut_at was.spans.items) put ∙ cut_begin was.spans.items was.starts.items ∙ ap (λ (ts : List (List Taken)). ts ++ [] ∷ []) c.self.view_is
