use Rattle.std.proofs.Common.{◌≡◌, ◌∙◌, ◌∷◌, ◌+◌, [], ap, subst, sym, length, length-append}
use Rattle.collected_traces.specs.TraceParts.{cut_at, AreStarts}
use Rattle.collected_traces.proofs.TraceParts.{cut_push, starts_push}
use Rattle.collected_traces.proofs.taken.TakenTraces.push.Goals as goal

pub invariant_of-self-2 : goal.invariant_of-self-2
invariant_of-self-2 c =
    let was = c.self.inside in
    let more : length c.push_tightly.new.list.items ≡ length was.spans.items + 1 =
    ap length c.in_ok-push_tightly.ensures.items ∙ length-append was.spans.items (c.args.span ∷ []) in
    subst (λ n. AreStarts n was.starts.items) (sym more) (starts_push (length was.spans.items) was.starts.items c.self.invariant)

pub returns : goal.returns
returns c = λ ts t is.
    let was = c.self.inside in
    ap (λ xs. cut_at xs was.starts.items) c.in_ok-push_tightly.ensures.items
    ∙ cut_push was.spans.items c.args.span was.starts.items c.self.invariant ts t (c.self.view_is ∙ is)
