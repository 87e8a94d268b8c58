use Rattle.std.proofs.Common.{◌∙◌, ℕ, List, ap, sym, Some, None}
use Rattle.std.specs.Prelude.{if◌then◌else◌}
use Rattle.jaeger_model.specs.Tags.{tag_text}
use Rattle.find_traces.specs.RequestedPairs.{pair_of, if_requested}
use Rattle.find_traces.proofs.RequestedPairs.{requested_got, no_key}
use Rattle.find_traces.proofs.prepared.PreparedSearch.requested_pair.Goals as goal

pub returns-then-not-contains : goal.returns-then-not-contains
returns-then-not-contains c =
    let q = c.self.inside.query.now in
    let t = c.args.tag.now in
    let absent = no_key q.tags t.key (tag_text t.value) (sym (c.self.invariant.keys_requested t.key) ∙ sym c.contains.ensures ∙ c.if-not-contains.true) in
    ap (λ b. if b then Some (pair_of t) else None) (sym absent) ∙ ap (λ f. if_requested f (pair_of t)) c.self.view_is

pub returns-then-not-may_request : goal.returns-then-not-may_request
returns-then-not-may_request c = ap (λ b. if b then Some (pair_of c.args.tag.now) else None) (sym (c.if-not-may_request.ensures c.args.tag.now.key))

pub returns : goal.returns
returns c =
    let q = c.self.inside.query.now in
    let pair : List ℕ × List ℕ = (c.in_ok-clone.field-0, c.in_ok-text_of.field-0) in
    requested_got q c.self.inside.pairs.keys pair c.get.result c.self.invariant.pairs_requested c.get.ensures.variant c.get.ensures.same_key
    ∙ (λ i. if_requested q (c.in_ok-clone.ensures.cases i, c.in_ok-text_of.ensures i))
    ∙ ap (λ f. if_requested f (pair_of c.args.tag.now)) c.self.view_is
