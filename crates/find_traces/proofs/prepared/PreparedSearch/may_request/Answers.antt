use Rattle.std.proofs.Common.{◌≡◌, ◌∙◌, ap, sym, ℕ, List, false, Bool, true, refl}
use Rattle.std.specs.Bool.{OnFalse}
use Rattle.jaeger_model.specs.Tags.{tag_text}
use Rattle.find_traces.specs.RequestedPairs.{requests_pair, requests_length}
use Rattle.find_traces.proofs.RequestedPairs.{no_length, no_number}
use Rattle.find_traces.proofs.prepared.PreparedSearch.may_request.Goals as goal

pub returns-in-Some : goal.returns-in-Some
returns-in-Some c = by c.contains.result refl
  where
    by : (b : Bool) → c.contains.result ≡ b → OnFalse b ((k : List ℕ) → requests_pair c.args.self.now (k, tag_text c.args.value.now) ≡ false)
    by true e = tt
    by false e = λ k.
        let q = c.self.inside.query.now in
        let text = tag_text c.args.value.now in
        let none = no_length q.tags k text
        (ap (requests_length q) (sym c.in-Some.ensures) ∙ sym (c.self.invariant.lengths_requested c.in-Some.length) ∙ sym c.contains.ensures ∙ e) in
        ap (λ f. requests_pair f (k, text)) (sym c.self.view_is) ∙ none

pub returns-in-None : goal.returns-in-None
returns-in-None c = by c.self.inside.requests_number refl
  where
    by : (b : Bool) → c.self.inside.requests_number ≡ b → OnFalse b ((k : List ℕ) → requests_pair c.args.self.now (k, tag_text c.args.value.now) ≡ false)
    by true e = tt
    by false e = λ k.
        let q = c.self.inside.query.now in
        let text = tag_text c.args.value.now in
        ap (λ f. requests_pair f (k, text)) (sym c.self.view_is) ∙ no_number q.tags k text c.in-None.ensures (sym c.self.invariant.number_requested ∙ e)
