use Rattle.std.proofs.Common.{◌≡◌, ◌∙◌, ap, sym, ℕ, List, false, Bool, true, refl, length}
use Rattle.std.specs.Prelude.{◌%◌, ◌==◌}
use Rattle.std.specs.Bool.{OnFalse}
use Rattle.std.specs.Int.{bit_at}
use Rattle.find_traces.specs.RequestedPairs.{requests_pair}
use Rattle.find_traces.proofs.RequestedPairs.{no_bit}
use Rattle.find_traces.proofs.prepared.PreparedSearch.may_request_key.Goals as goal

pub returns : goal.returns
returns c = by c.is_set.result refl
  where
    by : (b : Bool) → c.is_set.result ≡ b → OnFalse b ((t : List ℕ) → requests_pair c.args.self.now (c.args.key.now, t) ≡ false)
    by true e = tt
    by false e = λ t.
        let q = c.self.inside.query.now in
        let k = c.args.key.now in
        let unset = ap (λ bits. bit_at bits (length k % 64) == 1) (sym c.self.invariant.bits_set) ∙ sym c.is_set.ensures ∙ e in
        ap (λ f. requests_pair f (k, t)) (sym c.self.view_is) ∙ no_bit q.tags k t unset
