use Rattle.std.proofs.Common.{◌∙◌, ap, ℕ, List, length}
use Rattle.std.specs.List.{list_any}
use Rattle.std.specs.Ordering.{eq_by_cmp, nat_cmp}
use Rattle.jaeger_model.specs.Texts.{text_cmp}
use Rattle.find_traces.specs.RequestedPairs.{same_pair, key_bits, may_be_number}
use Rattle.find_traces.proofs.prepared.PreparedSearch.new.Goals as goal

pub invariant_of-result : goal.invariant_of-result
invariant_of-result c = record {
  keys_requested = λ k. c.in_ok-keys.ensures k ∙ ap (λ ts. list_any (λ (a : List ℕ × List ℕ). eq_by_cmp text_cmp k a.0) ts) c.as_slice-requested.ensures;
  bits_set = c.key_bits.ensures ∙ ap key_bits c.as_slice-requested.ensures;
  lengths_requested =
      λ n. c.in_ok-lengths.ensures n ∙ ap (λ ts. list_any (λ (a : List ℕ × List ℕ). eq_by_cmp nat_cmp n (length a.1)) ts) c.as_slice-requested.ensures;
  number_requested = c.requests_number.ensures ∙ ap (list_any (λ (a : List ℕ × List ℕ). may_be_number a.1)) c.as_slice-requested.ensures;
  pairs_requested = λ a. c.in_ok-pairs.ensures a ∙ ap (λ ts. list_any (same_pair a) ts) c.as_slice-requested.ensures;
}
