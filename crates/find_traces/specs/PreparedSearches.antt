-- The value of a prepared search.
use Rattle.std.specs.Prelude.{◌≡◌, ◌+◌, ◌&&◌, ℕ, Bool, List, length}
use Rattle.std.specs.List.{list_any}
use Rattle.std.specs.List.Sorted.{IsStrictlySortedBy}
use Rattle.std.specs.Ordering.{eq_by_cmp, nat_cmp}
use Rattle.jaeger_model.specs.declared.batch.Process.{Process}
use Rattle.jaeger_model.specs.Texts.{text_cmp}
use Rattle.trace_model.specs.declared.query.Find.{Find}
use Rattle.trace_model.specs.ServiceLinks.{call_cmp as pair_cmp}
use Rattle.find_traces.specs.RequestedPairs.{Judgement, requests_key, key_bits, requests_length, requests_number, requests_pair, requested_count, has_pair}
use Rattle.find_traces.specs.RequestedPairs.{is_in}

-- a search, with the keys that it requests, the bits for their lengths, the lengths of the requested texts, whether one
-- of them may be that of a number, and the requested pairs
pub record Preparation : Type 0 where
  pub query : Find
  pub keys : List (List ℕ)
  pub key_bits : ℕ
  pub lengths : List ℕ
  pub requests_number : Bool
  pub pairs : List (List ℕ × List ℕ)

-- all this is that of the search
pub record IsPrepared (p : Preparation) : Type 0 where
  pub keys_requested : (k : List ℕ) → list_any (eq_by_cmp text_cmp k) p.keys ≡ requests_key p.query k
  pub bits_set : p.key_bits ≡ key_bits p.query.tags
  pub lengths_requested : (n : ℕ) → list_any (eq_by_cmp nat_cmp n) p.lengths ≡ requests_length p.query n
  pub number_requested : p.requests_number ≡ requests_number p.query
  pub pairs_requested : (a : List ℕ × List ℕ) → is_in p.pairs a ≡ requests_pair p.query a

-- the requested pairs that the tags of a process have, and the number of the others
pub record IsJudged (q : Find) (o : Process) (met : List (List ℕ × List ℕ)) (missing : ℕ) : Type 0 where
  pub rising : IsStrictlySortedBy pair_cmp met
  pub requested : (a : List ℕ × List ℕ) → is_in met a ≡ (requests_pair q a && has_pair o.tags a)
  pub count : missing + length met ≡ requested_count q

-- the search judged the process so
pub record IsJudgementOf (q : Find) (o : Process) (j : Judgement) : Type 0 where
  pub query : j.query ≡ q
  pub pairs : IsJudged q o j.met j.missing
