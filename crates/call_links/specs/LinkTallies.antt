-- Calls counted by the numbers of their services.
use Rattle.std.specs.Prelude.{ℕ, ◌+◌, Bool, ◌&&◌, ◌==◌, List, [], map, fold, count_by, option_map, unwrap_or}
use Rattle.std.specs.BTreeMap.{insert_entry, is_at}
use Rattle.std.specs.Map.{lookup}
use Rattle.std.specs.Ordering.{nat_cmp, ordering_then}
use Rattle.std.specs.declared.cmp.Ordering.{Ordering}
use Rattle.jaeger_model.specs.Texts.{sorted_set}
use Rattle.trace_model.specs.TakenSpans.{Taken}
use Rattle.call_links.specs.declared.tally.LinkTally.{LinkTally}
use Rattle.call_links.specs.NumberedCalls.{NumberedCall, numbers_called, texts_called, calls_in_trace, text_in}

abbrev pub PairNumbers : Type 0
PairNumbers = ℕ × ℕ

abbrev pub number_cmp : PairNumbers → PairNumbers → Ordering
number_cmp a b = ordering_then (nat_cmp a.0 b.0) (nat_cmp a.1 b.1)

abbrev pub same_numbers : PairNumbers → PairNumbers → Bool
same_numbers a b = (a.0 == b.0) && (a.1 == b.1)

-- the number of pairs that are this one
abbrev pub times_called : List PairNumbers → PairNumbers → ℕ
times_called ns k = count_by (same_numbers k) ns

abbrev pub PairTexts : Type 0
PairTexts = List ℕ × List ℕ

-- each pair of numbers with a call, its texts and its count, in order of the numbers
abbrev pub LinkTallies : Type 0
LinkTallies = List (PairNumbers × (PairTexts × ℕ))

abbrev pub tally_seen : PairNumbers × LinkTally → PairNumbers × (PairTexts × ℕ)
tally_seen e = (e.0, ((text_in e.1.caller.span, text_in e.1.callee.span), e.1.calls))

abbrev pub tallies_seen : List (PairNumbers × LinkTally) → LinkTallies
tallies_seen es = map tally_seen es

-- ---- one call more
abbrev pub so_far : LinkTallies → PairNumbers → ℕ
so_far es k = unwrap_or (option_map (λ (t : PairTexts × ℕ). t.1) (lookup (is_at (number_cmp k)) es)) 0

abbrev pub with_call : LinkTallies → NumberedCall → LinkTallies
with_call es c = insert_entry number_cmp es (numbers_called c) (texts_called c, so_far es (numbers_called c) + 1)

-- ---- the calls of traces
abbrev pub with_trace : LinkTallies → List Taken → LinkTallies
with_trace es t = fold with_call es (calls_in_trace t)

abbrev pub tallied : List (List Taken) → LinkTallies
tallied ts = fold with_trace [] ts

-- ---- the links, if the numbers represent these texts
abbrev pub texts_for : (ℕ → List ℕ) → PairNumbers → PairTexts
texts_for text k = (text k.0, text k.1)

abbrev pub tally_of : (ℕ → List ℕ) → List PairNumbers → LinkTallies
tally_of text ns = map (λ k. (k, (texts_for text k, times_called ns k))) (sorted_set number_cmp ns)
