use Rattle.std.proofs.Common.{◌≡◌, ◌∙◌, ap, map, List, subst, sym, ℕ, IfOk}
use Rattle.std.specs.List.Sorted.{IsPermutation}
use Rattle.jaeger_model.specs.declared.placed.Placed.{Placed}
use Rattle.trace_model.specs.declared.query.Find.{Find}
use Rattle.trace_model.specs.Searching.{cut, ranked_by_start}
use Rattle.find_traces.specs.declared.key.Key.{Key}
use Rattle.std.specs.declared.cmp.Reverse.{Reverse}
use Rattle.find_traces.specs.FoundIndices.{hits, start_of}
use Rattle.find_traces.specs.Keys.{reverse_key_of, reverse_key_index}
use Rattle.find_traces.proofs.SortedTraces.{sorted_hits}
use Rattle.find_traces.proofs.Found.{indices_of_hits}
use Rattle.find_traces.proofs.matched.find_all.Goals as goal

pub returns-clause-indices : goal.returns-clause-indices
returns-clause-indices g c =
    let q : Find = (g.T.Searched.query c.args.traces.now) in
    let ts : List (List Placed) = g.T.Searched.traces c.args.traces.now in
    let moved : IsPermutation (map reverse_key_of (hits q ts)) c.sort_unstable.new.self.items =
    subst (λ (l : List (Reverse Key)). IsPermutation l c.sort_unstable.new.self.items) c.in_ok-found.ensures.found c.sort_unstable.ensures.permutation in
    let sorted : c.deref.result.now ≡ map reverse_key_of (ranked_by_start start_of (hits q ts)) =
    c.deref.ensures.value ∙ sorted_hits q ts c.sort_unstable.new.self.items moved c.sort_unstable.ensures.sorted in
    let whole : map reverse_key_of (ranked_by_start start_of (hits q ts)) ≡ cut q.limit (map reverse_key_of (ranked_by_start start_of (hits q ts))) =
    ap (λ n. cut n (map reverse_key_of (ranked_by_start start_of (hits q ts)))) (sym c.requires) in
    subst (λ (l : List ℕ). IfOk c.indices_of.result (λ v. v.items ≡ l)) (ap (map reverse_key_index) (sorted ∙ whole) ∙ indices_of_hits q ts)
    c.indices_of.ensures
