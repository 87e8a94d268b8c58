use Rattle.std.proofs.Common.{◌≡◌, ◌≤◌, ◌<◌, ◌∙◌, ◌++◌, ◌∷◌, [], ap, sym, subst, map, take, get_or, length, w64, to_z, of_z, List, ℕ, ℤ, arith}
use Rattle.std.specs.Prelude.{filter, int_lt}
use Rattle.std.proofs.lemmas.Int.{to_z-of_z}
use Rattle.std.proofs.lemmas.List.{take_all, take_more, map_push}
use Rattle.trace_assembly.specs.AssembledRows.{spots_of}
use Rattle.journal_traces.proofs.SpansAtSpots.{no_id}
use Rattle.trace_ring.specs.FirstStarts.{positions_after}
use Rattle.journal_traces.proofs.LateTraces.{placed, within}
use Rattle.journal_traces.proofs.latest_candidates.spots_after.Goals as goal

pub spots_at-requires : goal.spots_at-requires
spots_at-requires c =
    let time : ℤ = to_z w64 (of_z w64 c.args.time) in
    let starts : List ℤ = c.args.starts.now.starts in
    let i = c.loop-index.index-index in
    let are : c.deref-index-items.result.now ≡ positions_after time starts = c.deref-index-items.ensures.value ∙ c.in_ok-indices.ensures in
    let below : i < length c.deref-index-items.result.now = let h = c.loop-index-test.true in omega arith in
    let here : get_or c.deref-index-items.result.now i 0 < length starts =
    subst (λ (ps : List ℕ). get_or ps i 0 < length starts) (sym are) (within time starts i (subst (λ (ps : List ℕ). i < length ps) are below)) in
    subst (λ n. get_or c.deref-index-items.result.now i 0 < n) c.requires here

pub loop-index-preserved : goal.loop-index-preserved
loop-index-preserved c =
    let f = spots_of c.args.assembly.now in
    let ids = c.args.assembly.now.newest.ids in
    let places = c.deref-index-items.result.now in
    let i = c.loop-index.index-index in
    let below : i < length places = let h = c.loop-index-test.true in omega arith in
    c.in_ok-push.ensures.items ∙ (λ j. c.loop-index.invariant j ++ c.spots_at.ensures j ∷ [])
    ∙ sym (ap (map (λ p. f (get_or ids p no_id))) (take_more places i 0 below) ∙ map_push (λ p. f (get_or ids p no_id)) (take i places) (get_or places i 0))

pub returns : goal.returns
returns c = λ start are.
    let f = spots_of c.args.assembly.now in
    let ids = c.args.assembly.now.newest.ids in
    let time : ℤ = to_z w64 (of_z w64 c.args.time) in
    let end : length c.deref-index-items.result.now ≤ c.loop-index.index-index = let h = c.loop-index-test.false in omega arith in
    c.loop-index.invariant ∙ ap (map (λ p. f (get_or ids p no_id)))
    (take_all c.loop-index.index-index c.deref-index-items.result.now end ∙ c.deref-index-items.ensures.value ∙ c.in_ok-indices.ensures
    ∙ ap (positions_after time) are)
    ∙ placed f start time ids ∙ (λ i. map f (filter (λ t. int_lt (to_z-of_z w64 c.args.time c.ranges.time i) (start t)) ids))
