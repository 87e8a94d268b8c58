use Rattle.std.proofs.Common.{◌≡◌, ◌∙◌, ℕ, List, [], ◌∷◌, ◌++◌, ap, sym, length, false, arith, map, append_assoc}
use Rattle.std.proofs.lemmas.Simd.{splat_is_map}
use Rattle.std.proofs.lemmas.List.{length-map, take-append-le, take_all, append-nil}
use Rattle.journal_traces.specs.MatchingSpans.{any_of, near_at, near_along}
use Rattle.journal_traces.proofs.TraceMarks.{marked_place}
use Rattle.journal_traces.proofs.search_candidates.marks_along.Goals as goal

pub loop-place-init : goal.loop-place-init
loop-place-init c = (
  [],
  sym c.into_iter-place-iterator.ensures.into_iter_gives,
  c.in_ok-marks.ensures.items_if_clones_equal (λ y e. e) ∙ splat_is_map c.ring-ring.result.now.ids c.len.result false (sym c.len.ensures.length),
)

pub mark_entry-requires-clause-once : goal.mark_entry-requires-clause-once
mark_entry-requires-clause-once c = c.len.ensures.once

pub mark_entry-requires-clause-size : goal.mark_entry-requires-clause-size
mark_entry-requires-clause-size c =
    ap length (c.deref_mut.ensures.value ∙ c.loop-place.invariant.2)
    ∙ length-map c.ring-ring.result.now.ids (any_of (near_along c.new-filter.result c.args.store.journal.now.held.entries c.loop-place.invariant.0))

pub loop-place-preserved : goal.loop-place-preserved
loop-place-preserved c =
    let h = c.args.store.journal.now.held.entries in
    let done = c.loop-place.invariant.0 in
    let place = c.in-Some.place in
    let marks = c.mark_entry.new.marks in
    let long : length marks ≡ c.loop-place.marks.len = c.mark_entry.auto.marks ∙ c.deref_mut.ensures.len in (
      done ++ place ∷ [],
      c.loop-place.invariant.1 ∙ ap (λ (r : List ℕ). done ++ r) c.in-Some.ensures.steps ∙ sym (append_assoc done (place ∷ []) c.next.new.self),
      take-append-le c.loop-place.marks.len marks _ (omega (arith, long)) ∙ take_all c.loop-place.marks.len marks (omega (arith, long))
          ∙ c.mark_entry.ensures (any_of (near_along c.new-filter.result h done)) (c.deref_mut.ensures.value ∙ c.loop-place.invariant.2)
          ∙ marked_place (near_at c.new-filter.result h) c.ring-ring.result.now.ids done place,
    )

pub returns : goal.returns
returns c =
    let done = c.loop-place.invariant.0 in
    let all : c.args.places ≡ done = c.loop-place.invariant.1 ∙ ap (λ (r : List ℕ). done ++ r) c.in-None.ensures.steps.0 ∙ append-nil done in
    c.loop-place.invariant.2
    ∙ (λ i. map (any_of (near_along (c.new-filter.ensures i) c.args.store.journal.now.held.entries (sym all i))) ((c.ring-ring.ensures i).ids))
