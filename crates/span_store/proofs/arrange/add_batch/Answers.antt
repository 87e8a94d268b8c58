use Rattle.std.proofs.Common.{rules, refl, ◌≡◌, ◌+◌, ◌<◌, ◌≤◌, ◌++◌, ◌∷◌, [], ◌∙◌, ap, sym, subst, arith, length, get_or, List}
use Rattle.jaeger_model.specs.declared.span.Span.{Span}
use Rattle.jaeger_model.specs.Parents.{placed}
use Rattle.trace_model.specs.Events.{came}
use Rattle.jaeger_model.proofs.ParentReferences.{trace_stays}
use Rattle.trace_assembly.specs.AssembledRows.{spots_of}
use Rattle.trace_assembly.specs.LocatedSpans.{located_upto}
use Rattle.trace_assembly.proofs.LocatedEvents.{upto_more}
use Rattle.trace_assembly.specs.declared.spot.Spot.{Spot as SpotValue}
use Rattle.span_store.specs.StoreIndexes.{FollowsEvents}
use Rattle.span_store.specs.ShownStarts.{AreFirst, IsRanged}
use Rattle.span_store.proofs.StartsFollowEvents.{first_none, start_stays, starts_came}
use Rattle.span_store.proofs.RingFollowsEvents.{upto_end, follows_none}
use Rattle.span_store.proofs.RangesFollowEvents.{ranged_none}
use Rattle.span_store.proofs.arrange.add_batch.Goals as goal

pub loop-span-init : goal.loop-span-init
loop-span-init c = record {
  index = refl;
  within = c.requires.within;
  follows = λ n h at f. follows_none n h c.args.batch.now c.args.shown.now.newest (spots_of c.args.shown.now) f;
  first = λ n h at f first. first_none n h c.args.batch.now c.args.starts.now.starts first;
  counted = c.requires.counted;
  ranged = λ n h at f ranged. ranged_none n h c.args.batch.now c.args.shown.now c.args.starts.now ranged;
  room = refl;
  used = omega arith;
}

pub overflow_add-index : goal.overflow_add-index
overflow_add-index c =
    let le : c.loop-span.span-index < length c.args.batch.now.spans =
    subst (λ (ss : List Span). c.loop-span.span-index < length ss) c.as_slice-span-items.ensures c.loop-span-test.true in
    let fits = c.requires.fits in
    let at = c.loop-span.invariant.index in
    search rules

pub loop-span-preserved : goal.loop-span-preserved
loop-span-preserved c =
    let s = c.span-item.result in
    let i = c.loop-span.span-index in
    let b = c.args.batch.now in
    let le : i < length b.spans = subst (λ (ss : List Span). i < length ss) c.as_slice-span-items.ensures c.loop-span-test.true in
    let is : s ≡ get_or b.spans i s = c.span-item.is ∙ ap (λ ss. get_or ss i s) c.as_slice-span-items.ensures in
    record {
      index = ap (λ k. k + 1) c.loop-span.invariant.index;
      within = c.add_span-row.ensures.within;
      follows = λ n h at f.
          subst (λ es. FollowsEvents n es c.add_span-row.new.shown.newest (spots_of c.add_span-row.new.shown))
          ((λ j. located_upto h b i ++ came (record { place = at j; index = c.loop-span.invariant.index j }, placed b s) ∷ [])
          ∙ sym (upto_more h b i s le (sym is)))
          (c.add_span-row.ensures.follows n (located_upto h b i) (placed b s) (c.loop-span.invariant.follows n h at f) (trace_stays s));
      first = λ n h at f first.
          let before = c.loop-span.invariant.follows n h at f in
          let spot : SpotValue = record { place = c.args.place; index = c.loop-span.index } in
          let after : FollowsEvents n (located_upto h b i ++ came (spot, placed b s) ∷ []) c.add_span-row.new.shown.newest (spots_of c.add_span-row.new.shown) =
          c.add_span-row.ensures.follows n (located_upto h b i) (placed b s) before (trace_stays s) in
          subst (λ es. AreFirst n es c.add_span-row.new.starts.starts)
          ((λ j. located_upto h b i ++ came (record { place = at j; index = c.loop-span.invariant.index j }, placed b s) ∷ [])
          ∙ sym (upto_more h b i s le (sym is)))
          (starts_came n (located_upto h b i) (spot, placed b s)
          s.start c.loop-span.shown.newest.ids c.add_span-row.new.shown.newest.ids c.loop-span.starts.starts c.add_span-row.new.starts.starts
          (start_stays b s) before.ring after.ring c.add_span-row.ensures.starts (c.loop-span.invariant.first n h at f first));
      counted = c.add_span-row.ensures.counted;
      ranged = λ n h at f ranged.
          let spot : SpotValue = record { place = c.args.place; index = c.loop-span.index } in
          subst (λ es. IsRanged n es c.add_span-row.new.shown c.add_span-row.new.starts)
          ((λ j. located_upto h b i ++ came (record { place = at j; index = c.loop-span.invariant.index j }, placed b s) ∷ [])
          ∙ sym (upto_more h b i s le (sym is)))
          (c.add_span-row.ensures.ranged n (located_upto h b i) (placed b s) (c.loop-span.invariant.follows n h at f)
          (c.loop-span.invariant.ranged n h at f ranged) (trace_stays s) (start_stays b s));
      room = c.add_span-row.ensures.room ∙ c.loop-span.invariant.room;
      used = let now = c.add_span-row.ensures.used in let then = c.loop-span.invariant.used in omega arith;
    }

pub returns-clause-follows : goal.returns-clause-follows
returns-clause-follows c = λ n h at f.
    let past : length c.args.batch.now.spans ≤ c.loop-span.span-index =
    subst (λ (ss : List Span). length ss ≤ c.loop-span.span-index) c.as_slice-span-items.ensures c.loop-span-test.false in
    subst (λ es. FollowsEvents n es c.loop-span.shown.newest (spots_of c.loop-span.shown)) (upto_end h c.args.batch.now c.loop-span.span-index past)
    (c.loop-span.invariant.follows n h at f)

pub returns-clause-first : goal.returns-clause-first
returns-clause-first c = λ n h at f first.
    let past : length c.args.batch.now.spans ≤ c.loop-span.span-index =
    subst (λ (ss : List Span). length ss ≤ c.loop-span.span-index) c.as_slice-span-items.ensures c.loop-span-test.false in
    subst (λ es. AreFirst n es c.loop-span.starts.starts) (upto_end h c.args.batch.now c.loop-span.span-index past) (c.loop-span.invariant.first n h at f first)

pub add_span-row-requires-clause-room : goal.add_span-row-requires-clause-room
add_span-row-requires-clause-room c =
    let le : c.loop-span.span-index < length c.args.batch.now.spans =
    subst (λ (ss : List Span). c.loop-span.span-index < length ss) c.as_slice-span-items.ensures c.loop-span-test.true in
    omega (arith, c.requires.room, c.loop-span.invariant.room, c.loop-span.invariant.used)

pub returns-clause-room : goal.returns-clause-room
returns-clause-room c = c.loop-span.invariant.room

pub returns-clause-used : goal.returns-clause-used
returns-clause-used c =
    let past : length c.args.batch.now.spans ≤ c.loop-span.span-index =
    subst (λ (ss : List Span). length ss ≤ c.loop-span.span-index) c.as_slice-span-items.ensures c.loop-span-test.false in
    omega (arith, c.loop-span.invariant.used)

pub returns-clause-ranged : goal.returns-clause-ranged
returns-clause-ranged c = λ n h at f ranged.
    let past : length c.args.batch.now.spans ≤ c.loop-span.span-index =
    subst (λ (ss : List Span). length ss ≤ c.loop-span.span-index) c.as_slice-span-items.ensures c.loop-span-test.false in
    subst (λ es. IsRanged n es c.loop-span.shown c.loop-span.starts) (upto_end h c.args.batch.now c.loop-span.span-index past)
    (c.loop-span.invariant.ranged n h at f ranged)
