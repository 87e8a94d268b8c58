use Rattle.std.proofs.Common.{◌≡◌, ℕ, Bool, w64, ◌∙◌, ◌+◌, ◌++◌, ◌∷◌, ◌<◌, ◌≤◌, [], List, None, Option, get_or}
use Rattle.std.proofs.Common.{length, map, replicate, take, sym, ap, subst, arith}
use Rattle.std.specs.Prelude.{filter}
use Rattle.std.specs.Arc.{arc_value}
use Rattle.std.specs.List.{list_any}
use Rattle.std.proofs.lemmas.Int.{to_z-of_z}
use Rattle.std.proofs.lemmas.List.{length-map, take_all}
use Rattle.jaeger_model.specs.declared.ids.TraceId.{TraceId}
use Rattle.jaeger_model.specs.declared.placed.Placed.{Placed}
use Rattle.trace_model.specs.ServiceLinks.{in_window}
use Rattle.trace_assembly.specs.AssembledRows.{spots_of}
use Rattle.journal_traces.specs.declared.window_traces.WindowSpots.{WindowSpots}
use Rattle.collected_traces.specs.TraceParts.{cut_at}
use Rattle.journal_traces.specs.Numbered.{AreNumbers}
use Rattle.collected_traces.specs.EntriesAtPlaces.{spans_named}
use Rattle.journal_traces.specs.SpansAtSpots.{trace_named, AreNumberedByService}
use Rattle.trace_model.specs.TakenSpans.{placed_taken}
use Rattle.journal_traces.specs.WindowTraces.{entries_seen, traces_reported, AreWindowSpots}
use Rattle.journal_traces.proofs.Numbering.{none_known}
use Rattle.journal_traces.proofs.SkippedTraces.{skipped}
use Rattle.journal_traces.proofs.SpansAtSpots.{no_id, kept_more, left_out}
use Rattle.journal_traces.proofs.TracesOfWindows.{new_known, new_traces, traces_numbered}
use Rattle.journal_traces.proofs.window_taking.take_within.Goals as goal
use Rattle.journal_traces.proofs.window_taking.take_within.Goals.{then-reaches_window+in_ok-take_spots, else-reaches_window}

pub loop-index-init : goal.loop-index-init
loop-index-init c =
    let h = c.args.store.journal.now.held.entries in
    let starts = c.args.store.starts.now in
    let ids = c.args.store.assembly.now.newest.ids in
    let e = to_z-of_z w64 c.args.end_ms c.ranges.end_ms in
    let l = to_z-of_z w64 c.args.lookback_ms c.ranges.lookback_ms in
    let first = c.next_within-index.ensures in
    let long : length c.entries.result.now ≡ length h = sym (length-map c.entries.result.now arc_value) ∙ ap length c.entries.ensures in
    let none = new_traces c.new-taken.result c.new-taken.ensures.starts in
    let many = c.requires.as_many in
    let within : c.next_within-index.result ≤ length ids = omega (arith, first.within) in
    record {
      place = within;
      within = rw (e, l) (
          ap (map placed_taken) none
          ∙ sym (skipped c.args.end_ms c.args.lookback_ms starts ids (trace_named h (spots_of c.args.store.assembly.now))
          c.requires.ranged c.window_of-window.result (rw (e, l) at c.window_of-window.ensures)
          0 c.next_within-index.result first.from within first.skipped));
      taken =
          new_known h c.new-taken.result c.in_ok-numbers.numbers c.new-taken.ensures.entries c.new-taken.ensures.spots c.new-taken.ensures.starts
          (subst (AreNumbers h []) (sym (c.in_ok-numbers.ensures ∙ ap (λ n. replicate n None) long)) (none_known h));
    }

pub loop-index-preserved : goal.loop-index-preserved
loop-index-preserved c =
    let h = c.args.store.journal.now.held.entries in
    let starts = c.args.store.starts.now in
    let f : TraceId → List Placed = trace_named h (spots_of c.args.store.assembly.now) in
    let w : List Placed → Bool = list_any (in_window c.args.end_ms c.args.lookback_ms) in
    let ids = c.args.store.assembly.now.newest.ids in
    let i = c.loop-index.index in
    let many = c.requires.as_many in
    let le : i < length ids = omega (arith, c.loop-index-test.true, c.len.ensures) in
    let spots = ap (spans_named h) c.spots_at-spots.ensures in
    let e = to_z-of_z w64 c.args.end_ms c.ranges.end_ms in
    let l = to_z-of_z w64 c.args.lookback_ms c.ranges.lookback_ms in
    let determined : c.reaches_window.result ≡ w (f (get_or ids i no_id)) =
    (rw (e, l) at c.reaches_window.ensures) ∙ ap (λ ss. w (spans_named h ss)) c.duplicate.ensures ∙ ap w spots in
    let before : map placed_taken (traces_reported c.loop-index.taken) ≡ filter w (map f (take i ids)) = rw (e, l) at c.loop-index.invariant.within in
    let next = c.next_within-index-in-loop-index.ensures in
    let place = c.next_within-index-in-loop-index.result in
    let within : place ≤ length ids = omega (arith, next.within) in
    let skips : filter w (map f (take place ids)) ≡ filter w (map f (take (i + 1) ids)) =
    skipped c.args.end_ms c.args.lookback_ms starts ids f c.requires.ranged c.window_of-window.result (rw (e, l) at c.window_of-window.ensures) (i + 1)
    place next.from within next.skipped in
    record {
      place = within;
      within = rw (e, l) (elim c.if-reaches_window.branch [
        | then-reaches_window+in_ok-take_spots v ↦
            ap (λ t. map placed_taken (traces_reported t)) v.taken-is ∙ v.in_ok-take_spots.ensures.spans
            ∙ (λ j. before j ++ spots j ∷ [])
            ∙ sym (kept_more w f ids i no_id le (sym determined ∙ v.if-reaches_window.true)) ∙ sym skips
        | else-reaches_window v ↦ ap (λ t. map placed_taken (traces_reported t)) v.taken-is ∙ before
            ∙ sym (left_out w f ids i no_id le (sym determined ∙ v.if-reaches_window.false)) ∙ sym skips
      ]);
      taken = elim c.if-reaches_window.branch [
        | then-reaches_window+in_ok-take_spots v ↦
            subst (λ (x : WindowSpots × List (Option ℕ)). AreWindowSpots h x.0 x.1) (λ i. (sym v.taken-is i, sym v.numbers-is i))
            v.in_ok-take_spots.ensures.taken
        | else-reaches_window v ↦
            subst (λ (x : WindowSpots × List (Option ℕ)). AreWindowSpots h x.0 x.1) (λ i. (sym v.taken-is i, sym v.numbers-is i)) c.loop-index.invariant.taken
      ];
    }

pub new-requires-2 : goal.new-requires-2
new-requires-2 c = c.loop-index.invariant.taken.ordered

pub returns-clause-numbered : goal.returns-clause-numbered
returns-clause-numbered c =
    let h = c.args.store.journal.now.held.entries in
    let taken = c.loop-index.taken in
    subst (AreNumberedByService h) (sym c.new-2.ensures)
    (traces_numbered h (entries_seen taken.entries.items) (cut_at taken.spots.items taken.starts.items) c.loop-index.invariant.taken.services)

pub returns-clause-within : goal.returns-clause-within
returns-clause-within c =
    let h = c.args.store.journal.now.held.entries in
    let f : TraceId → List Placed = trace_named h (spots_of c.args.store.assembly.now) in
    let w : List Placed → Bool = list_any (in_window c.args.end_ms c.args.lookback_ms) in
    let ids = c.args.store.assembly.now.newest.ids in
    let many = c.requires.as_many in
    let all : length ids ≤ c.loop-index.index = omega (arith, c.loop-index-test.false, c.len.ensures) in
    let e = to_z-of_z w64 c.args.end_ms c.ranges.end_ms in
    let l = to_z-of_z w64 c.args.lookback_ms c.ranges.lookback_ms in
    ap (map placed_taken) c.new-2.ensures ∙ (rw (e, l) at c.loop-index.invariant.within) ∙ ap (λ ts. filter w (map f ts)) (take_all c.loop-index.index ids all)
