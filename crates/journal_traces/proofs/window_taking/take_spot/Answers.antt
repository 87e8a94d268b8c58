use Rattle.std.proofs.Common.{◌≡◌, ◌<◌, List, Some, length, refl, subst, arith, rules}
use Rattle.std.specs.Arc.{arc_value}
use Rattle.std.proofs.lemmas.List.{length-map}
use Rattle.trace_model.specs.Places.{entry_at}
use Rattle.trace_model.specs.TakenSpans.{Taken}
use Rattle.trace_assembly.specs.LocatedSpans.{span_at}
use Rattle.collected_traces.specs.declared.taken_spot.TakenSpot.{TakenSpot}
use Rattle.journal_traces.specs.SpansAtSpots.{AddsSpan}
use Rattle.journal_traces.specs.WindowTraces.{ServedEntry, entry_seen, entries_seen, entries_in, traces_reported}
use Rattle.journal_traces.proofs.Numbering.{below_got}
use Rattle.journal_traces.proofs.TracesOfWindows.{pushed_known, pushed_adds, placed_there}
use Rattle.journal_traces.proofs.window_taking.take_spot.Goals as goal

pub returns-in_ok-push_spot-clause-taken : goal.returns-in_ok-push_spot-clause-taken
returns-in_ok-push_spot-clause-taken c =
    let h = c.args.store.journal.now.held.entries in
    let mid = c.number_of.new.taken in
    let s : TakenSpot = record { number = c.in_ok-number.number; index = c.args.spot.index } in
    let es = entries_seen mid.entries.items in
    let below : s.number < length (entries_in es) = below_got (entries_in es) s.number (arc_value c.in-Some.entry.now) c.in_ok-number.ensures.number in
    let short : s.number < length mid.entries.items = omega (arith, below, length-map es (λ (e : ServedEntry). e.0), length-map mid.entries.items entry_seen) in
    pushed_known h mid c.push_spot.new.taken c.number_of.new.numbers c.in_ok-number.ensures.taken s c.push_spot.ensures.entries c.in_ok-push_spot.ensures.spots
    c.push_spot.ensures.starts short

pub returns-in_ok-push_spot-clause-traces : goal.returns-in_ok-push_spot-clause-traces
returns-in_ok-push_spot-clause-traces c =
    let h = c.args.store.journal.now.held.entries in
    let mid = c.number_of.new.taken in
    let new = c.push_spot.new.taken in
    let e = arc_value c.in-Some.entry.now in
    let s : TakenSpot = record { number = c.in_ok-number.number; index = c.args.spot.index } in
    let o = span_at h c.args.spot in
    let there : Some e ≡ entry_at h c.args.spot.place = search (rules) in
    let at = placed_there h (entries_seen mid.entries.items) s c.args.spot e c.in_ok-number.ensures.number there refl in
    let adds : AddsSpan o (traces_reported mid) (traces_reported new) =
    pushed_adds h mid new c.number_of.new.numbers c.in_ok-number.ensures.taken s o at c.push_spot.ensures.entries c.in_ok-push_spot.ensures.spots
    c.push_spot.ensures.starts in
    subst (λ (l : List (List Taken)). AddsSpan o l (traces_reported new)) c.in_ok-number.ensures.traces adds
