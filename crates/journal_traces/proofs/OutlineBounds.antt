-- If the outline of an entry doesn't meet the search, no span meets it.
use Rattle.std.proofs.Common.{◌≡◌, ℤ, ◌≤ℤ◌, Bool, true, false, ◌&&◌, cond, List, [], ◌∷◌, refl, sym, ap, ◌∙◌, arith}
use Rattle.std.specs.Prelude.{Option, Some, None, int_le, option_map}
use Rattle.std.specs.List.{list_all, AllByRecursion}
use Rattle.std.proofs.lemmas.Bool.{false≢true, and_parts, true_from_ne_false}
use Rattle.std.proofs.lemmas.Int.{fold-int_min_bounds, fold-int_max_bounds, ints}
use Rattle.std.proofs.lemmas.List.Elements.{recursion_from_All}
use Rattle.jaeger_model.specs.declared.placed.Placed.{Placed}
use Rattle.jaeger_model.specs.declared.batch.Process.{Process}
use Rattle.jaeger_model.specs.declared.span.Span.{Span}
use Rattle.trace_model.specs.declared.query.Find.{Find}
use Rattle.trace_model.specs.Searching.{has_service_and_operation, is_timed, has_tag, at_least, at_most, bound}
use Rattle.arrival_journal.specs.declared.times.Times.{Times}
use Rattle.arrival_journal.specs.Times.{times_of, starts, durations, latest, earliest}
use Rattle.arrival_journal.specs.declared.outline.Outline.{Outline}
use Rattle.arrival_journal.specs.Outlines.{outline_of, outline_in}
use Rattle.trace_model.specs.declared.entry.Entry.{Entry}
use Rattle.trace_model.specs.declared.entry.Work.{Work}
use Rattle.trace_model.specs.declared.entry.Work.TheVariants as brings
use Rattle.trace_model.specs.EntryWork.{batch_brought}
use Rattle.arrival_journal.specs.TagBits.{bits_of}
use Rattle.std.specs.Option.{option_and_then}
use Rattle.collected_traces.specs.ProcessConditions.{meets}
use Rattle.journal_traces.specs.MatchingSpans.{met, met_or_none}
use Rattle.journal_traces.specs.SkippedEntries.{may_meet}
use Rattle.journal_traces.proofs.TagBits.{AreSet, all_set, all_marked}

-- the span's start and duration are within these bounds
pub record Within (t : Times) (s : Span) : Type 0 where
  pub start_low : t.start_min ≤ℤ s.start
  pub start_high : s.start ≤ℤ t.start_max
  pub duration_low : t.duration_min ≤ℤ s.duration
  pub duration_high : s.duration ≤ℤ t.duration_max

each_within : (t : Times) (ss : List Span)
    → AllByRecursion (λ x. t.start_min ≤ℤ x) (starts ss) → AllByRecursion (λ x. x ≤ℤ t.start_max) (starts ss)
    → AllByRecursion (λ x. t.duration_min ≤ℤ x) (durations ss) → AllByRecursion (λ x. x ≤ℤ t.duration_max) (durations ss)
    → AllByRecursion (Within t) ss
each_within t [] a b c d = tt
each_within t (s ∷ ss) a b c d = (record { start_low = a.0; start_high = b.0; duration_low = c.0; duration_high = d.0 }, each_within t ss a.1 b.1 c.1 d.1)

pub all_within : (ss : List Span) → AllByRecursion (Within (times_of ss)) ss
all_within ss =
    let t = times_of ss in
    each_within t ss
    (recursion_from_All (λ x. t.start_min ≤ℤ x) (starts ss) (fold-int_min_bounds latest (starts ss) t.start_min refl).1)
    (recursion_from_All (λ x. x ≤ℤ t.start_max) (starts ss) (fold-int_max_bounds earliest (starts ss) t.start_max refl).1)
    (recursion_from_All (λ x. t.duration_min ≤ℤ x) (durations ss) (fold-int_min_bounds latest (durations ss) t.duration_min refl).1)
    (recursion_from_All (λ x. x ≤ℤ t.duration_max) (durations ss) (fold-int_max_bounds earliest (durations ss) t.duration_max refl).1)

raised : (low : Option ℤ) (x y : ℤ) → x ≤ℤ y → at_least low x ≡ true → at_least low y ≡ true
raised None x y le e = refl
raised (Some l) x y le e = true_from_ne_false (int_le l y) (λ f. absurd (omega (arith, ints)))

lowered : (high : Option ℤ) (x y : ℤ) → y ≤ℤ x → at_most high x ≡ true → at_most high y ≡ true
lowered None x y le e = refl
lowered (Some h) x y le e = true_from_ne_false (int_le y h) (λ f. absurd (omega (arith, ints)))

-- what an outline implies for a span of this process
record Outlined (ol : Outline) (o : Process) (s : Span) : Type 0 where
  pub within : Within ol.times s
  pub set : AreSet ol.tags o s

outlined : (ol : Outline) (o : Process) (ss : List Span) → AllByRecursion (Within ol.times) ss → AllByRecursion (AreSet ol.tags o) ss
    → AllByRecursion (Outlined ol o) ss
outlined ol o [] w t = tt
outlined ol o (s ∷ ss) w t = (record { within = w.0; set = t.0 }, outlined ol o ss w.1 t.1)

meeting : (q : Find) (o : Process) (ol : Outline) (s : Span) → Outlined ol o s → meets q o s ≡ true → may_meet q ol ≡ true
meeting q o ol s known m =
    let p : Placed = record { process = o; span = s } in
    let t = ol.times in
    let w = known.within in
    let parts = and_parts (has_service_and_operation q p && is_timed q p) (list_all (has_tag p) q.tags) m in
    let timed = (and_parts (has_service_and_operation q p) (is_timed q p) parts.0).1 in
    let long : Bool = at_least (bound q.duration_min) s.duration in
    let short : Bool = at_most (bound q.duration_max) s.duration in
    let late : Bool = at_least q.start_min s.start in
    let early : Bool = at_most q.start_max s.start in
    let d = and_parts (long && short && late) early timed in
    let c = and_parts (long && short) late d.0 in
    let ab = and_parts long short c.0 in
    let a' = raised (bound q.duration_min) s.duration t.duration_max w.duration_high ab.0 in
    let b' = lowered (bound q.duration_max) s.duration t.duration_min w.duration_low ab.1 in
    let c' = raised q.start_min s.start t.start_max w.start_high c.1 in
    let d' = lowered q.start_max s.start t.start_min w.start_low d.1 in
    let e' = all_marked ol.tags p q.tags known.set parts.1 in
    λ i. (a' i && b' i) && (c' i && d' i) && e' i

none_met : (q : Find) (o : Process) (ol : Outline) (ss : List Span) → AllByRecursion (Outlined ol o) ss → may_meet q ol ≡ false → met q o ss ≡ []
none_met q o ol [] known none = refl
none_met q o ol (s ∷ ss) known none = elim (meets q o s) as (λ b. meets q o s ≡ b → cond b (s ∷ met q o ss) (met q o ss) ≡ []) [
  | true ↦ λ m. absurd (false≢true (sym none ∙ meeting q o ol s known.0 m))
  | false ↦ λ _. none_met q o ol ss known.1 none
] refl

-- no span that an entry brings meets the search
passed : (q : Find) (w : Work) → may_meet q (outline_of w) ≡ false → met_or_none q (batch_brought w) ≡ []
unfolding outline_of
passed q (brings.Batch b) none =
    let o : Outline = record { times = times_of b.spans; tags = bits_of b } in
    none_met q b.process o b.spans (outlined o b.process b.spans (all_within b.spans) (all_set b)) none
passed q (brings.TraceLimit n) none = refl

-- ---- at a place
pub passed_there : (q : Find) (e : Option Entry) (ol : Outline) → Some ol ≡ option_map outline_in e → may_meet q ol ≡ false
    → met_or_none q (option_and_then (λ (x : Entry). batch_brought x.work) e) ≡ []
passed_there q None ol e none = absurd (cc e)
passed_there q (Some x) ol e none = let same : ol ≡ outline_in x = cc e in passed q x.work (ap (may_meet q) (sym same) ∙ none)
