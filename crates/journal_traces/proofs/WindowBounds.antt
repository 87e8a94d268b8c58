-- If the bounds of the spans' starts don't reach a window, no span of the entry starts in it.
use Rattle.std.proofs.Common.{◌≡◌, ℕ, ℤ, zero, suc, ◌≤ℤ◌, Bool, true, false, ◌&&◌, ◌||◌, List, [], ◌∷◌, map, refl, sym, ap, ◌∙◌, arith}
use Rattle.std.specs.Prelude.{Option, Some, None, pos, ◌-ℤ◌, ◌*ℤ◌, int_lt, option_map, option_and_then, slice_get}
use Rattle.std.specs.List.{list_any, cons_option, AllByRecursion}
use Rattle.std.proofs.lemmas.Bool.{false≢true, and_parts, true_from_ne_false}
use Rattle.std.proofs.lemmas.Int.{ints}
use Rattle.jaeger_model.specs.declared.batch.Batch.{Batch}
use Rattle.jaeger_model.specs.declared.span.Span.{Span}
use Rattle.jaeger_model.specs.Parents.{placed}
use Rattle.trace_model.specs.declared.entry.Entry.{Entry}
use Rattle.trace_model.specs.declared.entry.Work.{Work}
use Rattle.trace_model.specs.declared.entry.Work.TheVariants as brings
use Rattle.trace_model.specs.EntryWork.{spans_brought, placed_brought}
use Rattle.trace_model.specs.ServiceLinks.{is_between, in_window}
use Rattle.trace_model.specs.Places.{entry_at}
use Rattle.arrival_journal.specs.declared.times.Times.{Times}
use Rattle.arrival_journal.specs.Times.{times_of}
use Rattle.arrival_journal.specs.declared.outline.Outline.{Outline}
use Rattle.arrival_journal.specs.Outlines.{outline_of, outline_in}
use Rattle.trace_assembly.specs.declared.spot.Spot.{Spot}
use Rattle.journal_traces.specs.SkippedEntries.{may_reach}
use Rattle.collected_traces.specs.EntriesAtPlaces.{spans_named}
use Rattle.collected_traces.proofs.ParentReferences.{window-adopted}
use Rattle.journal_traces.proofs.OutlineBounds.{Within, all_within}

later : (b x y : ℤ) → x ≤ℤ y → int_lt b x ≡ true → int_lt b y ≡ true
later b x y le e = true_from_ne_false (int_lt b y) (λ f. absurd (omega (arith, ints)))

sooner : (b x y : ℤ) → y ≤ℤ x → int_lt x b ≡ true → int_lt y b ≡ true
sooner b x y le e = true_from_ne_false (int_lt y b) (λ f. absurd (omega (arith, ints)))

reaching : (e l : ℤ) (t : Times) (s : Span) → Within t s → is_between e l s.start ≡ true → may_reach e l t ≡ true
reaching e l t s w in_it =
    let ab = and_parts (int_lt (pos 1000 *ℤ (e -ℤ l)) s.start) (int_lt s.start (pos 1000 *ℤ e)) in_it in
    let a' = later (pos 1000 *ℤ (e -ℤ l)) s.start t.start_max w.start_high ab.0 in
    let b' = sooner (pos 1000 *ℤ e) s.start t.start_min w.start_low ab.1 in
    λ i. a' i && b' i

not_reaching : (e l : ℤ) (t : Times) (s : Span) → Within t s → may_reach e l t ≡ false → is_between e l s.start ≡ false
not_reaching e l t s w none = by (is_between e l s.start) refl
  where
    by : (b : Bool) → is_between e l s.start ≡ b → b ≡ false
    by true f = absurd (false≢true (sym none ∙ reaching e l t s w f))
    by false f = refl

-- ---- the span at an index
none_placed : (e l : ℤ) (t : Times) (b : Batch) (ss : List Span) → AllByRecursion (Within t) ss → may_reach e l t ≡ false
    → (i : ℕ) → list_any (in_window e l) (cons_option (slice_get (map (placed b) ss) i) []) ≡ false
none_placed e l t b [] w none i = refl
none_placed e l t b (s ∷ ss) w none zero =
    ap (λ (x : Bool). x || false) (window-adopted e l (record { process = b.process; span = s }) ∙ not_reaching e l t s w.0 none)
none_placed e l t b (s ∷ ss) w none (suc i) = none_placed e l t b ss w.1 none i

none_brought : (e l : ℤ) (w : Work) (i : ℕ) → may_reach e l (times_of (spans_brought w)) ≡ false
    → list_any (in_window e l) (cons_option (slice_get (placed_brought w) i) []) ≡ false
none_brought e l (brings.Batch b) i none = none_placed e l (times_of b.spans) b b.spans (all_within b.spans) none i
none_brought e l (brings.TraceLimit n) i none = refl

none_at : (e l : ℤ) (o : Option Entry) (i : ℕ) (ol : Outline) → Some ol ≡ option_map outline_in o → may_reach e l ol.times ≡ false
    → list_any (in_window e l) (cons_option (option_and_then (λ (x : Entry). slice_get (placed_brought x.work) i) o) []) ≡ false
unfolding outline_of
none_at e l None i ol is none = absurd (cc is)
none_at e l (Some x) i ol is none =
    let same : ol ≡ outline_in x = cc is in
    none_brought e l x.work i (ap (λ (o : Outline). may_reach e l o.times) (sym same) ∙ none)

-- no span at this spot starts in the window
pub none_starts : (e l : ℤ) (h : List Entry) (s : Spot) (ol : Outline) → Some ol ≡ option_map outline_in (entry_at h s.place) → may_reach e l ol.times ≡ false
    → list_any (in_window e l) (spans_named h (s ∷ [])) ≡ false
none_starts e l h s ol is none = none_at e l (entry_at h s.place) s.index ol is none
