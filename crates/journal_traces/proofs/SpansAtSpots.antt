-- The spans at spots, one by one.
use Rattle.std.proofs.Common.{◌≡◌, ℕ, ℤ, zero, suc, ◌+◌, ◌<◌, Bool, true, false, List, [], ◌∷◌, ◌++◌, map, length, take, get_or, append_assoc, refl, sym, ap}
use Rattle.std.proofs.Common.{◌∙◌, Some, None, Option}
use denote.Ref.{Bor}
use Rattle.std.specs.Prelude.{slice_get, slice_index_or, filter, if◌then◌else◌, flat_map}
use Rattle.std.specs.List.{list_any, cons_option}
use Rattle.std.proofs.lemmas.List.{append-nil}
use Rattle.std.specs.Option.{option_copied}
use Rattle.std.specs.Slice.{IsItemAt}
use Rattle.jaeger_model.specs.declared.ids.TraceId.{TraceId}
use Rattle.jaeger_model.specs.declared.batch.Batch.{Batch}
use Rattle.jaeger_model.specs.declared.placed.Placed.{Placed}
use Rattle.jaeger_model.specs.Parents.{domain}
use Rattle.trace_model.specs.declared.entry.Entry.{Entry}
use Rattle.trace_model.specs.ServiceLinks.{in_window, calls_of, calls_within, counted, links}
use Rattle.arrival_journal.proofs.ItemsAtPlaces.{lent_item}
use Rattle.trace_assembly.specs.declared.spot.Spot.{Spot}
use Rattle.trace_assembly.specs.LocatedSpans.{span_at}
use Rattle.trace_assembly.proofs.Lists.{map_filter}
use Rattle.call_links.specs.NumberedCalls.{links_in}
use Rattle.collected_traces.specs.EntriesAtPlaces.{batch_at, spans_named}
use Rattle.collected_traces.proofs.EntriesAtPlaces as entries_at_places
use Rattle.journal_traces.specs.SpansAtSpots.{traces_named}
use Rattle.journal_traces.proofs.TraceMarks.{picked, passed}

pub named_is : (h : List Entry) (ss : List Spot) (ps : List Placed) → map (span_at h) ss ≡ map Some ps → spans_named h ss ≡ ps
named_is h [] [] e = refl
named_is h [] (p ∷ ps) e = absurd cc
named_is h (s ∷ ss) [] e = absurd cc
named_is h (s ∷ ss) (p ∷ ps) e =
    let first : span_at h s ≡ Some p = cc e in
    let rest : map (span_at h) ss ≡ map Some ps = cc e in
    ap (λ o. cons_option o (spans_named h ss)) first ∙ ap (λ l. p ∷ l) (named_is h ss ps rest)

abbrev pub no_id : TraceId
no_id = record { high = 0; low = 0 }

-- ---- one spot less at the front
pub named_some : (h : List Entry) (done : List Placed) (s : Spot) (ss : List Spot) (p : Placed) → span_at h s ≡ Some p
    → (done ++ p ∷ []) ++ spans_named h ss ≡ done ++ spans_named h (s ∷ ss)
named_some h done s ss p e = append_assoc done (p ∷ []) (spans_named h ss) ∙ ap (λ o. done ++ cons_option o (spans_named h ss)) (sym e)

pub named_none : (h : List Entry) (done : List Placed) (s : Spot) (ss : List Spot) → span_at h s ≡ None
    → done ++ spans_named h ss ≡ done ++ spans_named h (s ∷ ss)
named_none h done s ss e = ap (λ o. done ++ cons_option o (spans_named h ss)) (sym e)

pub named_end : (h : List Entry) (done : List Placed) (ss : List Spot) → ss ≡ [] → done ≡ done ++ spans_named h ss
named_end h done ss e = sym (append-nil done) ∙ ap (λ l. done ++ spans_named h l) (sym e)

pub any_end : (h : List Entry) (w : Placed → Bool) (ss : List Spot) → ss ≡ [] → false ≡ list_any w (spans_named h ss)
any_end h w ss e = ap (λ l. list_any w (spans_named h l)) (sym e)

-- the trace at a place
trace_got : (h : List Entry) (ss : List (List Spot)) (place : ℕ) (s : List Spot) → Some s ≡ slice_get ss place
    → spans_named h s ≡ slice_index_or (traces_named h ss) place []
trace_got h [] place s e = absurd cc
trace_got h (x ∷ ss) zero s e = let same : s ≡ x = cc e in ap (spans_named h) same
trace_got h (x ∷ ss) (suc place) s e = trace_got h ss place s e

pub trace_there : (h : List Entry) (ss : List (List Spot)) (place : ℕ) (r : Option (Bor (List Spot))) (s : Bor (List Spot)) → IsItemAt ss place r → r ≡ Some s
    → spans_named h s.now ≡ slice_index_or (traces_named h ss) place []
trace_there h ss place r s looked is = trace_got h ss place s.now (sym (ap option_copied is) ∙ lent_item ss place r looked)

-- ---- the calls of a window are those of the traces with a span in it
calls_chosen : (end_ms lookback_ms : ℤ) (ts : List (List Placed))
    → flat_map calls_of (filter (list_any (in_window end_ms lookback_ms)) ts) ≡ flat_map (calls_within end_ms lookback_ms) ts
calls_chosen e l [] = refl
calls_chosen e l (t ∷ ts) =
    let rest = calls_chosen e l ts in
    elim (list_any (in_window e l) t) as (λ b. flat_map calls_of (if b then t ∷ filter (list_any (in_window e l)) ts else filter (list_any (in_window e l)) ts)
    ≡ (if b then calls_of t else []) ++ flat_map (calls_within e l) ts) [
      | true ↦ ap (λ cs. calls_of t ++ cs) rest
      | false ↦ rest
    ]

pub links_chosen : (end_ms lookback_ms : ℤ) (ts : List (List Placed))
    → links_in (filter (list_any (in_window end_ms lookback_ms)) ts) ≡ links end_ms lookback_ms ts
links_chosen e l ts = ap counted (calls_chosen e l ts)

-- ---- traces that pass a test, one by one
module _ {X : Type 0} (w : X → Bool) (f : TraceId → X) (ids : List TraceId) (i : ℕ) (d : TraceId) (le : i < length ids) where
  pub kept_more : w (f (get_or ids i d)) ≡ true → filter w (map f (take (i + 1) ids)) ≡ filter w (map f (take i ids)) ++ f (get_or ids i d) ∷ []
  kept_more e =
      sym (map_filter f w (take (i + 1) ids)) ∙ picked f (λ t. w (f t)) ids i d le e ∙ ap (λ ts. ts ++ f (get_or ids i d) ∷ []) (map_filter f w (take i ids))

  pub left_out : w (f (get_or ids i d)) ≡ false → filter w (map f (take (i + 1) ids)) ≡ filter w (map f (take i ids))
  left_out e = sym (map_filter f w (take (i + 1) ids)) ∙ passed f (λ t. w (f t)) ids i d le e ∙ map_filter f w (take i ids)

-- ---- the span at a spot, by the batch of its entry
pub span_there : (h : List Entry) (s : Spot) (b : Batch) → Some b ≡ batch_at h s.place → slice_get (domain b) s.index ≡ span_at h s
span_there = entries_at_places.span_there

pub no_span_there : (h : List Entry) (s : Spot) → None ≡ batch_at h s.place → None ≡ span_at h s
no_span_there = entries_at_places.no_span_there
