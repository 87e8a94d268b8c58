-- A span of the journal is added to the last trace.
use Rattle.std.proofs.Common.{◌≡◌, List, ◌∷◌, ◌++◌, sym, ap, ◌∙◌, Some, None, Option}
use Rattle.std.specs.Prelude.{IfSome}
use Rattle.std.specs.Option.{option_and_then}
use Rattle.std.proofs.lemmas.List.Elements.{filter_map-append}
use Rattle.jaeger_model.specs.declared.placed.Placed.{Placed}
use Rattle.trace_model.specs.declared.entry.Entry.{Entry}
use Rattle.trace_model.specs.TakenSpans.{Taken, placed_taken}
use Rattle.trace_assembly.specs.declared.spot.Spot.{Spot}
use Rattle.trace_assembly.specs.LocatedSpans.{span_at}
use Rattle.collected_traces.specs.EntriesAtPlaces.{process_at, spans_named}
use Rattle.collected_traces.specs.TakenTraces.{HasProcess}
use Rattle.collected_traces.proofs.Processes.{process_there}
use Rattle.collected_traces.proofs.TakingSpans.{IsTaking, joined}
use Rattle.journal_traces.specs.SpansAtSpots.{AddsSpan}

abbrev pub Anything : Taken → Type 0
Anything t = Unit {0}

pub taking_added : (h : List Entry) (old now next : List (List Taken)) (s : Spot) (left rest all : List Spot) → left ≡ s ∷ rest
    → AddsSpan (span_at h s) now next → IsTaking Anything h old now left all → IsTaking Anything h old next rest all
taking_added h old now next s left rest all steps adds t =
    let more = adds old t.last t.is in record {
      last = t.last ++ more.0;
      is = more.2;
      spans =
          ap (λ l. l ++ spans_named h rest) (filter_map-append (λ (y : Taken). y.span) t.last more.0 ∙ ap (λ l. placed_taken t.last ++ l) more.1)
          ∙ joined (span_at h s) (placed_taken t.last) (spans_named h rest)
          ∙ ap (λ l. placed_taken t.last ++ spans_named h l) (sym steps) ∙ t.spans;
      numbers = λ j d le. tt;
    }

-- the number of what is collected at a spot leads to its process
pub numbered_there : (h : List Entry) (s : Spot) (taken : Option Taken) → option_and_then (λ (x : Taken). x.span) taken ≡ span_at h s
    → IfSome taken (λ (x : Taken). x.number ≡ s.place) → IfSome taken (HasProcess (process_at h))
numbered_there h s None at number = tt
numbered_there h s (Some x) at number = by x.span at
  where
    by : (o : Option Placed) → o ≡ span_at h s → IfSome o (λ (p : Placed). Some p.process ≡ process_at h x.number)
    by None e = tt
    by (Some p) e = process_there h s p e ∙ ap (process_at h) (sym number)
