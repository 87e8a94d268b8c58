-- A trace is collected span by span.
use Rattle.std.proofs.Common.{◌≡◌, List, [], ◌∷◌, ◌++◌, map, refl, sym, ap, ◌∙◌, append_assoc, Some, None, Option}
use Rattle.std.specs.List.{All, cons_option}
use Rattle.std.proofs.lemmas.List.{append-nil, map_push}
use Rattle.std.proofs.lemmas.List.Elements.{All-same, All-push, All-nil, filter_map-append}
use Rattle.jaeger_model.specs.declared.placed.Placed.{Placed}
use Rattle.trace_model.specs.declared.entry.Entry.{Entry}
use Rattle.trace_model.specs.TakenSpans.{Taken, placed_taken}
use Rattle.trace_assembly.specs.declared.spot.Spot.{Spot}
use Rattle.trace_assembly.specs.LocatedSpans.{span_at}
use Rattle.collected_traces.specs.EntriesAtPlaces.{spans_named}

-- the last trace has the first of the spans to collect; the spots of the remaining ones are left
pub record IsTaking (P : Taken → Type 0) (h : List Entry) (old now : List (List Taken)) (left all : List Spot) : Type 0 where
  pub last : List Taken
  pub is : now ≡ old ++ last ∷ []
  pub spans : placed_taken last ++ spans_named h left ≡ spans_named h all
  pub numbers : All P last

pub taking_none : (P : Taken → Type 0) (h : List Entry) (old now : List (List Taken)) (all : List Spot) → now ≡ old ++ [] ∷ [] → IsTaking P h old now all all
taking_none P h old now all is = record { last = []; is = is; spans = refl; numbers = All-nil P }

pub taking_over : (P : Taken → Type 0) (h : List Entry) (old now : List (List Taken)) (s : Spot) (left rest all : List Spot) → left ≡ s ∷ rest
    → None ≡ span_at h s → IsTaking P h old now left all → IsTaking P h old now rest all
taking_over P h old now s left rest all steps none t = record {
  last = t.last;
  is = t.is;
  spans = ap (λ o. placed_taken t.last ++ cons_option o (spans_named h rest)) none ∙ ap (λ l. placed_taken t.last ++ spans_named h l) (sym steps) ∙ t.spans;
  numbers = t.numbers;
}

pub joined : (o : Option Placed) (done rest : List Placed) → (done ++ cons_option o []) ++ rest ≡ done ++ cons_option o rest
joined None done rest = ap (λ l. l ++ rest) (append-nil done)
joined (Some p) done rest = append_assoc done (p ∷ []) rest

pub taking_more : (P : Taken → Type 0) (h : List Entry) (old now next : List (List Taken)) (s : Spot) (left rest all : List Spot) (x : Taken) → left ≡ s ∷ rest
    → x.span ≡ span_at h s → P x
    → ((ts : List (List Taken)) (t : List Taken) → now ≡ ts ++ t ∷ [] → next ≡ ts ++ (t ++ x ∷ []) ∷ []) → IsTaking P h old now left all
    → IsTaking P h old next rest all
taking_more P h old now next s left rest all x steps at number put t = record {
  last = t.last ++ x ∷ [];
  is = put old t.last t.is;
  spans =
      ap (λ l. l ++ spans_named h rest) (filter_map-append (λ (y : Taken). y.span) t.last (x ∷ []))
      ∙ joined x.span (placed_taken t.last) (spans_named h rest)
      ∙ ap (λ o. placed_taken t.last ++ cons_option o (spans_named h rest)) at
      ∙ ap (λ l. placed_taken t.last ++ spans_named h l) (sym steps) ∙ t.spans;
  numbers = All-push P t.last x t.numbers number;
}

pub taken_spans : (P : Taken → Type 0) (h : List Entry) (old now : List (List Taken)) (left all : List Spot) → left ≡ [] → IsTaking P h old now left all
    → map placed_taken now ≡ map placed_taken old ++ spans_named h all ∷ []
taken_spans P h old now left all none t =
    ap (map placed_taken) t.is ∙ map_push placed_taken old t.last
    ∙ ap (λ l. map placed_taken old ++ l ∷ []) (sym (append-nil (placed_taken t.last)) ∙ ap (λ l. placed_taken t.last ++ spans_named h l) (sym none) ∙ t.spans)

pub taken_numbers : (P : Taken → Type 0) (h : List Entry) (old now : List (List Taken)) (left all : List Spot) → IsTaking P h old now left all
    → All (λ (t : List Taken). All P t) old → All (λ (t : List Taken). All P t) now
taken_numbers P h old now left all t before =
    All-same (λ (t : List Taken). All P t) now (old ++ t.last ∷ []) t.is (All-push (λ (t : List Taken). All P t) old t.last before t.numbers)
