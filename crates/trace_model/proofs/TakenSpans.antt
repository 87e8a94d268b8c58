-- Spans that are read from their entries, one by one.
use Rattle.std.proofs.Common.{◌≡◌, ℕ, zero, suc, ◌+◌, ◌<◌, List, [], ◌∷◌, ◌++◌, map, length, take, get_or, refl, sym, ap, ◌∙◌, arith}
use Rattle.std.specs.Prelude.{Some, IsSome, is_some, slice_get, option_map}
use Rattle.std.proofs.lemmas.Bool.{false≢true}
use Rattle.std.proofs.lemmas.List.{take_more}
use Rattle.std.proofs.lemmas.List.Elements.{filter_map-append}
use Rattle.std.proofs.lemmas.Option.{slice_get_past}
use Rattle.std.specs.List.{cons_option}
use Rattle.jaeger_model.specs.declared.placed.Placed.{Placed}
use Rattle.jaeger_model.specs.declared.batch.Batch.{Batch}
use Rattle.jaeger_model.specs.declared.span.Span.{Span}
use Rattle.jaeger_model.specs.Parents.{placed}
use Rattle.trace_model.specs.declared.entry.Work.{Work}
use Rattle.trace_model.specs.declared.entry.Work.TheVariants as brings
use Rattle.trace_model.specs.EntryWork.{placed_brought, service_brought}
use Rattle.trace_model.specs.TakenSpans.{Taken, placed_taken}

-- one more span, which exists
pub one_more : (ts : List Taken) (t : Taken) (p : Placed) → t.span ≡ Some p → placed_taken (ts ++ t ∷ []) ≡ placed_taken ts ++ p ∷ []
one_more ts t p is =
    filter_map-append (λ (u : Taken). u.span) ts (t ∷ []) ∙ ap (λ o. placed_taken ts ++ cons_option o []) is

-- the spans up to the next one
pub some_next : (ts : List Taken) (i : ℕ) (t : Taken) (p : Placed) → i < length ts → t ≡ get_or ts i t → t.span ≡ Some p
    → placed_taken (take i ts) ++ p ∷ [] ≡ placed_taken (take (i + 1) ts)
some_next ts i t p le at is =
    sym (ap placed_taken (take_more ts i t le) ∙ ap (λ u. placed_taken (take i ts ++ u ∷ [])) (sym at) ∙ one_more (take i ts) t p is)

-- a span that an entry has was reported by the entry's service
names_there : (b : Batch) (ss : List Span) (i : ℕ) → IsSome (slice_get (map (placed b) ss) i)
    → Some b.process.service ≡ option_map (λ (p : Placed). p.process.service) (slice_get (map (placed b) ss) i)
names_there b [] i some = absurd (false≢true (ap is_some (sym (slice_get_past {X = Placed} [] i (omega arith))) ∙ some))
names_there b (s ∷ ss) zero some = refl
names_there b (s ∷ ss) (suc i) some = names_there b ss i some

pub name_there : (w : Work) (i : ℕ) → IsSome (slice_get (placed_brought w) i)
    → Some (service_brought w) ≡ option_map (λ (p : Placed). p.process.service) (slice_get (placed_brought w) i)
name_there (brings.Batch b) i some = names_there b b.spans i some
name_there (brings.TraceLimit n) i some = absurd (false≢true (ap is_some (sym (slice_get_past {X = Placed} [] i (omega arith))) ∙ some))
