-- The processes of spans by the places of their entries.
use Rattle.std.proofs.Common.{◌≡◌, ℕ, zero, suc, ◌<◌, List, [], ◌∷◌, ◌++◌, map, length, get_or, sym, ap, ◌∙◌, arith}
use Rattle.std.specs.Prelude.{Option, Some, None, option_map, slice_get}
use Rattle.std.specs.Option.{option_and_then}
use Rattle.std.proofs.lemmas.List.{map_push}
use Rattle.jaeger_model.specs.declared.batch.Batch.{Batch}
use Rattle.jaeger_model.specs.declared.batch.Process.{Process}
use Rattle.jaeger_model.specs.declared.placed.Placed.{Placed}
use Rattle.jaeger_model.specs.declared.span.Span.{Span}
use Rattle.jaeger_model.specs.Parents.{with_parent}
use Rattle.trace_model.specs.declared.entry.Entry.{Entry}
use Rattle.trace_model.specs.declared.entry.Work.{Work}
use Rattle.trace_model.specs.declared.entry.Work.TheVariants as brings
use Rattle.trace_model.specs.EntryWork.{batch_brought, placed_brought}
use Rattle.trace_model.specs.Places.{entry_at}
use Rattle.trace_model.specs.TakenSpans.{Taken, placed_taken, numbers_taken}
use Rattle.trace_model.proofs.TakenSpans.{one_more}
use Rattle.trace_assembly.specs.declared.spot.Spot.{Spot}
use Rattle.trace_assembly.specs.LocatedSpans.{span_at}
use Rattle.collected_traces.specs.EntriesAtPlaces.{process_at}

of_batch : (p : Process) (ss : List Span) (i : ℕ) (q : Placed) → Some q ≡ slice_get (map {B = Placed} (λ s. record { process = p; span = with_parent s }) ss) i
    → q.process ≡ p
of_batch p [] i q e = absurd (cc e)
of_batch p (s ∷ ss) zero q e = let same : q ≡ record { process = p; span = with_parent s } = cc e in ap (λ (x : Placed). x.process) same
of_batch p (s ∷ ss) (suc i) q e = of_batch p ss i q e

brought : (w : Work) (i : ℕ) (q : Placed) → Some q ≡ slice_get (placed_brought w) i → Some q.process ≡ option_map (λ (b : Batch). b.process) (batch_brought w)
brought (brings.Batch b) i q e = ap Some (of_batch b.process b.spans i q e)
brought (brings.TraceLimit n) i q e = absurd (cc e)

-- the span at a spot has the process of the batch at its place
pub process_there : (h : List Entry) (s : Spot) (q : Placed) → Some q ≡ span_at h s → Some q.process ≡ process_at h s.place
process_there h s q e = there (entry_at h s.place) e
  where
    there : (o : Option Entry) → Some q ≡ option_and_then (λ (x : Entry). slice_get (placed_brought x.work) s.index) o
        → Some q.process ≡ option_map (λ (b : Batch). b.process) (option_and_then (λ (x : Entry). batch_brought x.work) o)
    there None e = absurd (cc e)
    there (Some x) e = brought x.work s.index q e

-- the processes of the spans are those to which the numbers lead
abbrev pub LeadToEach : (ℕ → Option Process) → List Placed → List ℕ → Type 0
LeadToEach f spans numbers = map (λ (p : Placed). Some p.process) spans ≡ map f numbers

module _ (f : ℕ → Option Process) where
  -- one more span, whose number leads to its process
  pub leads_more : (ts : List Taken) (t : Taken) (p : Placed) → t.span ≡ Some p → Some p.process ≡ f t.number
      → LeadToEach f (placed_taken ts) (numbers_taken ts)
      → LeadToEach f (placed_taken (ts ++ t ∷ [])) (numbers_taken (ts ++ t ∷ []))
  leads_more ts t p is here before =
      ap (map (λ (q : Placed). Some q.process)) (one_more ts t p is) ∙ map_push (λ (q : Placed). Some q.process) (placed_taken ts) p
      ∙ (λ i. before i ++ here i ∷ []) ∙ sym (ap (map f) (map_push (λ (u : Taken). u.number) ts t) ∙ map_push f (numbers_taken ts) t.number)

  -- the process of one of them
  process_got : (spans : List Placed) (numbers : List ℕ) → LeadToEach f spans numbers → (k : ℕ) (d : Placed)
      → k < length numbers → Some (get_or spans k d).process ≡ f (get_or numbers k 0)
  process_got [] [] at k d l = absurd (omega arith)
  process_got [] (x ∷ numbers) at k d l = absurd (cc at)
  process_got (p ∷ spans) [] at k d l = absurd (omega arith)
  process_got (p ∷ spans) (x ∷ numbers) at zero d l = cc at
  process_got (p ∷ spans) (x ∷ numbers) at (suc k) d l =
      let rest : LeadToEach f spans numbers = cc at in
      process_got spans numbers rest k d (omega arith)

  -- spans of one number have one process
  pub one_process : (spans : List Placed) (numbers : List ℕ) → LeadToEach f spans numbers → (j k : ℕ) (d : Placed)
      → j < length numbers → k < length numbers → get_or numbers j 0 ≡ get_or numbers k 0 → (get_or spans j d).process ≡ (get_or spans k d).process
  one_process spans numbers at j k d lj lk same =
      let both : Some (get_or spans j d).process ≡ Some (get_or spans k d).process =
      process_got spans numbers at j d lj ∙ ap f same ∙ sym (process_got spans numbers at k d lk) in
      cc both
