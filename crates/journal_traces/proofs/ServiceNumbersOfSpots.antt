-- The numbers of the services of spans, by the places of their entries.
use Rattle.std.proofs.Common.{◌≡◌, ℕ, zero, suc, ◌-◌, ◌<◌, ◌≤◌, List, [], ◌∷◌, length, get_or, sym, ap, ◌∙◌, arith}
use Rattle.std.specs.Prelude.{Some, option_map, slice_get}
use Rattle.std.specs.Option.{option_and_then}
use Rattle.std.proofs.lemmas.List.Sums.{passes_at_first}
use Rattle.jaeger_model.specs.declared.batch.Batch.{Batch}
use Rattle.jaeger_model.specs.declared.batch.Process.{Process}
use Rattle.jaeger_model.specs.declared.placed.Placed.{Placed}
use Rattle.jaeger_model.specs.Texts.{same_text}
use Rattle.trace_model.specs.declared.entry.Entry.{Entry}
use Rattle.trace_model.specs.declared.entry.Work.{Work}
use Rattle.trace_model.specs.declared.entry.Work.TheVariants as brings
use Rattle.trace_model.specs.EntryWork.{batch_brought, service_brought}
use Rattle.trace_model.proofs.NameLaws.{text_is}
use Rattle.trace_assembly.specs.declared.spot.Spot.{Spot}
use Rattle.trace_assembly.specs.LocatedSpans.{span_at}
use Rattle.service_index.specs.ServicePlaces.{reporters, service_at, service_number_in, AreServiceNumbers}
use Rattle.service_index.proofs.ServiceNumbers.{service_number_within, as_many_reporters}
use Rattle.call_links.specs.NumberedCalls.{StandsFor}
use Rattle.collected_traces.specs.EntriesAtPlaces.{process_at}
use Rattle.collected_traces.proofs.Processes.{process_there}

of_work : (w : Work) (p : Process) → Some p ≡ option_map (λ (b : Batch). b.process) (batch_brought w) → p.service ≡ service_brought w
of_work (brings.Batch b) p e = let same : p ≡ b.process = cc e in ap (λ (x : Process). x.service) same
of_work (brings.TraceLimit n) p e = absurd (cc e)

after : (h : List Entry) (n : ℕ) (p : Process)
    → Some p ≡ option_map (λ (b : Batch). b.process) (option_and_then (λ (x : Entry). batch_brought x.work) (slice_get h n)) → (n < length h)
    × (p.service ≡ service_at h n)
after [] n p e = absurd (cc e)
after (x ∷ h) zero p e = (omega arith, of_work x.work p e)
after (x ∷ h) (suc n) p e =
    let r = after h n p e in
    let below : n < length h = r.0 in
    (omega (arith, below), r.1)

pub at_place : (h : List Entry) (place : ℕ) (p : Process) → Some p ≡ process_at h place → (0 < place)
    × ((place - 1 < length h) × (p.service ≡ service_at h (place - 1)))
at_place h zero p e = absurd (cc e)
at_place h (suc n) p e =
    let r = after h n p e in
    let below : n < length h = r.0 in
    let m : suc n - 1 ≡ n = omega arith in
    (omega arith, (omega (arith, m, below), r.1 ∙ ap (service_at h) (sym m)))

-- the span at a spot was brought by the entry at its place
pub place_there : (h : List Entry) (s : Spot) (q : Placed) → Some q ≡ span_at h s → (0 < s.place)
    × ((s.place - 1 < length h) × (q.process.service ≡ service_at h (s.place - 1)))
place_there h s q e = at_place h s.place q.process (process_there h s q e)

-- and its service has the number that is stored there
pub number_there : (h : List Entry) (service_numbers : List ℕ) (s : Spot) (q : Placed) → AreServiceNumbers h service_numbers → Some q ≡ span_at h s
    → StandsFor (service_at h) (service_number_in h) (get_or service_numbers (s.place - 1) 0, q.process.service)
number_there h service_numbers s q kept e =
    let there = place_there h s q e in
    let n = s.place - 1 in
    let below : n < length h = there.1.0 in
    let same : q.process.service ≡ service_at h n = there.1.1 in
    let number : get_or service_numbers n 0 ≡ service_number_in h q.process.service = kept.each n below ∙ ap (service_number_in h) (sym same) in
    let within : service_number_in h (service_at h n) ≤ n = service_number_within h n below in
    let first : service_number_in h q.process.service ≡ service_number_in h (service_at h n) = ap (service_number_in h) same in
    let many = as_many_reporters h in
    let known : q.process.service ≡ service_at h (service_number_in h q.process.service) =
    text_is q.process.service (service_at h (service_number_in h q.process.service))
    (passes_at_first (same_text q.process.service) (reporters h) [] (omega (arith, within, first, many, below))) in
    (number, ap (service_at h) number ∙ sym known)
