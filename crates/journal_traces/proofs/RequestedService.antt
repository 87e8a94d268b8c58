-- The requested service, identified by the numbers of services.
use Rattle.std.proofs.Common.{◌≡◌, ℕ, ◌-◌, ◌<◌, List, [], length, get_or, sym, ap, ◌∙◌, arith, inl, inr}
use Rattle.std.specs.Prelude.{cond, nat_lt, Option, Some, None}
use Rattle.std.specs.List.{position_or_len}
use Rattle.std.proofs.lemmas.Bool.{lt-ltb, ltb-true, cases_lt}
use Rattle.std.proofs.lemmas.Option.{cond_some}
use Rattle.std.proofs.lemmas.List.Sums.{passes_at_first, fails_before_first}
use Rattle.jaeger_model.specs.declared.batch.Process.{Process}
use Rattle.jaeger_model.specs.Texts.{same_text}
use Rattle.trace_model.specs.declared.entry.Entry.{Entry}
use Rattle.trace_model.specs.declared.query.Find.{Find}
use Rattle.trace_model.proofs.NameLaws.{same_where, text_is, text_turned}
use Rattle.service_index.specs.ServicePlaces.{reporters, service_at, service_number_in, service_number_of}
use Rattle.service_index.proofs.ServiceNumbers.{service_number_within, as_many_reporters}
use Rattle.journal_traces.specs.Told.{AreTold}
use Rattle.journal_traces.specs.ReportedSpots.{is_number}
use Rattle.collected_traces.specs.EntriesAtPlaces.{process_at}
use Rattle.journal_traces.proofs.ServiceNumbersOfSpots.{at_place}

-- of an entry, by the number of its own service
by_number : (h : List Entry) (s : List ℕ) (service : Option ℕ) (n : ℕ) → n < length h → service ≡ service_number_of h s
    → is_number service (service_number_in h (service_at h n)) ≡ same_text s (service_at h n)
by_number h s None n below none =
    let many = as_many_reporters h in
    let p = position_or_len (same_text s) (reporters h) in
    sym (elim (cases_lt n p) [
      | inl low ↦ fails_before_first (same_text s) (reporters h) n [] low
      | inr high ↦ let within : p < length (reporters h) = omega arith in
          absurd (let some : None ≡ Some p = none ∙ ap (λ b. cond b (Some p) None) (lt-ltb p (length (reporters h)) within) in cc some)
    ])
by_number h s (Some service) n below some =
    let many = as_many_reporters h in
    let t = service_at h n in
    let own = service_number_in h t in
    let parts = cond_some (nat_lt (service_number_in h s) (length (reporters h))) (service_number_in h s) service (sym some) in
    let known : service_number_in h s < length (reporters h) = ltb-true (service_number_in h s) (length (reporters h)) parts.0 in
    let within = service_number_within h n below in
    let asked : s ≡ service_at h (service_number_in h s) =
    text_is s (service_at h (service_number_in h s)) (passes_at_first (same_text s) (reporters h) [] known) in
    let there : t ≡ service_at h own = text_is t (service_at h own) (passes_at_first (same_text t) (reporters h) [] (omega (arith, within, below, many))) in
    same_where own service t s (λ one. there ∙ ap (service_at h) (one ∙ sym parts.1) ∙ sym asked) (λ same. ap (service_number_in h) same ∙ parts.1)
    ∙ text_turned t s

pub is_requested_service : (q : Find) (h : List Entry) (service_numbers : List ℕ) (service : Option ℕ) (place : ℕ) (p : Process)
    → AreTold q h service_numbers service
    → Some p ≡ process_at h place → is_number service (get_or service_numbers (place - 1) 0) ≡ same_text q.service p.service
is_requested_service q h service_numbers service place p correct there =
    let at = at_place h place p there in
    let n = place - 1 in
    ap (is_number service) (correct.numbers.each n at.1.0) ∙ by_number h q.service service n at.1.0 correct.asked ∙ ap (same_text q.service) (sym at.1.1)
