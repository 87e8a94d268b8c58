-- What holds of every machine that starts anew: what is accepted is legal, the numbers of what waits fit after it,
-- and readers have seen prefixes of the history.
use Rattle.std.proofs.Common.{◌≡◌, ℕ, ◌+◌, true, false, List, [], ◌∷◌, ◌++◌, length, take, drop, Some, None, refl, sym, ap, subst, append_assoc, arith}
use Rattle.std.specs.Prelude.{slice_get, nat_le, if◌then◌else◌}
use Rattle.std.specs.List.{All}
use Rattle.std.proofs.lemmas.Bool.{and_parts, leb-true}
use Rattle.std.proofs.lemmas.List.{append-nil, take-append-drop}
use Rattle.std.proofs.lemmas.List.Elements.{All-nil, All-replicate, All-get_or, All-set, All-weaker}
use Rattle.std.proofs.lemmas.Option.{none-some, same_Some, slice_get_within, get_or_from_slice_get}
use mathlib.Core.List.{IsPrefix}
use Rattle.trace_model.specs.EntryWork.{spans_brought}
use Rattle.trace_model.specs.declared.entry.Work.TheVariants as brings
use Rattle.trace_model.specs.declared.entry.Entry.{Entry}
use Rattle.trace_model.specs.declared.limits.Limits.{Limits}
use Rattle.trace_model.specs.Histories.{span_count, IsLegal}
use Rattle.trace_model.specs.ResentBatches.{sent_before}
use Rattle.trace_model.specs.Refusals.{has_room}
use Rattle.trace_model.proofs.Admissions.{not_sent}
use Rattle.trace_model.proofs.Legality.{legal_empty, legal_push}
use Rattle.trace_model.proofs.Prefixes.{prefix_self, prefix_trans, prefix_append}
use Rattle.schedule_core.specs.declared.step.Step.{Step}
use Rattle.schedule_core.specs.Machine.{Machine, Reader, Visit, new_machine, accepted, longer, step, at_last}
use Rattle.schedule_core.specs.JobNumbers.{IsNumbered}
use Rattle.schedule_core.proofs.JobNumbers.{numbered_put, numbered_taken, numbered_dropped, numbered_above}
use Rattle.schedule_core.proofs.StepCases.{on_step}

-- a reader has seen a prefix of the history, and is inside at that
pub record StandsIn (h : List Entry) (reader : Reader) : Type 0 where
  pub seen : IsPrefix reader.seen h
  pub visit : (v : Visit) → reader.inside ≡ Some v → v.list ≡ reader.seen

pub record Fits (limits : Limits) (m : Machine) : Type 0 where
  pub bounds : m.limits ≡ limits
  pub legal : IsLegal limits (accepted m)
  pub numbered : IsNumbered (accepted m) m.waiting m.numbers
  pub readers : All (StandsIn m.history) m.readers

-- ---- at first

stands_outside : (h seen : List Entry) → IsPrefix seen h → StandsIn h (record { seen = seen; inside = None })
stands_outside h seen p = record { seen = p; visit = λ v e. absurd (none-some v e) }

pub new_fits : (limits : Limits) → Fits limits (new_machine limits)
new_fits limits = record {
  bounds = refl;
  legal = legal_empty limits;
  numbered = record { rising = tt; below = All-nil _ };
  readers = All-replicate (StandsIn []) 64 _ (stands_outside [] [] (prefix_self []));
}

-- ---- readers

pub reader_stands : (h : List Entry) (readers : List Reader) (r : ℕ) (reader : Reader) → All (StandsIn h) readers
    → slice_get readers r ≡ Some reader → StandsIn h reader
reader_stands h readers r reader all e =
    subst (StandsIn h) (get_or_from_slice_get readers r reader reader e)
    (All-get_or (StandsIn h) readers r reader (slice_get_within readers r reader e) all)

-- readers stay where they are while the history grows
stands_grown : (h more : List Entry) (readers : List Reader) → All (StandsIn h) readers → All (StandsIn (h ++ more)) readers
stands_grown h more =
    All-weaker (StandsIn h) (StandsIn (h ++ more)) (λ reader s. record {
      seen = prefix_trans reader.seen h (h ++ more) s.seen (prefix_append h more);
      visit = s.visit;
    })

stands_entered : (h : List Entry) (publishes : ℕ)
    → StandsIn h (record { seen = h; inside = Some (record { list = h; publishes = publishes }) })
stands_entered h publishes = record { seen = prefix_self h; visit = λ v e. sym (ap (λ (w : Visit). w.list) (same_Some _ v e)) }

longer_prefix : (a : List Entry) (n : ℕ) (h : List Entry) → IsPrefix a h → IsPrefix (longer a (take n h)) h
longer_prefix a n h p = elim (nat_le (length a) (length (take n h))) as (λ b. IsPrefix (if b then take n h else a) h) [
  | true ↦ (drop n h, take-append-drop n h)
  | false ↦ p
]

-- ---- jobs

legal_taken : (limits : Limits) (m : Machine) (job : Entry) (rest : List Entry) → Fits limits m → m.waiting ≡ job ∷ rest
    → sent_before (accepted m) job ≡ None → has_room m.limits (accepted m) job ≡ true
    → IsLegal limits (accepted m ++ job ∷ [])
legal_taken limits m job rest fits e unsent room =
    let within : has_room limits (accepted m) job ≡ true = subst (λ l. has_room l (accepted m) job ≡ true) fits.bounds room in
    let spans = span_count (accepted m) + length (spans_brought job.work) in
    let parts = and_parts (nat_le (length (accepted m) + 1) limits.batches) (nat_le spans limits.spans) within in
    let batches = leb-true (length (accepted m) + 1) limits.batches parts.0 in
    legal_push limits (accepted m) job fits.legal
    (numbered_above (accepted m) rest m.numbers job (subst (λ w. IsNumbered (accepted m) w m.numbers) e fits.numbered))
    (not_sent (accepted m) job unsent)
    (omega arith)
    (leb-true spans limits.spans parts.1)

-- ---- every step

pub step_fits : (limits : Limits) (m : Machine) → Fits limits m → (s : Step) → Fits limits (step m s).machine
step_fits limits m fits = on_step m (λ s t. Fits limits t.machine) (record {
  silent = λ s o quiet. fits;
  put = λ seat batch last e. record {
    bounds = fits.bounds;
    legal = fits.legal;
    numbered = numbered_put (accepted m) m.waiting m.numbers (record { seat = seat; number = last + 1; work = brings.Batch batch }) last fits.numbered e refl;
    readers = fits.readers;
  };
  limited = λ seat n last e. record {
    bounds = fits.bounds;
    legal = fits.legal;
    numbered = numbered_put (accepted m) m.waiting m.numbers (record { seat = seat; number = last + 1; work = brings.TraceLimit n }) last fits.numbered e refl;
    readers = fits.readers;
  };
  taken = λ job rest e unsent room. record {
    bounds = fits.bounds;
    legal = subst (IsLegal limits) (append_assoc m.history m.pending (job ∷ [])) (legal_taken limits m job rest fits e unsent room);
    numbered = subst (λ a. IsNumbered a rest m.numbers) (append_assoc m.history m.pending (job ∷ []))
        (numbered_taken (accepted m) rest m.numbers job (subst (λ w. IsNumbered (accepted m) w m.numbers) e fits.numbered));
    readers = fits.readers;
  };
  dropped = λ job rest o e says. record {
    bounds = fits.bounds;
    legal = fits.legal;
    numbered = numbered_dropped (accepted m) rest m.numbers job (subst (λ w. IsNumbered (accepted m) w m.numbers) e fits.numbered);
    readers = fits.readers;
  };
  shown = record {
    bounds = fits.bounds;
    legal = subst (IsLegal limits) (sym (append-nil (accepted m))) fits.legal;
    numbered = subst (λ a. IsNumbered a m.waiting m.numbers) (sym (append-nil (accepted m))) fits.numbered;
    readers = stands_grown m.history m.pending m.readers fits.readers;
  };
  entered = λ r reader e. record {
    bounds = fits.bounds;
    legal = fits.legal;
    numbered = fits.numbered;
    readers = All-set (StandsIn m.history) m.readers r _ (stands_entered m.history (length m.fronts)) fits.readers;
  };
  answered = λ r query reader v e is. fits;
  learnt = λ r k reader front e. record {
    bounds = fits.bounds;
    legal = fits.legal;
    numbered = fits.numbered;
    readers =
        let stands = reader_stands m.history m.readers r reader fits.readers e in
        All-set (StandsIn m.history) m.readers r _ (stands_outside m.history _ (longer_prefix reader.seen front m.history stands.seen)) fits.readers;
  };
  left = λ r reader e. record {
    bounds = fits.bounds;
    legal = fits.legal;
    numbered = fits.numbered;
    readers = All-set (StandsIn m.history) m.readers r _
        (stands_outside m.history reader.seen (reader_stands m.history m.readers r reader fits.readers e).seen) fits.readers;
  };
})

pub last_fits : (limits : Limits) (m : Machine) (ss : List Step) → Fits limits m → Fits limits (at_last m ss)
last_fits limits m [] fits = fits
last_fits limits m (s ∷ ss) fits = last_fits limits (step m s).machine ss (step_fits limits m fits s)

pub accepted_legal : (limits : Limits) (steps : List Step) → IsLegal limits (accepted (at_last (new_machine limits) steps))
accepted_legal limits steps = (last_fits limits (new_machine limits) steps (new_fits limits)).legal
