-- What follows from each answer to a submitted entry. Proofs of crates above use these facts, and never unfold
-- `admission`.
use Rattle.std.proofs.Common.{◌≡◌, ℕ, suc, ◌+◌, ◌<◌, ◌≤◌, Bool, true, false, ◌&&◌, List, [], length, get_or, Some, None, refl, sym, ap, ◌∙◌, arith}
use Rattle.std.specs.Prelude.{Result, Ok, Err, nat_le, position, if◌then◌else◌}
use Rattle.std.specs.List.{list_any}
use Rattle.std.specs.Option.{option_map_or, is_some}
use Rattle.std.proofs.lemmas.Bool.{leb-true, leb-false, false≢true, and_parts}
use Rattle.std.proofs.lemmas.Grind.{common_steps}
use Rattle.std.proofs.lemmas.List.Quantifiers.{position-Some}
use Rattle.std.proofs.lemmas.List.Folds.{list_any_at}
use Rattle.std.proofs.lemmas.Option.{slice_get-get_or}
use Rattle.trace_model.specs.declared.admission.Admission.{Admission}
use Rattle.trace_model.specs.declared.admission.Admission.TheVariants.{Added, Resent}
use Rattle.trace_model.specs.declared.entry.Entry.{Entry}
use Rattle.trace_model.specs.declared.limits.Limits.{Limits}
use Rattle.trace_model.specs.declared.refusal.Refusal.{Refusal}
use Rattle.trace_model.specs.declared.refusal.Refusal.TheVariants.{JournalFull, Stale, Conflict}
use Rattle.trace_model.specs.WorkLaws.{same_work-decides}
use Rattle.trace_model.specs.EntryWork.{spans_brought, same_work}
use Rattle.trace_model.specs.Histories.{last_number, span_count}
use Rattle.trace_model.specs.ResentBatches.{resends, is_sent, sent_before}
use Rattle.trace_model.specs.Places.{entry_at}
use Rattle.trace_model.specs.Refusals.{has_room, repeated, admitted_anew, admission}
use Rattle.trace_model.proofs.Lists.{place_is_any, none_is}

-- ---- places
module _ {A : Type 0} (p : A → Bool) where
  pub none_passes : (xs : List A) → position p xs ≡ None → list_any p xs ≡ false
  none_passes xs e = sym (place_is_any p xs) ∙ ap is_some e

  pub no_place : (xs : List A) → list_any p xs ≡ false → position p xs ≡ None
  no_place xs e = none_is (position p xs) (place_is_any p xs ∙ e)

pub not_sent : (h : List Entry) (e : Entry) → sent_before h e ≡ None → is_sent h e ≡ false
not_sent h e none = none_passes (λ (d : Entry). resends e.work d.work) h none

pub sent_nowhere : (h : List Entry) (e : Entry) → is_sent h e ≡ false → sent_before h e ≡ None
sent_nowhere h e none = no_place (λ (d : Entry). resends e.work d.work) h none

-- ---- what each answer means
-- it is added at the end: a legal history stays legal
pub record MayFollow (limits : Limits) (h : List Entry) (e : Entry) : Type 0 where
  pub rises : last_number e.seat h < e.number
  pub unsent : is_sent h e ≡ false
  pub batches : length h < limits.batches
  pub spans : span_count h + length (spans_brought e.work) ≤ limits.spans

-- the entry at the place answers for it
pub record IsAnswered (h : List Entry) (e : Entry) (place : ℕ) : Type 0 where
  pub by : Entry
  pub stands : entry_at h place ≡ Some by
  pub resent : resends e.work by.work ≡ true
  pub same : by.work ≡ e.work
  pub sent : is_sent h e ≡ true

-- the entry at the place has its process and its number, and other spans
pub record IsInConflict (h : List Entry) (e : Entry) (place : ℕ) : Type 0 where
  pub with_other : Entry
  pub stands : entry_at h place ≡ Some with_other
  pub resent : resends e.work with_other.work ≡ true
  pub other : with_other.work ≡ e.work → ⊥
  pub sent : is_sent h e ≡ true

abbrev pub IsSaid : Limits → List Entry → Entry → Result Admission Refusal → Type 0
IsSaid limits h e (Ok Added) = MayFollow limits h e
IsSaid limits h e (Ok (Resent place)) = IsAnswered h e place
IsSaid limits h e (Err (Stale last)) = (last ≡ last_number e.seat h) × (e.number ≤ last) × (is_sent h e ≡ false)
IsSaid limits h e (Err (JournalFull batches spans)) = (batches ≡ length h) × (spans ≡ span_count h) × (is_sent h e ≡ false)
IsSaid limits h e (Err (Conflict place)) = IsInConflict h e place
IsSaid limits h e (Err why) = ⊥

anew_said : (limits : Limits) (h : List Entry) (e : Entry) → is_sent h e ≡ false → IsSaid limits h e (admitted_anew limits h e)
anew_said limits h e unsent =
    elim (nat_le e.number (last_number e.seat h)) as (λ b. nat_le e.number (last_number e.seat h) ≡ b
    → IsSaid limits h e (if b then Err (Stale (last_number e.seat h)) else if has_room limits h e then Ok Added else Err
    (JournalFull (length h) (span_count h)))) [
      | true ↦ λ t. (refl, leb-true e.number (last_number e.seat h) t, unsent)
      | false ↦ λ f. elim (has_room limits h e) as (λ b. has_room limits h e ≡ b
          → IsSaid limits h e (if b then Ok Added else Err (JournalFull (length h) (span_count h)))) [
            | true ↦ λ r.
                let rooms = and_parts (nat_le (length h + 1) limits.batches) (nat_le (span_count h + length (spans_brought e.work)) limits.spans) r in
                record {
                  rises = leb-false e.number (last_number e.seat h) f;
                  unsent = unsent;
                  batches = let few = leb-true (length h + 1) limits.batches rooms.0 in omega arith;
                  spans = leb-true (span_count h + length (spans_brought e.work)) limits.spans rooms.1;
                }
            | false ↦ λ r. (refl, refl, unsent)
          ] refl
    ] refl

repeated_said : (limits : Limits) (h : List Entry) (e : Entry) (n : ℕ) → sent_before h e ≡ Some n → IsSaid limits h e (repeated h e n)
repeated_said limits h e n at =
    let p : Entry → Bool = λ d. resends e.work d.work in
    let found = position-Some p h n e at in
    let stands : entry_at h (suc n) ≡ Some (get_or h n e) = slice_get-get_or h n e found.0 in
    let sent = list_any_at p h n e found.0 found.1 in
    elim (same_work e.work (get_or h n e).work) as (λ b. same_work e.work (get_or h n e).work ≡ b
    → IsSaid limits h e (if b then Ok (Resent (suc n)) else Err (Conflict (suc n)))) [
      | true ↦ λ s. record {
        by = get_or h n e;
        stands = stands;
        resent = found.1;
        same = sym ((same_work-decides e.work (get_or h n e).work).0 s);
        sent = sent;
      }
      | false ↦ λ s. record {
        with_other = get_or h n e;
        stands = stands;
        resent = found.1;
        other = λ q. false≢true (sym s ∙ (same_work-decides e.work (get_or h n e).work).1 (sym q));
        sent = sent;
      }
    ] refl

-- each answer has its meaning
pub admission_says : (limits : Limits) (h : List Entry) (e : Entry) → IsSaid limits h e (admission limits h e)
unfolding admission
admission_says limits h e =
    elim (sent_before h e) as (λ o. sent_before h e ≡ o → IsSaid limits h e (option_map_or (repeated h e) o (admitted_anew limits h e))) [
      | None ↦ λ at. anew_said limits h e (not_sent h e at)
      | Some n ↦ λ at. repeated_said limits h e n at
    ] refl

-- ---- what makes each answer
le_leb : (m n : ℕ) → m ≤ n → nat_le m n ≡ true
le_leb m n l = grind (arith, common_steps)

lt_leb : (m n : ℕ) → n < m → nat_le m n ≡ false
lt_leb m n l = grind (arith, common_steps)

-- one that may follow is added
pub follows_added : (limits : Limits) (h : List Entry) (e : Entry) → MayFollow limits h e → admission limits h e ≡ Ok Added
unfolding admission
follows_added limits h e may =
    ap (λ o. option_map_or (repeated h e) o (admitted_anew limits h e)) (sent_nowhere h e may.unsent)
    ∙ ap (λ b. if b then Err (Stale (last_number e.seat h)) else if has_room limits h e then Ok Added else Err (JournalFull (length h) (span_count h)))
    (lt_leb e.number (last_number e.seat h) may.rises)
    ∙ ap (λ b. if (b && nat_le (span_count h + length (spans_brought e.work)) limits.spans) then Ok Added else Err (JournalFull (length h) (span_count h)))
    (le_leb (length h + 1) limits.batches (omega (arith, may.batches)))
    ∙ ap (λ b. if b then Ok Added else Err (JournalFull (length h) (span_count h)))
    (le_leb (span_count h + length (spans_brought e.work)) limits.spans may.spans)

-- ---- how it is judged
pub admission_repeated : (limits : Limits) (h : List Entry) (e : Entry) (n : ℕ) → sent_before h e ≡ Some n → admission limits h e ≡ repeated h e n
unfolding admission
admission_repeated limits h e n at = ap (λ o. option_map_or (repeated h e) o (admitted_anew limits h e)) at

pub admission_anew : (limits : Limits) (h : List Entry) (e : Entry) → sent_before h e ≡ None → admission limits h e ≡ admitted_anew limits h e
unfolding admission
admission_anew limits h e at = ap (λ o. option_map_or (repeated h e) o (admitted_anew limits h e)) at
