-- What stays true after an entry that may be appended.
use Rattle.std.proofs.Common.{◌≡◌, ℕ, ◌+◌, ◌<◌, Bool, true, false, max, subst, get_or, List, [], ◌∷◌, ◌++◌, length, refl, sym, ap, ◌∙◌, arith, eqb-true, Some}
use Rattle.std.specs.Prelude.{◌==◌, Ok, if◌then◌else◌, slice_get, option_map}
use Rattle.trace_model.specs.declared.entry.Entry.{Entry}
use Rattle.trace_model.specs.declared.limits.Limits.{Limits}
use Rattle.trace_model.specs.Histories.{IsLegal, last_number, span_count}
use Rattle.trace_model.specs.EntryWork.{spans_brought}
use Rattle.trace_model.specs.declared.admission.Admission.TheVariants.{Added}
use Rattle.trace_model.specs.Refusals.{admission}
use Rattle.trace_model.proofs.Admissions.{MayFollow, IsSaid, admission_says}
use Rattle.sent_batches.specs.SentIndex.{Sent, IsSentKept}
use Rattle.trace_model.proofs.Legality.{legal_push, span_count_push, last_number_push}
use Rattle.arrival_journal.specs.JournalInvariants.{JournalParts, IsJournalKept}
use Rattle.arrival_journal.specs.declared.outline.Outline.{Outline}
use Rattle.arrival_journal.specs.Outlines.{outline_in, outlines_kept, with_outline}
use Rattle.std.proofs.lemmas.List.{map_push}
use Rattle.std.proofs.lemmas.Option.{slice_get-map}

last_push : (h : List Entry) (e : Entry) (old new : List ℕ) → ((seat : ℕ) → get_or old seat 0 ≡ last_number seat h) → last_number e.seat h < e.number
    → ((seat : ℕ) → get_or new seat 0 ≡ (if e.seat == seat then e.number else get_or old seat 0)) → (seat : ℕ)
    → get_or new seat 0 ≡ last_number seat (h ++ e ∷ [])
last_push h e old new last rises noted seat =
    noted seat
    ∙ elim (e.seat == seat) as (λ b. (e.seat == seat) ≡ b
    → (if b then e.number else get_or old seat 0) ≡ (if b then max (last_number seat h) e.number else last_number seat h)) [
      | true ↦ λ same. let own : last_number seat h < e.number = let P : ℕ → Type 0 = λ s. last_number s h < e.number in
          subst P (eqb-true e.seat seat same) rises in omega arith
      | false ↦ λ other. last seat
    ] refl
    ∙ sym (last_number_push seat h e)

outlines_push : (keeps : Bool) (h : List Entry) (e : Entry) → outlines_kept keeps (h ++ e ∷ []) ≡ with_outline keeps (outlines_kept keeps h) (outline_in e)
outlines_push true h e = map_push outline_in h e
outlines_push false h e = refl

-- an outline that is kept is that of the entry at its place
pub kept_at : (keeps : Bool) (h : List Entry) (outlines : List Outline) (i : ℕ) (o : Outline) → outlines ≡ outlines_kept keeps h → slice_get outlines i ≡ Some o
    → Some o ≡ option_map outline_in (slice_get h i)
kept_at true h outlines i o kept found = sym found ∙ ap (λ os. slice_get os i) kept ∙ slice_get-map outline_in h i
kept_at false h outlines i o kept found = absurd (let e : slice_get (outlines_kept false h) i ≡ Some o = ap (λ os. slice_get os i) (sym kept) ∙ found in cc)

-- each part is the old one with the entry, and the capacities are the old ones
pub record HasEntry (old new : JournalParts) (e : Entry) : Type 0 where
  pub limits : new.limits ≡ old.limits
  pub entries : new.entries ≡ old.entries ++ e ∷ []
  pub keeps : new.keeps_outlines ≡ old.keeps_outlines
  pub outlined : new.outlines ≡ with_outline old.keeps_outlines old.outlines (outline_in e)
  pub counted : new.spans ≡ old.spans + length (spans_brought e.work)
  pub noted : (seat : ℕ) → get_or new.last_numbers seat 0 ≡ (if e.seat == seat then e.number else get_or old.last_numbers seat 0)
  pub room : new.entry_capacity ≡ old.entry_capacity
  pub room_for_outlines : new.outline_capacity ≡ old.outline_capacity
  pub seats : new.seat_capacity ≡ old.seat_capacity
  pub sent : IsSentKept (old.entries ++ e ∷ []) new.sent
  pub room_for_sent : new.sent.room ≡ old.sent.room

pub kept_push : (old new : JournalParts) (e : Entry) → IsJournalKept old → admission old.limits old.entries e ≡ Ok Added → HasEntry old new e
    → IsJournalKept new
kept_push old new e kept added has =
    let follows : MayFollow old.limits old.entries e = subst (IsSaid old.limits old.entries e) added (admission_says old.limits old.entries e) in
    let grown : old.entries ++ e ∷ [] ≡ new.entries = sym has.entries in
    let same_limits : old.limits ≡ new.limits = sym has.limits in
    let batches : new.limits.batches ≡ old.limits.batches = ap (λ (l : Limits). l.batches) has.limits in
    record {
      legal =
          subst (λ (h : List Entry). IsLegal new.limits h) grown
          (subst (λ (l : Limits). IsLegal l (old.entries ++ e ∷ [])) same_limits
          (legal_push old.limits old.entries e kept.legal follows.rises follows.unsent follows.batches follows.spans));
      room = let room = kept.room in omega (arith, batches, has.room);
      outlined =
          has.outlined ∙ ap (λ os. with_outline old.keeps_outlines os (outline_in e)) kept.outlined
          ∙ sym (outlines_push old.keeps_outlines old.entries e) ∙ ap (outlines_kept old.keeps_outlines) grown
          ∙ ap (λ b. outlines_kept b new.entries) (sym has.keeps);
      room_for_outlines = λ kept_too. let room = kept.room_for_outlines (sym has.keeps ∙ kept_too) in omega (arith, batches, has.room_for_outlines);
      counted =
          has.counted ∙ ap (λ k. k + length (spans_brought e.work)) kept.counted ∙ sym (span_count_push old.entries e) ∙ ap span_count grown;
      last = λ seat.
          last_push old.entries e old.last_numbers new.last_numbers kept.last follows.rises has.noted seat ∙ ap (last_number seat) grown;
      seats_fit = let fit = kept.seats_fit in omega (arith, has.seats);
      known = subst (λ (h : List Entry). IsSentKept h new.sent) grown has.sent;
      room_for_sent = let room = kept.room_for_sent in omega (arith, batches, has.room_for_sent);
    }
