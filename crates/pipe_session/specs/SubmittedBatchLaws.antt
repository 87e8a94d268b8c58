-- Lemmas of the laws in DirectLaws, which an impl of this crate names. A clause can't name its own crate's proofs/, so
-- they are in specs/.
-- What the store holds after a batch was submitted.
use Rattle.std.proofs.Common.{◌≡◌, ℕ, zero, suc, [], ◌∷◌, ◌++◌, take, drop, Some, Ok, refl, sym, ap, ◌∙◌, subst, append-nil, arith}
use Rattle.std.proofs.Math.Seq.{split_at}
use Rattle.std.proofs.lemmas.List.{length-take-le}
use Rattle.std.proofs.lemmas.Option.{slice_get_within, get_or_from_slice_get}
use Rattle.jaeger_model.specs.declared.batch.Batch.{Batch}
use Rattle.trace_model.specs.declared.admission.Admission.{Admission}
use Rattle.trace_model.specs.declared.admission.Admission.TheVariants.{Added, Resent}
use Rattle.trace_model.specs.declared.entry.Entry.{Entry}
use Rattle.trace_model.specs.declared.entry.Work.TheVariants as brings
use Rattle.trace_model.specs.LimitedHistories.{LimitedHistory}
use Rattle.trace_model.specs.Places.{entry_at}
use Rattle.trace_model.specs.Refusals.{place_of, with_admitted}
use Rattle.trace_model.proofs.Admissions.{IsSaid, IsAnswered, admission_says}
use Rattle.arrival_journal.specs.Journals.{admission_by}
use Rattle.trace_model.specs.StoreKnowledge.{History, IsPrefixOf, HasAt}

-- the entries held before come first, and the limits are the same
pub grows : (s : LimitedHistory) (e : Entry) (a : Admission) → IsPrefixOf s.entries (with_admitted s e (Ok a)).entries
grows s e Added = (e ∷ [], refl)
grows s e (Resent place) = ([], sym (append-nil s.entries))

pub limits_stay : (s : LimitedHistory) (e : Entry) (a : Admission) → (with_admitted s e (Ok a)).limits ≡ s.limits
limits_stay s e Added = refl
limits_stay s e (Resent place) = refl

-- the entry at a place has the batch
stands : (h : History) (place : ℕ) (d : Entry) (b : Batch) → entry_at h place ≡ Some d → d.work ≡ brings.Batch b → HasAt h place b
stands h zero d b at brought = absurd cc
stands h (suc n) d b at brought =
    let within = slice_get_within h n d at in
    let found = get_or_from_slice_get h n d d at in
    let short = length-take-le n h (omega (arith, within)) in
    record {
      before = take n h;
      entry = d;
      after = drop (suc n) h;
      whole = split_at h n d within ∙ ap (λ (x : Entry). take n h ++ x ∷ drop (suc n) h) found;
      work_is = brought;
      place_is = omega (arith, short);
    }

-- an accepted batch is at its place, whether it was added or was there before
pub has_batch : (s : LimitedHistory) (e : Entry) (b : Batch) (a : Admission) → e.work ≡ brings.Batch b → admission_by s e ≡ Ok a
    → HasAt (with_admitted s e (Ok a)).entries (place_of s.entries a) b
has_batch s e b Added brought is = record { before = s.entries; entry = e; after = []; whole = refl; work_is = brought; place_is = refl }
has_batch s e b (Resent place) brought is =
    let answered : IsAnswered s.entries e place = subst (IsSaid s.limits s.entries e) is (admission_says s.limits s.entries e) in
    stands s.entries place answered.by b answered.stands (answered.same ∙ brought)
