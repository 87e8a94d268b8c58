-- A history is legal with one more entry exactly if that is added; its prefixes are legal; its splits.
use Rattle.std.proofs.Common.{◌≡◌, ◌<◌, List, [], ◌∷◌, ◌++◌, refl, sym, ap, subst, append_assoc, arith}
use Rattle.std.specs.Prelude.{◌↔◌, Ok}
use Rattle.std.proofs.lemmas.List.{append-nil}
use Rattle.trace_model.specs.declared.entry.Entry.{Entry}
use Rattle.trace_model.specs.declared.limits.Limits.{Limits}
use Rattle.trace_model.specs.declared.admission.Admission.TheVariants.{Added}
use Rattle.trace_model.specs.Refusals.{admission}
use Rattle.trace_model.specs.Histories.{last_number, IsLegal, AboveEach, RisesAfter}
use Rattle.trace_model.proofs.Admissions.{MayFollow, IsSaid, admission_says}
use Rattle.trace_model.proofs.Legality.{last_is_added, rises_pushed, above_last, above_each, legal_push, rises_front, legal_front}
use Rattle.store_laws.specs.Splits.{RisesBySplits}
use mathlib.Core.List.{IsPrefix}

pub legal_prefix : (limits : Limits) (h k : List Entry) → IsPrefix h k → IsLegal limits k → IsLegal limits h
legal_prefix limits h k p l = legal_front limits h p.0 (subst (IsLegal limits) (sym p.1) l)

-- ---- one more entry
-- a legal list stays legal with an entry that is added
pub legal_snoc : (limits : Limits) (h : List Entry) (e : Entry) → IsLegal limits h → admission limits h e ≡ Ok Added → IsLegal limits (h ++ e ∷ [])
legal_snoc limits h e l added =
    let f : MayFollow limits h e = subst (IsSaid limits h e) added (admission_says limits h e) in
    legal_push limits h e l f.rises f.unsent f.batches f.spans

-- ---- splits
-- the number of an entry of an ascending list is above all before it
rises_at : (before h : List Entry) (e : Entry) (after : List Entry) → RisesAfter before (h ++ e ∷ after) → (0 < e.number) × AboveEach e (before ++ h)
rises_at before h e after r =
    rises_pushed before h e (rises_front before (h ++ e ∷ []) after (subst (RisesAfter before) (sym (append_assoc h (e ∷ []) after)) r))

pub rises_splits : (h : List Entry) → RisesAfter [] h → RisesBySplits h
rises_splits h r before e after same = let a = rises_at [] before e after (subst (RisesAfter []) same r) in above_last e before a.0 a.1

splits_after : (before h : List Entry)
    → ((front : List Entry) (e : Entry) (after : List Entry) → h ≡ front ++ e ∷ after → last_number e.seat (before ++ front) < e.number) → RisesAfter before h
splits_after before [] f = tt
splits_after before (e ∷ h) f =
    let a = above_each e before (subst (λ l. last_number e.seat l < e.number) (append-nil before) (f [] e h refl)) in (
      a.0,
      a.1,
      splits_after (before ++ e ∷ []) h (λ front d after same.
          subst (λ l. last_number d.seat l < d.number) (sym (append_assoc before (e ∷ []) front)) (f (e ∷ front) d after (ap (λ l. e ∷ l) same))),
    )

pub splits_rise : (h : List Entry) → RisesBySplits h → RisesAfter [] h
splits_rise h f = splits_after [] h f

pub each_at : (f : Entry) (before : List Entry) (e : Entry) (after : List Entry) → AboveEach f (before ++ e ∷ after) → e.seat ≡ f.seat → e.number < f.number
each_at f [] e after a = a.0
each_at f (d ∷ before) e after a = each_at f before e after a.1

-- of two entries of a seat the later has the greater number
pub numbers_rise : (limits : Limits) (before : List Entry) (e : Entry) (between : List Entry) (f : Entry) (after : List Entry)
    → IsLegal limits (before ++ e ∷ (between ++ f ∷ after)) → e.seat ≡ f.seat → e.number < f.number
numbers_rise limits before e between f after l =
    let r : RisesAfter [] ((before ++ e ∷ between) ++ f ∷ after) = subst (RisesAfter []) (sym (append_assoc before (e ∷ between) (f ∷ after))) l.rising in
    each_at f before e between (rises_at [] (before ++ e ∷ between) f after r).1

-- no entry is there twice
pub never_twice : (limits : Limits) (before : List Entry) (e : Entry) (between after : List Entry) → IsLegal limits (before ++ e ∷ (between ++ e ∷ after)) → ⊥
never_twice limits before e between after l = let n = numbers_rise limits before e between e after l refl in omega arith

-- ---- both ways
pub legal_more : (limits : Limits) (h : List Entry) (e : Entry) → IsLegal limits h → (IsLegal limits (h ++ e ∷ []) ↔ (admission limits h e ≡ Ok Added))
legal_more limits h e l = (last_is_added limits h e, legal_snoc limits h e l)

pub rises_by_splits : (h : List Entry) → (RisesAfter [] h ↔ RisesBySplits h)
rises_by_splits h = (rises_splits h, splits_rise h)
