-- The published list only grows.
use Rattle.std.proofs.Common.{◌≡◌, ℕ, List, [], ◌∷◌, ◌++◌, refl, sym, ap, ◌∙◌, ⊎_elim, Result, Ok, Err}
use Rattle.std.proofs.lemmas.List.{append-nil}
use mathlib.Core.List.{IsPrefix}
use Rattle.trace_model.specs.declared.admission.Admission.{Admission}
use Rattle.trace_model.specs.declared.admission.Admission.TheVariants.{Added, Resent}
use Rattle.trace_model.specs.declared.entry.Entry.{Entry}
use Rattle.trace_model.specs.declared.limits.Limits.{Limits}
use Rattle.trace_model.specs.declared.refusal.Refusal.{Refusal}
use Rattle.trace_model.proofs.Prefixes.{prefix_trans}
use Rattle.read_side.specs.Keepers.{Lists, after_admission, admit_call, Answers, Admissions}

shown-after : (k : Lists) (e : Entry) (a : Admission) → (after_admission k e a).published ≡ k.published
shown-after k e Added = refl
shown-after k e (Resent place) = refl

-- one call
pub grows : (limits : Limits) (k : Lists) (e : Entry) (r : Result ℕ Refusal) (m : Lists) → Answers (admit_call limits k e m) r
    → IsPrefix k.published m.published
grows limits k e (Ok place) m g =
    let behind = (after_admission k e g.0).pending in
    (behind, ap (λ z. z ++ behind) (sym (shown-after k e g.0)) ∙ sym (ap (λ (z : Lists). z.published) g.2))
grows limits k e (Err why) m g = ⊎_elim
    (λ p. ([], append-nil k.published ∙ sym (ap (λ (z : Lists). z.published) p.1.2 ∙ shown-after k e p.1.0)))
    (λ q. ([], append-nil k.published ∙ sym (ap (λ (z : Lists). z.published) q.0)))
    g

-- all calls
pub all_grow : (limits : Limits) (old new : Lists) (calls : List (Entry × Result ℕ Refusal)) → Admissions limits old calls new
    → IsPrefix old.published new.published
all_grow limits old new [] same = ([], append-nil old.published ∙ sym (ap (λ (z : Lists). z.published) same))
all_grow limits old new (c ∷ cs) h =
    prefix_trans old.published h.0.published new.published (grows limits old c.0 c.1 h.0 h.1) (all_grow limits h.0 new cs h.2)
