-- The traces of a ring leave one by one, oldest first, each with its spots.
use Rattle.std.proofs.Common.{◌≡◌, ℕ, suc, zero, ◌-◌, ◌<◌, true, false, ◌&&◌, ◌||◌, List, [], ◌∷◌, length, drop, refl, sym, ap, subst, ◌∙◌, arith}
use Rattle.std.specs.Prelude.{not, if◌then◌else◌}
use Rattle.std.proofs.Math.Bool.{or-true}
use Rattle.jaeger_model.specs.declared.ids.TraceId.{TraceId}
use Rattle.jaeger_model.specs.Parents.{same_trace}
use Rattle.trace_model.specs.Rings.{holds, newest}
use Rattle.trace_model.proofs.ShownOfTrace.{same_is, same_self}
use Rattle.trace_assembly.specs.declared.spot.Spot.{Spot}
use Rattle.trace_assembly.specs.AssembledRows.{Assembled, spots_of, without_spots}
use Rattle.trace_assembly.specs.LocatedSpans.{without_evicted}

-- some of the oldest traces have left, and their spots are removed
pub record IsLowering (m : ℕ) (before after : Assembled) : Type 0 where
  pub limit : after.newest.limit ≡ m
  pub same_newest : newest m after.newest.ids ≡ newest m before.newest.ids
  pub within : (t : TraceId) → holds after.newest.ids t ≡ true → holds before.newest.ids t ≡ true
  pub spots : (t : TraceId) → spots_of after t ≡ without_evicted before.newest.ids after.newest.ids (spots_of before) t
  pub used : after.used ≡ before.used
  pub room : after.room ≡ before.room

-- the oldest of too many isn't among the newest
newest_tail : (m : ℕ) (x : TraceId) (r : List TraceId) → 0 < m → m < length (x ∷ r) → newest m r ≡ newest m (x ∷ r)
newest_tail zero x r some more = absurd (omega arith)
newest_tail (suc m) x r some more =
    let one : suc (length r) - suc m ≡ suc (length r - suc m) = omega arith in
    ap (λ k. drop k (x ∷ r)) (sym one)

-- one more leaves
one_left : (first r : List TraceId) (gone : TraceId) (spots : TraceId → List Spot) (t : TraceId) → holds r gone ≡ false → holds first gone ≡ true
    → without_spots gone (without_evicted first (gone ∷ r) spots) t ≡ without_evicted first r spots t
one_left first r gone spots t out old =
    elim (same_trace t gone) as (λ s. same_trace t gone ≡ s
    → (if s then [] else (if holds first t && not (s || holds r t) then [] else spots t)) ≡ (if holds first t && not (holds r t) then [] else spots t)) [
      | true ↦ λ e.
          let is = same_is t gone e in
          sym ((λ i. if (ap (holds first) is ∙ old) i && not ((ap (holds r) is ∙ out) i) then [] else spots t))
      | false ↦ λ _. refl
    ] refl

-- the oldest of too many leaves
pub lowering_more : (m : ℕ) (before now next : Assembled) (gone : TraceId) → IsLowering m before now
    → next.newest.limit ≡ now.newest.limit → now.newest.ids ≡ gone ∷ next.newest.ids → 0 < now.newest.limit → now.newest.limit < length now.newest.ids
    → holds next.newest.ids gone ≡ false
    → ((t : TraceId) → spots_of next t ≡ without_spots gone (spots_of now) t) → next.used ≡ now.used → next.room ≡ now.room → IsLowering m before next
lowering_more m before now next gone h limit ids some many out spots used room =
    let first = before.newest.ids in
    let left = next.newest.ids in
    let all : m < length (gone ∷ left) = subst (λ (r : List TraceId). m < length r) ids (subst (λ k. k < length now.newest.ids) h.limit many) in
    let old : holds first gone ≡ true = h.within gone (ap (λ r. holds r gone) ids ∙ ap (λ b. b || holds left gone) (same_self gone)) in
    record {
      limit = limit ∙ h.limit;
      same_newest = newest_tail m gone left (subst (λ k. 0 < k) h.limit some) all ∙ ap (newest m) (sym ids) ∙ h.same_newest;
      within = λ t held. h.within t (ap (λ r. holds r t) ids ∙ ap (λ b. same_trace t gone || b) held ∙ or-true (same_trace t gone));
      spots = λ t.
          spots t
          ∙ (λ i. without_spots gone (λ u. (h.spots u ∙ ap (λ r. without_evicted first r (spots_of before) u) ids) i) t)
          ∙ one_left first left gone (spots_of before) t out old;
      used = used ∙ h.used;
      room = room ∙ h.room;
    }
