-- How the number of places grows.
use Rattle.std.proofs.Common.{◌≡◌, refl, ℕ, zero, suc, ◌+◌, ◌-◌, ◌*◌, ◌/◌, ◌%◌, ◌^◌, ◌<◌, ◌≤◌, sym, ap, ◌∙◌, subst, arith}
use Rattle.std.proofs.lemmas.Nat.{shr-shr, shr_le}
use Rattle.hash_tables.specs.Sizes.{places_before, CanGrow, IsSized}

pub places_at_end : (room : ℕ) → places_before room 0 ≡ 2 * room + 1
places_at_end room = omega arith

-- a growth makes four times as many, or up to three more
pub places_fourth : (room growths : ℕ) → places_before room (growths + 1) ≡ places_before room growths / 4
places_fourth room growths =
    let e : 2 * (growths + 1) ≡ 2 * growths + 2 = omega arith in
    ap (λ n. (2 * room + 1) / 2 ^ n) e ∙ sym (shr-shr (2 * room + 1) (2 * growths) 2)

pub places_fewer : (room few many : ℕ) → few ≤ many → places_before room many ≤ places_before room few
places_fewer room few many more =
    let e : 2 * many ≡ 2 * few + 2 * (many - few) = omega arith in
    let same = ap (λ n. (2 * room + 1) / 2 ^ n) e ∙ sym (shr-shr (2 * room + 1) (2 * few) (2 * (many - few))) in
    omega (arith, same, shr_le (places_before room few) (2 * (many - few)))

turns : (growths : ℕ) → suc growths % 2 ≡ 1 - growths % 2
turns growths = omega arith

turns_back : (growths : ℕ) → 1 - suc growths % 2 ≡ growths % 2
turns_back growths = omega arith

-- the capacity for the last growth is in the table that is in use after it, and that for the one before in the
-- other
pub can_grow : (room growths used next : ℕ) → places_before room (growths % 2) ≤ used → places_before room (1 - growths % 2) ≤ next
    → CanGrow room growths used next
can_grow room zero used next u n = tt
can_grow room (suc growths) used next u n =
    let now = subst (λ k. places_before room k ≤ used) (turns growths) u in
    let then = subst (λ k. places_before room k ≤ next) (turns_back growths) n in
    (omega (arith, then, places_fewer room (growths % 2) growths (omega arith)), can_grow room growths next used then now)

-- there is the capacity for the next growth
pub next_holds : (room growths used used_capacity next_capacity : ℕ) → IsSized room growths used used_capacity next_capacity → 0 < growths
    → places_before room (growths - 1) ≤ next_capacity
next_holds room zero used a b sized some = absurd (omega arith)
next_holds room (suc growths) used a b sized some =
    let e : growths ≡ suc growths - 1 = omega arith in
    subst (λ k. places_before room k ≤ b) e sized.growth.0

-- a growth makes room for one more row
pub more_places : (room growths rows used used_capacity next_capacity : ℕ) → IsSized room growths used used_capacity next_capacity → 0 < growths
    → 2 * rows < used → 2 * rows + 2 < places_before room (growths - 1)
more_places room growths rows used a b sized some half =
    let e : growths ≡ growths - 1 + 1 = omega arith in
    let fourth = ap (places_before room) e ∙ places_fourth room (growths - 1) in
    omega (arith, fourth, sized.places, half)

pub grown : (room growths used used_capacity next_capacity : ℕ) → IsSized room growths used used_capacity next_capacity → 0 < growths
    → IsSized room (growths - 1) (places_before room (growths - 1)) next_capacity used_capacity
grown room zero used a b sized some = absurd (omega arith)
grown room (suc growths) used a b sized some =
    let e : growths ≡ suc growths - 1 = omega arith in
    let fourth = places_fourth room growths in
    let same : suc growths ≡ growths + 1 = omega arith in
    subst (λ k. IsSized room k (places_before room k) b a) e record {
      few = omega (arith, sized.few);
      some = omega (arith, fourth, sized.some, sized.places, ap (places_before room) same);
      places = refl;
      growth = sized.growth.1;
    }
