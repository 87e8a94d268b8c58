-- How the number of places grows: about fourfold each time, and in the end to two for each row that there is room
-- for, plus one.
use Rattle.std.specs.Prelude.{◌≡◌, ℕ, zero, suc, ◌+◌, ◌*◌, ◌/◌, ◌^◌, ◌<◌, ◌≤◌}

-- the number of places while this number of growths is still to come
abbrev pub places_before : ℕ → ℕ → ℕ
places_before room growths = (2 * room + 1) / 2 ^ (2 * growths)

-- the capacities of the two tables are enough for the growths to come, in which they take turns
abbrev pub CanGrow : ℕ → ℕ → ℕ → ℕ → Type 0
CanGrow room zero used next = Unit {0}
CanGrow room (suc growths) used next = (places_before room growths ≤ next) × CanGrow room growths next used

-- the table in use has its places, and the capacities are enough for this number of growths
pub record IsSized (room growths used used_capacity next_capacity : ℕ) : Type 0 where
  pub few : growths ≤ 16
  pub some : 0 < used
  pub places : used ≡ places_before room growths
  pub growth : CanGrow room growths used_capacity next_capacity
