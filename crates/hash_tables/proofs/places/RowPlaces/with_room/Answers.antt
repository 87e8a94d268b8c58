use Rattle.std.proofs.Common.{◌≡◌, ℕ, ◌-◌, ◌%◌, List, length, ap, ◌∙◌, length-append, arith}
use Rattle.std.specs.Prelude.{vec_capacity, replicate}
use Rattle.std.proofs.lemmas.List.{length-replicate}
use Rattle.hash_tables.specs.Sizes.{places_before}
use Rattle.hash_tables.proofs.Sizes.{places_fewer, can_grow}
use Rattle.hash_tables.proofs.places.RowPlaces.with_room.Goals as goal

pub add_free-requires-clause-capacity : goal.add_free-requires-clause-capacity
add_free-requires-clause-capacity c =
    let growths = c.growths_for-growths.result in
    let few = places_fewer c.args.room (growths % 2) growths (omega arith) in
    omega (arith, few, c.places_before.ensures, c.places_before-3.ensures, c.in_ok-slots.ensures.capacity)

pub invariant_of-result : goal.invariant_of-result
invariant_of-result c =
    let room = c.args.room in
    let growths = c.growths_for-growths.result in
    let slots = c.in_ok-slots.slots.items in
    let free : List ℕ = replicate (c.places_before-3.result - length slots) 0 in
    let long = ap length c.add_free.ensures.items ∙ length-append slots free in
    let filled = length-replicate {A = ℕ} (c.places_before-3.result - length slots) 0 in
    let none = ap length c.in_ok-slots.ensures.items in
    let places : length c.add_free.new.slots.items ≡ places_before room growths = omega (arith, long, filled, none, c.places_before-3.ensures) in
    record {
      few = c.growths_for-growths.ensures.few;
      some = omega (arith, places, c.growths_for-growths.ensures.some);
      places = places;
      growth =
          can_grow room growths (vec_capacity c.add_free.new.slots) (vec_capacity c.in_ok-next.next)
          (omega (arith, c.add_free.ensures.capacity, c.in_ok-slots.ensures.capacity, c.places_before.ensures))
          (omega (arith, c.in_ok-next.ensures.capacity, c.places_before-2.ensures));
    }
