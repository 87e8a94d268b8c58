use Rattle.std.proofs.Common.{◌≡◌, ◌≤◌, length, List, [], sym, subst, arith}
use Rattle.jaeger_model.specs.declared.ids.TraceId.{TraceId}
use Rattle.hash_tables.specs.RowPlaces.{LeadsTo, AreOnce}
use Rattle.hash_tables.specs.IdRows.{no_id}
use Rattle.hash_tables.specs.IdProbes.{hashes_of}
use Rattle.hash_tables.proofs.id_table.IdTable.with_room.Goals as goal

pub invariant_of-result : goal.invariant_of-result
invariant_of-result c =
    let ids : [] ≡ c.in_ok-ids.ids.items = sym c.in_ok-ids.ensures.items in
    let slots = c.in_ok-places.places.slots in
    record {
      fits = omega (arith, c.ranges.room.fits, c.in_ok-places.ensures.room);
      ids_fit = omega (arith, c.in_ok-ids.ensures.capacity, c.in_ok-places.ensures.room);
      within = subst (λ (y : List TraceId). length y ≤ c.in_ok-places.places.room) ids (omega arith);
      once = subst (AreOnce no_id) ids (λ i j below within _. absurd (omega arith));
      leads = subst (λ (y : List TraceId). LeadsTo (hashes_of c.args.keys y) slots) ids c.in_ok-places.ensures.leads;
    }
