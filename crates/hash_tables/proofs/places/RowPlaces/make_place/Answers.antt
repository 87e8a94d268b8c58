use Rattle.std.proofs.Common.{length, sym, subst, arith}
use Rattle.std.specs.Prelude.{vec_capacity}
use Rattle.hash_tables.specs.RowPlaces.{Places, LeadsTo}
use Rattle.hash_tables.proofs.Sizes.{next_holds, more_places, grown}
use Rattle.hash_tables.proofs.places.RowPlaces.make_place.Goals as goal

pub prepare-requires-clause-capacity : goal.prepare-requires-clause-capacity
prepare-requires-clause-capacity g c =
    let t = c.self.inside in
    let holds = next_holds t.room t.growths (length t.slots.items) (vec_capacity t.slots) (vec_capacity t.next.slots) c.self.invariant
    (omega (arith, c.if-self-eq0.false)) in
    omega (arith, holds, c.places_before-places.ensures)

pub prepare-requires-clause-half : goal.prepare-requires-clause-half
prepare-requires-clause-half g c =
    let t = c.self.inside in
    let hashes = g.S.Sought.hashes c.args.rows.now in
    let leads : LeadsTo hashes _ = subst (λ (p : Places). LeadsTo hashes p.slots) (sym c.self.view_is) c.requires.leads in
    let more = more_places t.room t.growths (length hashes) (length t.slots.items) (vec_capacity t.slots) (vec_capacity t.next.slots) c.self.invariant
    (omega (arith, c.if-self-eq0.false)) leads.used.half in
    omega (arith, more, c.places_before-places.ensures)

pub replace-requires-clause-capacity : goal.replace-requires-clause-capacity
replace-requires-clause-capacity g c =
    let t = c.self.inside in
    let holds = next_holds t.room t.growths (length t.slots.items) (vec_capacity t.slots) (vec_capacity t.next.slots) c.self.invariant
    (omega (arith, c.if-self-eq0.false)) in
    omega (arith, holds, c.places_before-places.ensures, c.prepare.ensures.capacity)

pub replace-requires-clause-half : goal.replace-requires-clause-half
replace-requires-clause-half g c =
    let t = c.self.inside in
    let hashes = g.S.Sought.hashes c.args.rows.now in
    let leads : LeadsTo hashes _ = subst (λ (p : Places). LeadsTo hashes p.slots) (sym c.self.view_is) c.requires.leads in
    let more = more_places t.room t.growths (length hashes) (length t.slots.items) (vec_capacity t.slots) (vec_capacity t.next.slots) c.self.invariant
    (omega (arith, c.if-self-eq0.false)) leads.used.half in
    omega (arith, more, c.places_before-places.ensures)

pub invariant_of-self : goal.invariant_of-self
invariant_of-self g c =
    let t = c.self.inside in
    let sized = grown t.room t.growths (length t.slots.items) (vec_capacity t.slots) (vec_capacity t.next.slots) c.self.invariant
    (omega (arith, c.if-self-eq0.false)) in
    rw (c.replace.ensures.places, c.places_before-places.ensures, c.replace.ensures.used_capacity, c.prepare.ensures.capacity, c.replace.ensures.capacity) sized

pub returns-then-len-rows-clause-half : goal.returns-then-len-rows-clause-half
returns-then-len-rows-clause-half g c =
    let t = c.self.inside in
    let hashes = g.S.Sought.hashes c.args.rows.now in
    let leads : LeadsTo hashes _ = subst (λ (p : Places). LeadsTo hashes p.slots) (sym c.self.view_is) c.requires.leads in
    let more = more_places t.room t.growths (length hashes) (length t.slots.items) (vec_capacity t.slots) (vec_capacity t.next.slots) c.self.invariant
    (omega (arith, c.if-self-eq0.false)) leads.used.half in
    omega (arith, more, c.places_before-places.ensures, c.replace.ensures.places)
