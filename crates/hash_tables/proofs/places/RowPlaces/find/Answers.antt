use Rattle.std.proofs.Common.{◌≡◌, ◌∙◌, List, ℕ, length, ap, subst, sym, arith}
use Rattle.hash_tables.specs.RowPlaces.{Places, start_of, LeadsIn, Walked}
use Rattle.hash_tables.proofs.PlaceWalks.{found_is}
use Rattle.hash_tables.proofs.places.RowPlaces.find.Goals as goal

pub returns : goal.returns
returns g c =
    let sought = c.args.sought.now in
    let hashes = g.S.Sought.hashes sought in
    let is = g.S.Sought.is_sought sought in
    let slots = c.self.inside.slots.items in
    let leads : LeadsIn hashes slots = subst (λ (p : Places). LeadsIn hashes p.slots.used) (sym c.self.view_is) c.requires.leads.used in
    let len : c.len.result ≡ length slots = omega arith in
    let w = subst (λ (s : ℕ). Walked slots s (length hashes) is c.walk.result) (c.first_place.ensures.value ∙ ap (start_of c.args.hash) len)
    (subst (λ (x : List ℕ). Walked x c.first_place.result (length hashes) is c.walk.result) c.deref.ensures.value c.walk.ensures) in
    found_is hashes slots is c.args.hash leads c.requires.hash c.walk.result w
