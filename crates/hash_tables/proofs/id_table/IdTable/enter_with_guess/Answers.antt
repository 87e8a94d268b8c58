use Rattle.std.proofs.Common.{◌≡◌, ◌∙◌, ◌<◌, ◌≤◌, ℕ, List, [], ◌∷◌, ◌++◌, length, length-append, refl, ap, sym, subst, arith}
use Rattle.std.specs.Prelude.{None, position}
use Rattle.std.proofs.lemmas.List.{length-map, map_push}
use Rattle.jaeger_model.specs.declared.ids.TraceId.{TraceId}
use Rattle.jaeger_model.specs.Parents.{same_trace}
use Rattle.hash_tables.specs.RowPlaces.{Found, LeadsTo, AreOnce}
use Rattle.hash_tables.proofs.DistinctRows.{once_more}
use Rattle.hash_tables.specs.IdRows.{Rows, no_id, id_at}
use Rattle.hash_tables.specs.IdProbes.{hash_of, hashes_of}
use Rattle.hash_tables.proofs.IdProbes.{found_at, absent_nowhere}
use Rattle.hash_tables.proofs.id_table.IdTable.enter_with_guess.Goals as goal

pub returns-in-Some-clause-entered : goal.returns-in-Some-clause-entered
returns-in-Some-clause-entered c =
    let t = c.self.inside in
    let id = c.args.id in
    let found = subst (λ (xs : List TraceId). Found (length xs) (λ row. same_trace (id_at xs row) id) c.find.result) c.deref.ensures.value
    (subst (λ (n : ℕ). Found n (λ row. same_trace (id_at c.deref.result.now row) id) c.find.result) (length-map c.deref.result.now (hash_of t.keys))
    c.find.ensures) in
    let is : c.find.result ≡ position (same_trace id) c.args.self.now.ids =
    found_at t.ids.items id c.self.invariant.once c.find.result found ∙ ap (λ (w : Rows). position (same_trace id) w.ids) c.self.view_is in
    (sym is ∙ c.in-Some.is, refl)

pub invariant_of-self : goal.invariant_of-self
invariant_of-self c =
    let t = c.self.inside in
    let id = c.args.id in
    let more = t.ids.items ++ id ∷ [] in
    let found = subst (λ (xs : List TraceId). Found (length xs) (λ row. same_trace (id_at xs row) id) c.find.result) c.deref.ensures.value
    (subst (λ (n : ℕ). Found n (λ row. same_trace (id_at c.deref.result.now row) id) c.find.result) (length-map c.deref.result.now (hash_of t.keys))
    c.find.ensures) in
    let absent : position (same_trace id) t.ids.items ≡ None = sym (found_at t.ids.items id c.self.invariant.once c.find.result found) ∙ c.in-None.is in
    let room = subst (λ (w : Rows). length w.ids < w.room) (sym c.self.view_is) c.requires in
    let long = length-append t.ids.items (id ∷ []) in
    let ids : more ≡ c.push_reserved.new.self.items = sym c.push_reserved.ensures.items in
    let fits = c.self.invariant.fits in
    let ids_fit = c.self.invariant.ids_fit in
    let slots = c.mark.new.self.slots in
    let marked : LeadsTo (hashes_of t.keys t.ids.items ++ hash_of t.keys id ∷ []) slots =
    subst (λ (x : ℕ). LeadsTo (hashes_of t.keys t.ids.items ++ x ∷ []) slots) c.id_hash-hash.ensures
    (subst (λ (xs : List TraceId). LeadsTo (hashes_of t.keys xs ++ c.id_hash-hash.result ∷ []) slots) c.deref.ensures.value c.mark.ensures.leads) in
    record {
      fits = omega (arith, c.mark.ensures.room);
      ids_fit = omega (arith, c.mark.ensures.room, c.push_reserved.ensures.capacity);
      within = subst (λ (xs : List TraceId). length xs ≤ c.mark.new.self.room) ids (omega (arith, c.mark.ensures.room));
      once = subst (AreOnce no_id) ids (once_more no_id t.ids.items id c.self.invariant.once (absent_nowhere id t.ids.items absent));
      leads =
          subst (λ (xs : List TraceId). LeadsTo (hashes_of t.keys xs) slots) ids
          (subst (λ (hs : List ℕ). LeadsTo hs slots) (sym (map_push (hash_of t.keys) t.ids.items id)) marked);
    }

pub returns-clause-entered : goal.returns-clause-entered
returns-clause-entered c =
    let t = c.self.inside in
    let id = c.args.id in
    let found = subst (λ (xs : List TraceId). Found (length xs) (λ row. same_trace (id_at xs row) id) c.find.result) c.deref.ensures.value
    (subst (λ (n : ℕ). Found n (λ row. same_trace (id_at c.deref.result.now row) id) c.find.result) (length-map c.deref.result.now (hash_of t.keys))
    c.find.ensures) in
    let is : c.find.result ≡ position (same_trace id) c.args.self.now.ids =
    found_at t.ids.items id c.self.invariant.once c.find.result found ∙ ap (λ (w : Rows). position (same_trace id) w.ids) c.self.view_is in
    (sym is ∙ c.in-None.is, c.used-new_row.ensures.used, c.push_reserved.ensures.items ∙ ap (λ (w : Rows). w.ids ++ id ∷ []) c.self.view_is)
