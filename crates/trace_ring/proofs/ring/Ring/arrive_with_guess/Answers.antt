use Rattle.std.proofs.Common.{◌≡◌, ◌<◌, ◌++◌, ◌∷◌, ◌∙◌, ℕ, Some, ◌+◌, [], arith, length, length-append, sym, ap}
use Rattle.std.specs.Prelude.{slice_get}
use Rattle.std.proofs.lemmas.List.{length-map}
use Rattle.std.proofs.Math.Seq.{get_or-append_seam}
use Rattle.std.proofs.lemmas.Option.{slice_get-get_or}
use Rattle.trace_ring.specs.RingValues.{RingValue}
use Rattle.hash_tables.specs.IdRows.{id_at, no_id}
use Rattle.trace_ring.proofs.ring.Ring.arrive_with_guess.Goals as goal
use Rattle.trace_ring.proofs.ring.Ring.arrive_with_guess.Goals.{then-is_full, else-is_full}

pub returns-clause-found : goal.returns-clause-found
returns-clause-found c =
    let ids = c.if-is_full.self.ids in
    let id = id_at c.if-is_full.self.seen c.enter_with_guess-row.result in
    let all = ids ++ id ∷ [] in
    let rows : length c.self-2.inside.rows.items ≡ c.len-position.result = omega arith in
    let count : length ids ≡ c.len-position.result =
    ap (λ (w : RingValue). length w.ids) (sym c.self-2.view_is) ∙ length-map c.self-2.inside.rows.items (id_at c.self-2.inside.table.ids) ∙ rows in
    let inside : length ids < length all = omega (arith, length-append ids (id ∷ [])) in
    let seen : c.if-is_full.self.seen ≡ c.enter_with_guess-row.new.self.seen =
    elim c.if-is_full.branch [ then-is_full w ↦ search | else-is_full w ↦ search ] in
    let is : id ≡ c.args.trace =
    ap (λ l. id_at l c.enter_with_guess-row.result) seen ∙ c.enter_with_guess-row.ensures.row in
    let last : slice_get all (length ids) ≡ Some id =
    slice_get-get_or all (length ids) no_id inside ∙ ap Some (get_or-append_seam ids id [] no_id) in
    ap (slice_get c.open.new.self.ids) (sym count)
    ∙ ap (λ l. slice_get l (length ids)) c.open.ensures.ids
    ∙ last
    ∙ ap Some is
