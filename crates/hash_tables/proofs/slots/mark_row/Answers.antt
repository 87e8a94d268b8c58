use Rattle.std.proofs.Common.{◌+◌, ◌++◌, ◌∷◌, [], ℕ, length, subst, arith}
use Rattle.std.proofs.Math.ListN.{set}
use Rattle.hash_tables.specs.RowPlaces.{steps, AreTaken, LeadsIn}
use Rattle.hash_tables.proofs.MarkedRows.{leads_more}
use Rattle.hash_tables.proofs.slots.mark_row.Goals as goal

pub returns-clause-leads : goal.returns-clause-leads
returns-clause-leads c hashes as_many leads =
    let slots = c.args.slots.now in
    let at = c.free_place-at.result in
    let taken = subst (λ (s : ℕ). AreTaken slots s (steps (length slots) s at)) c.first_place-start.ensures.value c.free_place-at.ensures.taken in
    subst (λ (n : ℕ). LeadsIn (hashes ++ c.args.hash ∷ []) (set slots at (n + 1))) as_many
    (leads_more hashes slots c.args.hash at leads (omega (arith, c.requires.half, as_many)) c.free_place-at.ensures.within c.free_place-at.ensures.free taken)
