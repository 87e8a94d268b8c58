use Rattle.std.proofs.Common.{ℕ, List, sym, subst, arith}
use Rattle.service_index.specs.Probes.{IsLabelTable}
use Rattle.service_index.proofs.LabelProbes.{named_empty}
use Rattle.service_index.proofs.label_table.LabelTable.with_room.Goals as goal

pub returns-clause-leads : goal.returns-clause-leads
returns-clause-leads c labels =
    let places = c.in_ok-places.places in
    subst (λ (xs : List ℕ). IsLabelTable labels (record { numbers = xs; room = places.room; keys = c.args.keys; slots = places.slots }))
    (sym c.in_ok-numbers.ensures.items)
    (named_empty labels c.args.keys places.room places.slots (omega (arith, c.ranges.room.fits, c.in_ok-places.ensures.room)) c.in_ok-places.ensures.leads)
