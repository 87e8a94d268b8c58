use Rattle.std.proofs.Common.{◌≡◌, drop, sym, subst}
use Rattle.std.specs.Prelude.{Ok}
use Rattle.std.proofs.lemmas.List.{take_rest}
use Rattle.std.specs.Arc.{arc_value}
use Rattle.trace_model.specs.declared.admission.Admission.TheVariants.{Added}
use Rattle.trace_model.specs.Refusals.{admission}
use Rattle.schedule_core.proofs.LegalEntries.{item_follows}
use Rattle.schedule_core.proofs.copies.catch_up.Goals as goal

pub add-requires : goal.add-requires
add-requires c =
    let was = c.loop-entry.invariant in
    let held = c.loop-entry.store.entries in
    let behind = take_rest c.args.entries.now c.len-held.result in
    subst (λ limits. admission limits held (arc_value c.entry-item.result) ≡ Ok Added) (sym was.0)
    (item_follows arc_value c.args.store.now.limits held _ (drop c.len-held.result c.args.entries.now) c.loop-entry.entry-index c.entry-item.result
    c.requires.legal (rw behind at c.loop-entry-test.true) (rw behind at c.entry-item.is) was.1)
