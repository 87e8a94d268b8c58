use Rattle.std.proofs.Common.{◌≡◌, ◌++◌, drop}
use Rattle.std.specs.List.{AllByRecursion, flat_map, list_all}
use Rattle.batch_codec.proofs.writer.write_items.Given as goal

abbrev pub invariant-loop-item : goal.invariant-loop-item
invariant-loop-item g l =
    (l.out ++ flat_map g.T.Spelled.spelling (drop l.item-index l.items) ≡ l.initial.out ++ flat_map g.T.Spelled.spelling l.items)
    × (list_all g.T.Spelled.fits (drop l.item-index l.items) ≡ list_all g.T.Spelled.fits l.items)
    × (AllByRecursion g.T.Spelled.proper (drop l.item-index l.items) → AllByRecursion g.T.Spelled.proper l.items)
