use Rattle.std.proofs.Common.{subst, arith}
use Rattle.hash_tables.specs.RowPlaces.{AreTaken}
use Rattle.hash_tables.proofs.PlaceWalks.{never_all}
use Rattle.hash_tables.proofs.slots.free_place.Goals as goal

pub unreachable-requires : goal.unreachable-requires
unreachable-requires c =
    let slots = c.args.slots.now in
    never_all slots c.args.start c.requires.start c.requires.free
    (subst (AreTaken slots c.args.start) (omega (arith, c.loop-passed.auto._passed-end, c.loop-passed-test.false)) c.loop-passed.invariant.taken)
