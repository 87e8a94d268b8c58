use Rattle.std.proofs.Common.{rules, ◌≡◌, ◌+◌, length}
use Rattle.std.specs.Arc.{arc_value}
use Rattle.read_side.specs.Keepers.{accepted, with_pending, all_published}
use Rattle.read_side.proofs.AdmittedPlaces.{added_stands}
use Rattle.read_side.proofs.keeper.Keeper.admit_new.Goals as goal

pub receipt_for-requires : goal.receipt_for-requires
receipt_for-requires g c =
    let old = c.args.self.now in
    let e = c.args.recorded in
    let shown : c.publish.new.self ≡ all_published (with_pending old e) = search rules in
    let place : c.in_ok-placed.placed.0 ≡ length (accepted old) + 1 = search rules in
    let same : arc_value c.in_ok-placed.placed.1 ≡ e = search rules in
    rw (place, same) (added_stands old c.publish.new.self e shown)
