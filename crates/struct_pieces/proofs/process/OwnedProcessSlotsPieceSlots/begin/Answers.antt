use Rattle.std.proofs.Common.{◌≡◌, Ok, pos, ap, sym, w16}
use Rattle.std.proofs.lemmas.Int.{to_z-of_z}
use Rattle.thrift_binary.specs.Reading.{◌>>=◌}
use Rattle.batch_codec.specs.ProcessReading.{take_process}
use Rattle.batch_codec.specs.TagReading.{tag_at}
use Rattle.struct_pieces.proofs.process.OwnedProcessSlotsPieceSlots.begin.Goals as goal

pub returns-in-15-eq2 : goal.returns-in-15-eq2
unfolding take_process tag_at
returns-in-15-eq2 c =
    let i : c.args.id ≡ pos 2 = rw c.in-15-eq2.is-1 at (sym (to_z-of_z w16 c.args.id c.ranges.id)) in
    rw (c.in-15-eq2.is-0, i) (record { fresh = λ w. ap (λ r. r >>= λ x. Ok (record c.args.self.now { tags = x.0 }, x.1)) (c.new-in-15-eq2.ensures.fresh w) })
