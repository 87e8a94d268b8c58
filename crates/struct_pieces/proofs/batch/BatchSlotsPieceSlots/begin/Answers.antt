use Rattle.std.proofs.Common.{◌≡◌, Some, Ok, pos, ap, sym, w16}
use Rattle.std.proofs.lemmas.Int.{to_z-of_z}
use Rattle.thrift_binary.specs.Reading.{◌>>=◌}
use Rattle.batch_codec.specs.BatchReading.{take_batch}
use Rattle.batch_codec.specs.ProcessReading.{process_at}
use Rattle.batch_codec.specs.SpanReading.{span_at}
use Rattle.struct_pieces.proofs.batch.BatchSlotsPieceSlots.begin.Goals as goal

pub returns-in-12-eq1 : goal.returns-in-12-eq1
unfolding take_batch process_at span_at
returns-in-12-eq1 c =
    let i : c.args.id ≡ pos 1 = rw c.in-12-eq1.is-1 at (sym (to_z-of_z w16 c.args.id c.ranges.id)) in
    rw (c.in-12-eq1.is-0, i) (record { fresh = λ w. ap (λ r. r >>= λ x. Ok (record c.args.self.now { process = Some x.0 }, x.1)) (c.new.ensures w) })

pub returns-in-15-eq2 : goal.returns-in-15-eq2
unfolding take_batch process_at span_at
returns-in-15-eq2 c =
    let i : c.args.id ≡ pos 2 = rw c.in-15-eq2.is-1 at (sym (to_z-of_z w16 c.args.id c.ranges.id)) in
    rw (c.in-15-eq2.is-0, i) (record {
      fresh = λ w. ap
          (λ r. r >>= λ x. Ok (record c.args.self.now { spans = Some x.0 }, x.1)) (c.new-in-15-eq2.ensures.fresh w);
    })
