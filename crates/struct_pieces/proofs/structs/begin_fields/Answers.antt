use Rattle.std.proofs.Common.{Ok}
use Rattle.thrift_binary.specs.Reading.{◌>>=◌}
use Rattle.wire_pieces.proofs.Steps.{waits-inside}
use Rattle.struct_pieces.proofs.structs.begin_fields.Goals as goal

pub returns-in-Ok-Pending-clause-continues : goal.returns-in-Ok-Pending-clause-continues
returns-in-Ok-Pending-clause-continues g c =
    let h = rw c.start-slots.ensures at (rw c.in-Ok-Pending.field-0-is at c.in-Ok-Pending.ensures.continues) in
    (record { slots = c.enter_fields.new.slots; step = h.0 }, c.hold.ensures h.0 h.1, waits-inside (λ x. g.S.PieceSlots.makes x.0 >>= λ m. Ok (m, x.1)) h.2)
