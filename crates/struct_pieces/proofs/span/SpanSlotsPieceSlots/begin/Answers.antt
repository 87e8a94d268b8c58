use Rattle.std.proofs.Common.{rules, ◌≡◌, Ok, pos, ap, sym, w16}
use Rattle.std.proofs.lemmas.Int.{to_z-of_z}
use Rattle.thrift_binary.specs.Reading.{◌>>=◌}
use Rattle.batch_codec.specs.SpanReading.{take_span}
use Rattle.batch_codec.specs.TagReading.{tag_at}
use Rattle.batch_codec.specs.LogReading.{log_at}
use Rattle.batch_codec.specs.ReferenceReading.{reference_at}
use Rattle.struct_pieces.proofs.span.SpanSlotsPieceSlots.begin.Goals as goal
use Rattle.struct_pieces.proofs.span.SpanSlotsPieceSlots.begin.Goals.{in_default-via-in-10+in_default, in_default-via-in-11+in_default}
use Rattle.struct_pieces.proofs.span.SpanSlotsPieceSlots.begin.Goals.{in_default-via-in-15+in_default, in_default-via-in-8+in_default}
use Rattle.struct_pieces.proofs.span.SpanSlotsPieceSlots.begin.Goals.{in_default-via-in_default}

pub returns-in-15-eq6 : goal.returns-in-15-eq6
unfolding take_span tag_at log_at reference_at
returns-in-15-eq6 c =
    let i : c.args.id ≡ pos 6 = rw c.in-15-eq6.is-1 at (sym (to_z-of_z w16 c.args.id c.ranges.id)) in
    rw (c.in-15-eq6.is-0, i) (record {
      fresh = λ w. ap
          (λ r. r >>= λ x. Ok (record c.args.self.now { references = x.0 }, x.1)) (c.new-in-15-eq6.ensures.fresh w);
    })

pub returns-in-15-eq10 : goal.returns-in-15-eq10
unfolding take_span tag_at log_at reference_at
returns-in-15-eq10 c =
    let i : c.args.id ≡ pos 10 = rw c.in-15-eq10.is-1 at (sym (to_z-of_z w16 c.args.id c.ranges.id)) in
    rw (c.in-15-eq10.is-0, i) (record { fresh = λ w. ap (λ r. r >>= λ x. Ok (record c.args.self.now { tags = x.0 }, x.1)) (c.new-in-15-eq10.ensures.fresh w) })

pub returns-in-15-eq11 : goal.returns-in-15-eq11
unfolding take_span tag_at log_at reference_at
returns-in-15-eq11 c =
    let i : c.args.id ≡ pos 11 = rw c.in-15-eq11.is-1 at (sym (to_z-of_z w16 c.args.id c.ranges.id)) in
    rw (c.in-15-eq11.is-0, i) (record { fresh = λ w. ap (λ r. r >>= λ x. Ok (record c.args.self.now { logs = x.0 }, x.1)) (c.new-in-15-eq11.ensures.fresh w) })

pub returns-in_default : goal.returns-in_default
unfolding take_span
returns-in_default c = elim c.in_default.branch [
  | in_default-via-in-10+in_default w ↦ search rules
  | in_default-via-in-11+in_default w ↦ search rules
  | in_default-via-in-15+in_default w ↦ search rules
  | in_default-via-in-8+in_default w ↦ search rules
  | in_default-via-in_default w ↦ search rules
]
