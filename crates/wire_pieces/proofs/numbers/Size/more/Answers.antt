use Rattle.thrift_binary.specs.declared.fault.WireError.TheVariants.{Truncated, BadLength}
use Rattle.thrift_binary.specs.Reading.{size_at}
use Rattle.std.proofs.Common.{◌≤◌, ◌<◌}
use Rattle.byteorder.specs.Endian.{big_number}
use Rattle.wire_pieces.proofs.FilledBytes.{filled-waits, filled-comes, filled-refuses, size-short, size-whole, size-bad}
use Rattle.wire_pieces.proofs.numbers.Size.more.Goals as goal

pub returns-in_default-clause-reads : goal.returns-in_default-clause-reads
returns-in_default-clause-reads c = filled-waits size_at Truncated 4 size-short _ _ _ _ c.in_default.ensures.parts c.in_default.ensures.size

pub returns-then-number-gt-MAX_LENGTH-clause-reads : goal.returns-then-number-gt-MAX_LENGTH-clause-reads
returns-then-number-gt-MAX_LENGTH-clause-reads c =
    let large : 2147483647 < big_number 4 c.in-Some.whole = rw c.read_u32-number.ensures at c.if-number-gt-MAX_LENGTH.true in
    filled-refuses size_at Truncated BadLength _ _ _ _ c.in-Some.ensures.parts.0 (λ h. absurd cc) (λ rest. size-bad _ rest c.in-Some.ensures.size large)

pub returns-clause-reads : goal.returns-clause-reads
returns-clause-reads c =
    let small : big_number 4 c.in-Some.whole ≤ 2147483647 = rw c.read_u32-number.ensures at c.if-number-gt-MAX_LENGTH.false in
    rw c.read_u32-number.ensures (filled-comes size_at _ _ _ _ _ c.in-Some.ensures.parts.0 (λ rest. size-whole _ rest c.in-Some.ensures.size small))
