use Rattle.std.proofs.Common.{◌≡◌, ◌≤◌, ◌<◌, ◌∙◌, Some, ap, arith}
use Rattle.byteorder.specs.Endian.{big_number}
use Rattle.wire_pieces.proofs.FilledBytes.{size-whole, size-spelled}
use Rattle.wire_pieces.proofs.numbers.size_of.Goals as goal

pub returns-then-bytes-ne4-clause-every : goal.returns-then-bytes-ne4-clause-every
returns-then-bytes-ne4-clause-every c = λ n e. absurd (c.if-bytes-ne4.true (size-spelled _ n e).0)

pub returns-then-number-gt-MAX_LENGTH-clause-every : goal.returns-then-number-gt-MAX_LENGTH-clause-every
returns-then-number-gt-MAX_LENGTH-clause-every c = λ n e.
    let is = size-spelled _ n e in
    let large : 2147483647 < big_number 4 c.args.bytes.now = rw c.read_u32-number.ensures at c.if-number-gt-MAX_LENGTH.true in
    absurd (omega (arith, large, is.1, is.2))

pub returns : goal.returns
returns c =
    let small : big_number 4 c.args.bytes.now ≤ 2147483647 = rw c.read_u32-number.ensures at c.if-number-gt-MAX_LENGTH.false in
    record {
      reads = λ n is w. let same : c.read_u32-number.result ≡ n = cc in rw (← same, c.read_u32-number.ensures) (size-whole _ w c.if-bytes-ne4.false small);
      every = λ n e. ap Some (c.read_u32-number.ensures ∙ (size-spelled _ n e).1);
    }
