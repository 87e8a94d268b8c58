-- What reads do to a feed.
use Rattle.std.proofs.Common.{◌≡◌, ℕ, ◌+◌, ◌≤◌, ◌<◌, true, List, [], length, take, drop, Option, nat_eq, refl, ◌∙◌, arith, length-take}
use Rattle.std.specs.Prelude.{min}
use Rattle.std.specs.Io.KnownBytes.{Consumes, IsAtEnd}
use Rattle.text_lines.specs.LineReads.{Feed, Fills, feed_moment}
use Rattle.text_lines.specs.declared.line_buffer.TheConstants.{READ_BYTES}

none_taken : (count : ℕ) (piece : List ℕ) → nat_eq count 0 ≡ true → take count piece ≡ []
none_taken count piece e = let z : count ≡ 0 = search arith in rw z refl

pub fills : (in0 in1 : Option (List ℕ)) (old : Feed) (items piece : List ℕ) (from count left : ℕ) → items ≡ piece
    → Consumes in0 in1 (take count piece) → (count ≡ 0 → 0 < length piece → IsAtEnd in1) → count ≤ length piece
    → length piece ≡ READ_BYTES → from ≡ 0 → left + 1 ≡ old.reads_left
    → Fills (feed_moment in0 old) (feed_moment in1 (record { waiting = drop from (take count items); reads_left = left; ended = nat_eq count 0 }))
fills in0 in1 old items piece from count left same taken ends bound room start fewer =
    let size : length (take count piece) ≡ count = length-take count piece ∙ least count (length piece) bound in
    rw (same, start) record {
      read = taken;
      end = λ e. let z : count ≡ 0 = search arith in ends z (omega arith);
      empty = none_taken count piece;
      fewer = omega (arith, fewer);
      few = rw size (omega (arith, bound, room));
      least = λ goes. let some : count ≡ 0 → ⊥ = search arith in rw size (omega (arith, fewer, some));
    }
  where
    least : (a b : ℕ) → a ≤ b → min a b ≡ a
    least a b le = omega (arith, le)
