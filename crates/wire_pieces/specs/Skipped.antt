-- What a partially skipped value reads from the bytes that are still to come, and how many steps it may take.
use Rattle.std.specs.Prelude.{ℕ, ◌+◌, ◌*◌, List, length}
use Rattle.thrift_binary.specs.Skipping.{Skip}
use Rattle.wire_pieces.specs.declared.skip.Skipping.{Skipping}
use Rattle.wire_pieces.specs.Frames.{state_at, rank}

-- what is skipped of the bytes that are still to come
abbrev pub skipping : Skipping → Skip
skipping s w = state_at s.now s.around.items w

-- the most steps that take no byte: a frame that ends, or a value that begins
abbrev pub height : Skipping → ℕ
height s = 2 * length s.around.items + rank s.now

abbrev pub weight : Skipping → List ℕ → ℕ
weight s piece = 5 * length piece + height s
