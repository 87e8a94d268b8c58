-- A skipped value of which some bytes have arrived: the part that is being read, and the containers
-- around it, one inside the other.
use Rattle.std.specs.Prelude.{ℕ, ◌-◌, ◌<◌, List, [], ◌∷◌, length, Result, Ok, Err}
use Rattle.thrift_binary.specs.Reading.{◌>>=◌}
use Rattle.thrift_binary.specs.Fields.{Take, fields_at}
use Rattle.thrift_binary.specs.Skipping.{Skip, past, both, times, value_at}
use Rattle.thrift_binary.specs.declared.fault.WireError.{WireError}
use Rattle.thrift_binary.specs.declared.fault.WireError.TheVariants.{Truncated}
use Rattle.wire_pieces.specs.declared.fault.PieceError.{PieceError}
use Rattle.wire_pieces.specs.Pieces.{Moment, Comes, NeedsMore, Refused, moment}
use Rattle.wire_pieces.specs.declared.skip.SkipProgress.{SkipProgress}
use Rattle.wire_pieces.specs.declared.skip.SkipProgress.TheVariants as progress
use Rattle.wire_pieces.specs.Numbers.{size_from}
use Rattle.wire_pieces.specs.Heads.{fields_head, list_head, map_head}
use Rattle.wire_pieces.specs.declared.skip.Frame.{Frame}
use Rattle.wire_pieces.specs.declared.skip.Frame.TheVariants.{Fields, Elements, Pairs, PairValue}
use Rattle.wire_pieces.specs.declared.skip.Current.{Current}
use Rattle.wire_pieces.specs.declared.skip.Current.TheVariants as now

-- the values of a struct's fields
abbrev pub passes : ℕ → Take (Unit {0}) WireError
passes levels s c i = value_at levels c

-- a pair of a map
abbrev pub pair_at : ℕ → ℕ → ℕ → Skip
pair_at levels k v = both (value_at levels k) (value_at levels v)

-- what is left of a container whose values have n levels
abbrev pub frame_at : ℕ → Frame → Skip
frame_at levels Fields w = fields_at (λ e. e) (passes levels) tt w
frame_at levels (Elements c n) w = times n (value_at levels c) w
frame_at levels (Pairs k v n) w = times n (pair_at levels k v) w
frame_at levels (PairValue k v n) w = value_at levels v w >>= λ x. times n (pair_at levels k v) x.1

-- containers, the outermost first
abbrev pub frames_at : ℕ → List Frame → Skip
frames_at levels [] w = Ok (tt, w)
frames_at levels (f ∷ fs) w = frames_at (levels - 1) fs w >>= λ x. frame_at levels f x.1

-- the part that is being read; a container that begins with it has values of n levels
abbrev pub now_at : ℕ → Current → Skip
now_at levels now.Nothing w = Ok (tt, w)
now_at levels (now.Past p) w = past p.left w
now_at levels (now.Size p) w = size_from p w >>= λ n. past n.0 n.1
now_at levels (now.Field h) w = fields_head (λ e. e) (passes levels) tt h w
now_at levels (now.List p) w = list_head p w >>= λ h. times h.0.1 (value_at levels h.0.0) h.1
now_at levels (now.Map p) w = map_head p w >>= λ h. times h.0.1 (pair_at levels h.0.0.0 h.0.0.1) h.1

-- that part, and the containers around it
unfoldable pub state_at : Current → List Frame → Skip
state_at now around w = now_at (64 - length around) now w >>= λ x. frames_at 64 around x.1

-- a value of the type inside the innermost container, and what follows it
unfoldable pub begun : ℕ → List Frame → Skip
begun c around w = value_at (65 - length around) c w >>= λ x. frames_at 64 around x.1

-- the number of containers that begin with the part that is being read
abbrev pub opens : Current → ℕ
opens now.Nothing = 0
opens (now.Past p) = 0
opens (now.Size p) = 0
opens (now.Field h) = 1
opens (now.List p) = 1
opens (now.Map p) = 1

-- the number of steps before a byte is needed
abbrev pub rank : Current → ℕ
rank now.Nothing = 1
rank (now.Past p) = 0
rank (now.Size p) = 0
rank (now.Field h) = 0
rank (now.List p) = 0
rank (now.Map p) = 0

-- the result of a step
abbrev pub Progresses : Moment (Unit {0} × List ℕ) WireError → Moment (Unit {0} × List ℕ) WireError → Result SkipProgress PieceError → Type 0
Progresses before after (Ok progress.Continue) = Comes before after
Progresses before after (Ok progress.NeedsMore) = NeedsMore Truncated before after
Progresses before after (Ok progress.Complete) = Comes before (moment (λ w. Ok (tt, w)) after.piece)
Progresses before after (Err e) = Refused before e

abbrev pub Lightens : ℕ → ℕ → Result SkipProgress PieceError → Type 0
Lightens old new (Ok progress.Continue) = new < old
Lightens old new (Ok progress.NeedsMore) = Unit {0}
Lightens old new (Ok progress.Complete) = Unit {0}
Lightens old new (Err e) = Unit {0}
