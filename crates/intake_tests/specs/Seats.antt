-- The states of a seat in the tests.
use Rattle.std.specs.Prelude.{◌≡◌, true}
use Rattle.atomic_table.specs.Seated.{TableId}
use Rattle.intake.specs.Seats.{SeatValue}

-- a seat of this desk that may submit
abbrev pub MaySubmit : TableId → SeatValue → Type 0
MaySubmit desk s = (s.desk ≡ desk) × (s.may_submit ≡ true)

-- it is of the same desk, and may submit if it could before
abbrev pub KeepsSeat : SeatValue → SeatValue → Type 0
KeepsSeat old new = (new.desk ≡ old.desk) × (new.may_submit ≡ old.may_submit)

-- each of four seats may
abbrev pub AllMaySubmit : TableId → SeatValue → SeatValue → SeatValue → SeatValue → Type 0
AllMaySubmit desk a b c d = MaySubmit desk a × MaySubmit desk b × MaySubmit desk c × MaySubmit desk d
