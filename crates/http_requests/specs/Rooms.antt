-- The bytes held in a room.
use Rattle.std.specs.Prelude.{ℕ, List, slice_range}
use Rattle.http_requests.specs.declared.room.Room.{Room}

abbrev pub held : Room → List ℕ
held r = slice_range r.bytes.items r.start r.end
