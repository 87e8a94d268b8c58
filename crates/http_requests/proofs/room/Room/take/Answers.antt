use Rattle.std.proofs.Common.{ℕ, arith}
use Rattle.std.proofs.lemmas.List.{length-take, length-drop}
use Rattle.http_requests.proofs.Rooms.{taken}
use Rattle.http_requests.proofs.room.Room.take.Goals as goal

pub returns : goal.returns
returns c =
    let r = c.args.self.now in
    taken r.bytes.items r.start r.end c.args.count (omega (arith, c.requires, r.ordered, length-take {A = ℕ}, length-drop {A = ℕ}))
