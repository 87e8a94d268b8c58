use Rattle.std.proofs.Common.{ℕ, List, ◌≤◌, length, take, subst, ◌∙◌}
use Rattle.std.specs.Io.KnownBytes.{Appends}
use Rattle.open_connections.proofs.Deliveries.{takes_more}
use Rattle.open_connections.proofs.buffered.write_some.Goals as goal

pub loop-connection-preserved : goal.loop-connection-preserved
loop-connection-preserved g c =
    let n = c.in_ok-count.count in
    let part = c.loop-connection.waiting.part in
    let a = g.C.TryConnection.contents c.args.connection.now in
    let b = g.C.TryConnection.contents c.loop-connection.connection in
    let d = g.C.TryConnection.contents c.try_write.new.self in
    let wrote = subst (λ (l : List ℕ). Appends b d (take n l)) c.chunk.ensures.first c.in_ok-count.ensures.bytes in
    let within = subst (λ (l : List ℕ). n ≤ length l) c.chunk.ensures.first c.in_ok-count.ensures.bound in (
      takes_more a b d _ part c.loop-connection.waiting.rest _ n c.loop-connection.invariant.0 wrote within c.consume.ensures,
      c.in_ok-count.ensures.input ∙ c.loop-connection.invariant.1,
      c.in_ok-count.ensures.input_works ∙ c.loop-connection.invariant.2,
    )
