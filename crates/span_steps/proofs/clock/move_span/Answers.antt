use Rattle.std.proofs.Common.{◌≡◌, Bool, true, false, ◌&&◌, ◌+ℤ◌, IsTrue, ap, sym, rules}
use Rattle.std.specs.Int.{w128}
use Rattle.std.specs.List.{list_all}
use Rattle.std.proofs.lemmas.Bool.{false≢true}
use Rattle.std.proofs.lemmas.Int.{to_z-of_z}
use Rattle.jaeger_model.specs.declared.span.Log.{Log}
use Rattle.trace_model.specs.Adjusting.{fits}
use Rattle.span_steps.proofs.clock.move_span.Goals as goal

second : (a b : Bool) → IsTrue (a && b) → IsTrue b
second true b h = h
second false b h = absurd (false≢true h)

pub moved_logs-requires : goal.moved_logs-requires
moved_logs-requires c =
    let d = to_z-of_z w128 c.args.delta c.ranges.delta in
    let fit : IsTrue (list_all (λ (l : Log). fits (l.at +ℤ c.args.delta)) c.args.span.now.logs) = second _ _ c.requires in
    rw (d, c.replace-logs.ensures.value) fit
