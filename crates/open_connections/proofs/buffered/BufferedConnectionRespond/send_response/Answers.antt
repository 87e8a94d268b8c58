use Rattle.std.proofs.Common.{sym, ◌∙◌, ◌≡◌, ◌≤◌, ◌-◌, [], length, ap, subst, arith, refl}
use Rattle.std.specs.Io.KnownBytes.{Appends}
use Rattle.std.proofs.KnownBytes.{Appends-nil}
use Rattle.query_json.specs.Parts.{to_come}
use Rattle.open_connections.specs.BufferedConnections.{handed_over}
use Rattle.open_connections.proofs.Deliveries.{none_left, responded, responded_part}
use Rattle.open_connections.proofs.buffered.BufferedConnectionRespond.send_response.Goals as goal

pub returns-in-Ok-clause-ok : goal.returns-in-Ok-clause-ok
returns-in-Ok-clause-ok g c =
    responded _ _ c.args.self.now.waiting c.unless_empty.result _ _ _ (sym c.is_some.ensures ∙ c.if-is_some.false)
    c.unless_empty.ensures c.new-waiting.ensures c.write_some-written.ensures.first

pub returns-in-Ok-clause-took : goal.returns-in-Ok-clause-took
returns-in-Ok-clause-took g c = (
  responded _ _ c.args.self.now.waiting c.unless_empty.result _ _ _ (sym c.is_some.ensures ∙ c.if-is_some.false)
      c.unless_empty.ensures c.new-waiting.ensures c.write_some-written.ensures.first,
  c.write_some-written.ensures.input,
  c.write_some-written.ensures.input_works,
)

pub returns-in-Err-clause-took : goal.returns-in-Err-clause-took
returns-in-Err-clause-took g c = (
  responded_part _ _ c.args.self.now.waiting _ _ _ _ (sym c.is_some.ensures ∙ c.if-is_some.false) c.new-waiting.ensures c.write_some-written.ensures.first
      (omega (arith, c.len-all.ensures.length, c.len-left.ensures.length)),
  c.write_some-written.ensures.input,
  c.write_some-written.ensures.input_works,
)

pub returns-in-Err-clause-err : goal.returns-in-Err-clause-err
returns-in-Err-clause-err g c = (
  omega (arith, c.len-all.ensures.length, ap length c.new-waiting.ensures, c.len-left.ensures.length, c.in-Err.ensures.err),
  responded_part _ _ c.args.self.now.waiting _ _ _ _ (sym c.is_some.ensures ∙ c.if-is_some.false) c.new-waiting.ensures c.write_some-written.ensures.first
      (omega (arith, c.len-all.ensures.length, c.len-left.ensures.length)),
  refl,
)

pub returns-then-all-eq0-clause-ok : goal.returns-then-all-eq0-clause-ok
returns-then-all-eq0-clause-ok g c =
    let contents = handed_over g.C.TryConnection.contents c.args.self.now in
    let none : to_come c.args.response ≡ [] =
    none_left _ (omega (arith, c.if-all-eq0.true, c.len-all.ensures.length, ap length c.new-waiting.ensures)) in
    subst (Appends contents contents) (sym none) (Appends-nil contents)

pub returns-then-all-eq0-clause-took : goal.returns-then-all-eq0-clause-took
returns-then-all-eq0-clause-took g c =
    let contents = handed_over g.C.TryConnection.contents c.args.self.now in
    let none : to_come c.args.response ≡ [] =
    none_left _ (omega (arith, c.if-all-eq0.true, c.len-all.ensures.length, ap length c.new-waiting.ensures)) in
    (subst (Appends contents contents) (sym none) (Appends-nil contents), refl, refl)

pub returns-then-is_some-clause-took : goal.returns-then-is_some-clause-took
returns-then-is_some-clause-took g c = (Appends-nil (handed_over g.C.TryConnection.contents c.args.self.now), refl, refl)

pub returns-then-is_some-clause-err : goal.returns-then-is_some-clause-err
returns-then-is_some-clause-err g c = (
  omega (arith, c.if-all-eq0.false, c.len-all.ensures.length, ap length c.new-waiting.ensures),
  Appends-nil (handed_over g.C.TryConnection.contents c.args.self.now),
  refl,
)
