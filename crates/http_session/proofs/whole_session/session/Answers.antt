use Rattle.std.proofs.Common.{◌≡◌, rules, subst₂}
use Rattle.http_session.specs.Sessions.{store_of, moment}
use Rattle.http_session.specs.SessionRuns.{devices_of, EndsOnDevicesInHistory, FailsOnDevicesInHistory}
use Rattle.http_session.proofs.whole_session.session.Goals as goal

-- the connection began with the devices, and they are what it ended with
carried : {R W : Type 0} {i0 j0 i1 j1 : R} {o0 p0 o1 p1 : W} (Held : R → R → W → W → Type 0) → i0 ≡ j0 → o0 ≡ p0 → i1 ≡ j1 → o1 ≡ p1 → Held i0 i1 o0 o1
    → Held j0 j1 p0 p1
carried {j0 = j0} {i1 = i1} {p0 = p0} {o1 = o1} Held input output input_left output_left held =
    subst₂ (λ i o. Held j0 i p0 o) input_left output_left (subst₂ (λ i o. Held i i1 o o1) input output held)

pub returns-in-Ok-clause-ended : goal.returns-in-Ok-clause-ended
returns-in-Ok-clause-ended g c =
    let Ended : g.row.R.Denot → g.row.R.Denot → g.row.W.Denot → g.row.W.Denot → Type 0 = λ i0 i1 o0 o1.
    EndsOnDevicesInHistory (store_of g.B.Backend.submits g.B.Backend.reads g.B.Backend.knows g.B.Backend.limits)
    (devices_of g.R.Input.remaining g.R.Input.gives g.R.Input.has_failed g.W.Output.contents g.W.Output.has_failed)
    (moment i0 o0 c.args.backend.now) (moment i1 o1 c.serve_joined.new.backend) c.in-Ok.ended in
    carried Ended (search rules) (search rules) (search rules) (search rules) c.in-Ok.ensures.ended

pub returns-in-Err-clause-error : goal.returns-in-Err-clause-error
returns-in-Err-clause-error g c =
    let Failed : g.row.R.Denot → g.row.R.Denot → g.row.W.Denot → g.row.W.Denot → Type 0 = λ i0 i1 o0 o1.
    FailsOnDevicesInHistory (store_of g.B.Backend.submits g.B.Backend.reads g.B.Backend.knows g.B.Backend.limits)
    (devices_of g.R.Input.remaining g.R.Input.gives g.R.Input.has_failed g.W.Output.contents g.W.Output.has_failed)
    (moment i0 o0 c.args.backend.now) (moment i1 o1 c.serve_joined.new.backend) c.in-Err.error in
    carried Failed (search rules) (search rules) (search rules) (search rules) c.in-Err.ensures.error
