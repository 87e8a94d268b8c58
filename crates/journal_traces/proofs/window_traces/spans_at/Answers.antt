use Rattle.std.proofs.Common.{◌∙◌, sym, ap, rules, ◌++◌, ◌∷◌, []}
use Rattle.std.proofs.lemmas.List.{take_all}
use Rattle.trace_model.proofs.Lists.{read_some, read_none}
use Rattle.collected_traces.specs.declared.taken_spot.TakenSpot.{TakenSpot}
use Rattle.journal_traces.specs.WindowTraces.{entries_seen, taken_reported, trace_reported}
use Rattle.journal_traces.proofs.window_traces.spans_at.Goals as goal
use Rattle.journal_traces.proofs.window_traces.spans_at.Goals.{in-Some+in_ok-push, in_default}

pub loop-spot-preserved : goal.loop-spot-preserved
loop-spot-preserved c =
    let f = taken_reported (entries_seen c.args.entries.now) in
    let ss = c.args.spots.now in
    let i = c.loop-spot.spot-index in
    let d : TakenSpot = record { number = 0; index = 0 } in
    elim c.match-span_at.branch [
      | in-Some+in_ok-push w ↦
          ap (λ v. v.items) w.spans-is ∙ w.in_ok-push.ensures.items
          ∙ ap (λ l. l ++ w.in-Some.span ∷ []) c.loop-spot.invariant
          ∙ sym (read_some f ss i d w.in-Some.span (search rules) (sym c.span_at.ensures ∙ w.in-Some.is))
      | in_default w ↦
          ap (λ v. v.items) w.spans-is ∙ c.loop-spot.invariant
          ∙ sym (read_none f ss i d (search rules) (sym c.span_at.ensures ∙ w.in_default.is))
    ]

pub returns : goal.returns
returns c =
    c.loop-spot.invariant ∙ ap (trace_reported (entries_seen c.args.entries.now)) (take_all c.loop-spot.spot-index c.args.spots.now c.loop-spot-test.false)
