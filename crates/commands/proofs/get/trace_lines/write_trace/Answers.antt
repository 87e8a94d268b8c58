use Rattle.std.proofs.Common.{rules, ◌≡◌, map, Some, None, subst}
use Rattle.std.proofs.lemmas.Result.{err_from_is_err_and}
use Rattle.std.specs.Io.KnownBytes.{Appends}
use Rattle.std.specs.Prelude.{option_map}
use Rattle.text_lines.specs.RunErrors.{WritesSome}
use Rattle.trace_model.specs.Adjusting.{unadjusted}
use Rattle.commands.specs.GetRuns.{trace_by_id}
use Rattle.commands.proofs.FoundLines.{text_found, text_lost}
use Rattle.commands.proofs.get.trace_lines.write_trace.Goals as goal

pub returns-in_ok-write_spans-in-Some-clause-lines : goal.returns-in_ok-write_spans-in-Some-clause-lines
returns-in_ok-write_spans-in-Some-clause-lines g c =
    let found = trace_by_id c.args.store.now c.args.trace in
    let is : Some c.in-Some.spans ≡ option_map (map unadjusted) found = search rules in
    let same : c.as_slice.result.now ≡ c.in-Some.spans = search rules in (
      subst (Appends (g.W.Output.contents c.args.output.now) (g.W.Output.contents c.write_spans.new.output))
          (text_found found c.in-Some.spans c.as_slice.result.now same is) c.in_ok-write_spans-in-Some.ensures.0,
      c.in_ok-write_spans-in-Some.ensures.1,
    )

pub returns-in_err-write_spans-in-Some-clause-lines : goal.returns-in_err-write_spans-in-Some-clause-lines
returns-in_err-write_spans-in-Some-clause-lines g c =
    let found = trace_by_id c.args.store.now c.args.trace in
    let is : Some c.in-Some.spans ≡ option_map (map unadjusted) found = search rules in
    let same : c.as_slice.result.now ≡ c.in-Some.spans = search rules in
    let p = err_from_is_err_and c.from_residual-in_err-write_spans-in-Some.result c.from_residual-in_err-write_spans-in-Some.ensures.1 in
    rw (p.1, p.2) (
      subst (WritesSome (g.W.Output.contents c.args.output.now) (g.W.Output.contents c.write_spans.new.output))
          (text_found found c.in-Some.spans c.as_slice.result.now same is) c.in_err-write_spans-in-Some.ensures.0,
      c.in_err-write_spans-in-Some.ensures.1,
    )

pub returns-in_ok-write_not_found-in-None-clause-lines : goal.returns-in_ok-write_not_found-in-None-clause-lines
returns-in_ok-write_not_found-in-None-clause-lines g c =
    let found = trace_by_id c.args.store.now c.args.trace in
    let is : None ≡ option_map (map unadjusted) found = search rules in (
      subst (Appends (g.W.Output.contents c.args.output.now) (g.W.Output.contents c.write_not_found.new.output)) (text_lost found is)
          c.in_ok-write_not_found-in-None.ensures.0,
      c.in_ok-write_not_found-in-None.ensures.1,
    )
