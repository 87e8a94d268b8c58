use Rattle.std.proofs.Common.{◌≡◌, ◌∙◌, ap, map, List}
use Rattle.std.proofs.lemmas.Result.{IfOk-weaker}
use Rattle.jaeger_model.specs.declared.placed.Placed.{Placed}
use Rattle.trace_model.specs.declared.query.Find.{Find}
use Rattle.trace_model.specs.Searching.{found_in}
use Rattle.find_traces.specs.FoundIndices.{indices_found, trace_at}
use Rattle.find_traces.proofs.Found.{traces_found}
use Rattle.find_traces.proofs.finding.find.Goals as goal

pub returns-then-limit-eq0-clause-traces : goal.returns-then-limit-eq0-clause-traces
returns-then-limit-eq0-clause-traces g c =
    let q : Find = (g.T.Searched.query c.args.traces.now) in
    let ts : List (List Placed) = g.T.Searched.traces c.args.traces.now in
    IfOk-weaker c.find_all.result (λ v. v.items ≡ indices_found q ts) (λ v. map (trace_at ts) v.items ≡ found_in q ts)
    (λ v e. ap (map (trace_at ts)) e ∙ traces_found q ts) c.find_all.ensures.indices

pub returns-clause-traces : goal.returns-clause-traces
returns-clause-traces g c =
    let q : Find = (g.T.Searched.query c.args.traces.now) in
    let ts : List (List Placed) = g.T.Searched.traces c.args.traces.now in
    IfOk-weaker c.find_best.result (λ v. v.items ≡ indices_found q ts) (λ v. map (trace_at ts) v.items ≡ found_in q ts)
    (λ v e. ap (map (trace_at ts)) e ∙ traces_found q ts) c.find_best.ensures.indices
