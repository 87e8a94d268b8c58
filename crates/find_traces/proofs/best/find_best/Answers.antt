use Rattle.std.proofs.Common.{◌≡◌, ◌+◌, ◌-◌, ◌<◌, ◌≤◌, ◌++◌, List, map, length, take, sym, ap, subst, ◌∙◌, arith}
use Rattle.std.specs.Prelude.{filter, IfNone, Option}
use Rattle.find_traces.specs.declared.key.Key.{Key}
use Rattle.find_traces.specs.Keys.{reverse_key_index}
use Rattle.find_traces.specs.BestKeys.{ranking, is_match, is_match_after, IsLast}
use Rattle.find_traces.proofs.LimitedAnswers.{at_most, all_latest, enough_latest, others_added}
use Rattle.find_traces.proofs.best.find_best.Goals as goal
use Rattle.find_traces.proofs.best.find_best.Goals.{in-Some+then-room-ne0+in_ok-others+in_ok-push_indices, in-Some+else-room-ne0, in_default}

pub overflow_sub-room : goal.overflow_sub-room
overflow_sub-room g c =
    let q = g.T.Searched.query c.args.traces.now in
    let ts = g.T.Searched.traces c.args.traces.now in
    let n = c.limit-limit.result in
    let some : 0 < n = omega (arith, c.requires, c.limit-limit.ensures) in
    let placed = c.in_ok-indices.ensures.indices ∙ ap (λ l. map reverse_key_index (filter (is_match q ts) l)) c.in_ok-latest.ensures.keys in
    let count = ap length placed in
    let within = at_most q ts n (sym c.limit-limit.ensures) some in
    let len = c.len.ensures in
    omega (arith, count, within, len)

pub returns-clause-indices : goal.returns-clause-indices
returns-clause-indices g c =
    let q = g.T.Searched.query c.args.traces.now in
    let ts = g.T.Searched.traces c.args.traces.now in
    let n = c.limit-limit.result in
    let limited = sym c.limit-limit.ensures in
    let some : 0 < n = omega (arith, c.requires, c.limit-limit.ensures) in
    let keys = c.in_ok-latest.ensures.keys in
    let placed = c.in_ok-indices.ensures.indices ∙ ap (λ l. map reverse_key_index (filter (is_match q ts) l)) keys in
    let count = ap length placed in
    let within = at_most q ts n limited some in
    elim c.match-last.branch [
      | in-Some+then-room-ne0+in_ok-others+in_ok-push_indices w ↦
          let len = w.len.ensures in
          let room = n - w.len.result in
          let full : length (map reverse_key_index (filter (is_match q ts) (take n (ranking ts)))) + room ≡ n = omega (arith, count, within, len) in
          let last = subst (λ l. IsLast l w.in-Some.last) keys w.in-Some.ensures.last in
          ap (λ v. v.items) w.indices-is ∙ w.in_ok-push_indices.ensures
          ∙ (λ j. placed j ++ map reverse_key_index (w.in_ok-others.ensures.keys j))
          ∙ (λ j. map reverse_key_index (filter (is_match q ts) (take n (ranking ts))) ++ map reverse_key_index (take room
          (filter (is_match_after (c.in_ok-indices.ensures.same_query j) (c.in_ok-indices.ensures.same_traces j) w.in-Some.last)
          (ranking (c.in_ok-indices.ensures.same_traces j)))))
          ∙ others_added q ts n limited some w.in-Some.last room last full
      | in-Some+else-room-ne0 w ↦
          let len = w.len.ensures in
          let none = w.if-room-ne0.false in
          ap (λ v. v.items) w.indices-is ∙ placed ∙ enough_latest q ts n limited some (omega (arith, count, within, len, none))
      | in_default w ↦
          let few = subst (λ (o : Option Key). IfNone o (length c.in_ok-latest.latest.keys.keys < c.in_ok-latest.latest.limit)) w.in_default.is
          c.last_if_full-last.ensures.all in
          let short = ap length keys in
          let limit = c.in_ok-latest.ensures.limit in
          ap (λ v. v.items) w.indices-is ∙ placed ∙ all_latest q ts n limited some (omega (arith, few, short, limit))
    ]
