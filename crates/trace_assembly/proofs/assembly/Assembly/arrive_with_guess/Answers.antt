use Rattle.std.proofs.Common.{◌≡◌, ◌+◌, ◌<◌, ◌≤◌, ◌∙◌, length, get_or, [], ◌∷◌, ◌++◌, ap, sym, arith, List}
use Rattle.std.specs.Prelude.{position}
use Rattle.std.proofs.Math.ListN.{set}
use Rattle.std.proofs.lemmas.List.{length-set}
use Rattle.jaeger_model.specs.declared.ids.TraceId.{TraceId}
use Rattle.jaeger_model.specs.Parents.{same_trace}
use Rattle.trace_ring.specs.RingValues.{RingValue}
use Rattle.trace_assembly.specs.declared.spot.Spot.{Spot}
use Rattle.trace_assembly.specs.declared.assembly.Assembly.TheInside.{Inside}
use Rattle.trace_assembly.specs.AssembledRows.{Assembled, spots_in_row, spots_of}
use Rattle.trace_assembly.proofs.WrittenRows.{rows_left, rows_opened, seen_opened, spots_arrived}
use Rattle.trace_assembly.proofs.assembly.Assembly.arrive_with_guess.Goals as goal
use Rattle.trace_assembly.proofs.assembly.Assembly.arrive_with_guess.Goals.{then-rows-used, else-rows-used}

pub returns-clause-spots : goal.returns-clause-spots
returns-clause-spots c = λ t.
    let old = c.self.inside in
    let arrived = c.arrive_with_guess-arrived in
    let left = arrived.result.evicted in
    let row = arrived.result.row in
    let seen = arrived.new.self.seen in
    let now = c.if-rows-used.self-inside in
    let ring : now.ring ≡ arrived.new.self = elim c.if-rows-used.branch [
      | then-rows-used w ↦ ap (λ (s : Inside). s.ring) w.self-inside-is
      | else-rows-used w ↦ ap (λ (s : Inside). s.ring) w.self-inside-is
    ] in
    let opened : length old.chains.chains < length seen → now.chains.chains ≡ old.chains.chains ++ [] ∷ [] = λ more.
    elim c.if-rows-used.branch [
      | then-rows-used w ↦ ap (λ (s : Inside). s.chains.chains) w.self-inside-is ∙ w.open.ensures.chains
      | else-rows-used w ↦ absurd (omega (arith, more, w.if-rows-used, c.rows.ensures, c.used.ensures.used))
    ] in
    let same : length seen ≤ length old.chains.chains → now.chains.chains ≡ old.chains.chains = λ few.
    elim c.if-rows-used.branch [
      | then-rows-used w ↦ absurd (omega (arith, few, w.if-rows-used, c.rows.ensures, c.used.ensures.used))
      | else-rows-used w ↦ ap (λ (s : Inside). s.chains.chains) w.self-inside-is
    ] in
    let rows = rows_opened old.ring.seen seen old.chains.chains now.chains.chains c.args.trace c.self.invariant.as_many arrived.ensures.seen opened same in
    (λ i. spots_in_row
    ((c.add.ensures.chains ∙ ap (λ (cs : List (List Spot)). set cs row (get_or cs row [] ++ c.args.spot ∷ [])) c.hide_evicted.ensures.chains) i)
    (position (same_trace t) (ring i).seen))
    ∙ spots_arrived seen now.chains.chains left c.args.trace t row c.args.spot (spots_of c.args.self.now) rows.0 arrived.ensures.evicted_row
    arrived.ensures.first
    (λ u. rows.1 u ∙ ap (λ (w : Assembled). spots_of w u) c.self.view_is)

pub invariant_of-self : goal.invariant_of-self
invariant_of-self c =
    let old = c.self.inside in
    let arrived = c.arrive_with_guess-arrived in
    let left = arrived.result.evicted in
    let seen = arrived.new.self.seen in
    let now = c.if-rows-used.self-inside in
    let ring : now.ring ≡ arrived.new.self = elim c.if-rows-used.branch [
      | then-rows-used w ↦ ap (λ (s : Inside). s.ring) w.self-inside-is
      | else-rows-used w ↦ ap (λ (s : Inside). s.ring) w.self-inside-is
    ] in
    let used : now.chains.used ≡ old.chains.used = elim c.if-rows-used.branch [
      | then-rows-used w ↦ ap (λ (s : Inside). s.chains.used) w.self-inside-is ∙ w.open.ensures.used
      | else-rows-used w ↦ ap (λ (s : Inside). s.chains.used) w.self-inside-is
    ] in
    let room : now.chains.room ≡ old.chains.room = elim c.if-rows-used.branch [
      | then-rows-used w ↦ ap (λ (s : Inside). s.chains.room) w.self-inside-is ∙ w.open.ensures.room
      | else-rows-used w ↦ ap (λ (s : Inside). s.chains.room) w.self-inside-is
    ] in
    let opened : length old.chains.chains < length seen → now.chains.chains ≡ old.chains.chains ++ [] ∷ [] = λ more.
    elim c.if-rows-used.branch [
      | then-rows-used w ↦ ap (λ (s : Inside). s.chains.chains) w.self-inside-is ∙ w.open.ensures.chains
      | else-rows-used w ↦ absurd (omega (arith, more, w.if-rows-used, c.rows.ensures, c.used.ensures.used))
    ] in
    let same : length seen ≤ length old.chains.chains → now.chains.chains ≡ old.chains.chains = λ few.
    elim c.if-rows-used.branch [
      | then-rows-used w ↦ absurd (omega (arith, few, w.if-rows-used, c.rows.ensures, c.used.ensures.used))
      | else-rows-used w ↦ ap (λ (s : Inside). s.chains.chains) w.self-inside-is
    ] in
    let rows = rows_opened old.ring.seen seen old.chains.chains now.chains.chains c.args.trace c.self.invariant.as_many arrived.ensures.seen opened same in
    let more : length seen ≤ length old.ring.seen + 1 =
    omega (arith, seen_opened old.ring.seen c.args.trace, ap (λ (ids : List TraceId). length ids) arrived.ensures.seen) in
    let many : length now.ring.seen ≡ length seen = ap (λ (w : RingValue). length w.seen) ring in
    record {
      as_many =
          ap (λ (cs : List (List Spot)). length cs) c.add.ensures.chains
          ∙ length-set c.hide_evicted.new.chains.chains arrived.result.row (get_or c.hide_evicted.new.chains.chains arrived.result.row [] ++ c.args.spot ∷ [])
          ∙ ap (λ (cs : List (List Spot)). length cs) c.hide_evicted.ensures.chains ∙ rows_left left now.chains.chains ∙ rows.0 ∙ sym many;
      few = omega (arith, more, many, c.self.invariant.few, c.add.ensures.used, c.hide_evicted.ensures.used, used);
      same_room =
          ap (λ (w : RingValue). w.room) ring ∙ arrived.ensures.room ∙ c.self.invariant.same_room ∙ sym room ∙ sym c.hide_evicted.ensures.room
          ∙ sym c.add.ensures.room;
    }
