use Rattle.std.proofs.Common.{◌≡◌, ◌+◌, ◌++◌, ◌∷◌, ◌∙◌, [], List, ap, arith, drop, length, refl, sym, take}
use Rattle.std.specs.Prelude.{Some, option_map, slice_get}
use Rattle.std.specs.Ordering.{nat_cmp}
use Rattle.std.specs.BTreeMap.{get}
use Rattle.std.proofs.lemmas.List.{length-map, length-take-le, take-append-drop}
use Rattle.std.proofs.lemmas.Option.{slice_get_read}
use Rattle.trace_model.specs.declared.answer.Shown.{Shown}
use Rattle.answer_trees.specs.ProcessNames.{added, place}
use Rattle.answer_trees.specs.ProcessNumbers.{placed_processes}
use Rattle.answer_trees.specs.Trees.{process_of, processes_of}
use Rattle.answer_trees.specs.TraceProcesses.{process_place}
use Rattle.answer_trees.proofs.PlacesByKeys.{known_put, one_more}
use Rattle.answer_trees.proofs.DistinctProcesses.{place_stays, processes_more}
use Rattle.answer_trees.proofs.naming.Placing.place_of.Goals as goal

pub returns-clause-placed : goal.returns-clause-placed
returns-clause-placed c = λ spans keys i s own next before.
    let old = c.args.self.now in
    let new = c.place_of.new.self in
    let says = c.in_ok-place_of.ensures in
    let front = take i spans in
    let rest = drop (i + 1) spans in
    let more : take (i + 1) spans ≡ front ++ s ∷ [] = one_more spans keys i s c.args.key next in
    let whole : (front ++ s ∷ []) ++ rest ≡ spans = ap (λ (l : List Shown). l ++ rest) (sym more) ∙ take-append-drop (i + 1) spans in
    let known : placed_processes new ≡ processes_of (front ++ s ∷ []) =
    says.processes ∙ ap (λ p. added p (placed_processes old.table)) own ∙ sym (processes_more (placed_processes old.table) front s before.processes) in
    let found : c.in_ok-place.place ≡ process_place (processes_of spans) s =
    c.in_ok-place.ensures ∙ says.place ∙ ap (λ p. place p (placed_processes new)) own ∙ ap (place s.placed.process) known ∙ sym (place_stays front rest s)
    ∙ ap (λ (l : List Shown). process_place (processes_of l) s) whole in
    let index : c.len-span.result ≡ i =
    omega (
      arith,
      c.len-span.ensures,
      old.places.ok.0,
      ap length before.places,
      length-map front (process_place (processes_of spans)),
      length-take-le i spans (omega (arith, next.within)),
    ) in
    let first : option_map process_of (slice_get spans c.len-span.result) ≡ Some c.args.process.now =
    ap (λ k. option_map process_of (slice_get spans k)) index ∙ ap (option_map process_of) (slice_get_read spans (length spans) i s refl next.within next.is)
    ∙ ap Some (sym own) in (
      record {
        by_place = says.by_place;
        processes = known ∙ sym (ap processes_of more);
        firsts = says.firsts spans first before.firsts;
        known =
            known_put spans keys i s c.args.key next c.in_ok-place.place (get nat_cmp old.known) (get nat_cmp c.store_by_key.new.places)
            found c.in_ok-store_by_key.ensures before.known;
      },
      found,
    )
