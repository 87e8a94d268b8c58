-- The places of processes, which are looked up by their keys.
use Rattle.std.proofs.Common.{◌≡◌, ◌==◌, ℕ, ◌+◌, ◌∙◌, Bool, true, false, List, [], ◌∷◌, ◌++◌, map, take, get_or, refl, sym, ap, ap₂, arith, eqb-true}
use Rattle.std.proofs.Common.{length, ◌<◌, ⊎_elim}
use Rattle.std.specs.Prelude.{Option, Some, None, option_and_then, slice_get, if◌then◌else◌}
use Rattle.std.proofs.lemmas.List.{get_or-map, map_push, take_more}
use Rattle.std.proofs.lemmas.Option.{get_or_from_slice_get, slice_get_cases, slice_get_within}
use Rattle.jaeger_model.specs.declared.placed.Placed.{Placed}
use Rattle.trace_model.specs.declared.answer.Shown.{Shown}
use Rattle.trace_model.specs.Adjusting.{spans_of}
use Rattle.trace_model.specs.SharedProcesses.{ShareProcesses}
use Rattle.answer_trees.specs.ProcessNames.{among, place}
use Rattle.trace_model.specs.KeyedPlaces.{stored_under}
use Rattle.answer_trees.specs.ProcessPlaces.{AreKnown, ComesNext, IsKnown}
use Rattle.answer_trees.specs.Trees.{processes_of}
use Rattle.answer_trees.specs.TraceProcesses.{process_place}
use Rattle.answer_trees.proofs.DistinctProcesses.{added_known, among_itself, among_stays, processes_more}

module _ (spans : List Shown) (keys : List ℕ) (i : ℕ) (s : Shown) (key : Option ℕ) (next : ComesNext spans keys i s key) where
  process_there : (d : Placed) → (get_or (spans_of spans) i d).process ≡ s.placed.process
  process_there d = ap (λ (p : Placed). p.process) (get_or-map (λ (x : Shown). x.placed) spans i s d next.within ∙ ap (λ (x : Shown). x.placed) (sym next.is))

  pub one_more : take (i + 1) spans ≡ take i spans ++ s ∷ []
  one_more = take_more spans i s next.within ∙ ap (λ y. take i spans ++ y ∷ []) (sym next.is)

  known_more : (e n : ℕ) → IsKnown spans keys i e n → IsKnown spans keys (i + 1) e n
  known_more e n k = record {
    index = k.index;
    before = omega (arith, k.before);
    stands = k.stands;
    counted = λ d.
        let p = (get_or (spans_of spans) k.index d).process in
        ap (λ (l : List Shown). among p (processes_of l)) one_more ∙ ap (among p) (processes_more (processes_of (take i spans)) (take i spans) s refl)
        ∙ among_stays p s.placed.process (processes_of (take i spans)) (k.counted d);
    place = k.place;
  }

  -- nothing is inserted
  pub all_more : (known : ℕ → Option ℕ) → AreKnown spans keys i known → AreKnown spans keys (i + 1) known
  all_more known all e n found = known_more e n (all e n found)

  -- the place of the span's process is inserted for that of its key
  pub known_put : (n : ℕ) (old new : ℕ → Option ℕ) → n ≡ process_place (processes_of spans) s → ((e : ℕ) → new e ≡ stored_under key n old e)
      → AreKnown spans keys i old → AreKnown spans keys (i + 1) new
  known_put n old new found put all e m is = by key refl (sym (put e) ∙ is)
    where
      own : (k : ℕ) → Some k ≡ slice_get keys i → IsKnown spans keys (i + 1) k n
      own k at = record {
        index = i;
        before = omega arith;
        stands = sym at;
        counted = λ d.
            ap (λ p. among p (processes_of (take (i + 1) spans))) (process_there d) ∙ ap (λ (l : List Shown). among s.placed.process (processes_of l)) one_more
            ∙ among_itself (take i spans) s;
        place = λ d. found ∙ ap (λ p. place p (processes_of spans)) (sym (process_there d));
      }

      by_test : (k : ℕ) (b : Bool) → (k == e) ≡ b → Some k ≡ slice_get keys i → (if b then Some n else old e) ≡ Some m → IsKnown spans keys (i + 1) e m
      by_test k false t at q = known_more e m (all e m q)
      by_test k true t at q =
          let known : IsKnown spans keys (i + 1) k n = own k at in
          let same : m ≡ n = cc (q) in
          record {
            index = known.index;
            before = known.before;
            stands = known.stands ∙ ap Some (eqb-true k e t);
            counted = known.counted;
            place = λ d. same
                ∙ known.place d;
          }

      by : (o : Option ℕ) → key ≡ o → stored_under o n old e ≡ Some m → IsKnown spans keys (i + 1) e m
      by None same q = known_more e m (all e m q)
      by (Some k) same q = by_test k (k == e) refl (sym same ∙ next.stands) q

  -- a span whose key is known has the process stored for it
  same_process : (k n : ℕ) → key ≡ Some k → (known : IsKnown spans keys i k n) → (get_or (spans_of spans) known.index s.placed).process ≡ s.placed.process
  same_process k n is known =
      let own : slice_get keys i ≡ Some k = sym next.stands ∙ is in
      let one : get_or keys known.index 0 ≡ get_or keys i 0 =
      get_or_from_slice_get keys known.index k 0 known.stands ∙ sym (get_or_from_slice_get keys i k 0 own) in
      next.shares known.index i s.placed (slice_get_within keys known.index k known.stands, slice_get_within keys i k own, one) ∙ process_there s.placed

  -- the map has the place of the process for the span's key
  pub known_place : (known : ℕ → Option ℕ) (n : ℕ) → AreKnown spans keys i known → option_and_then known key ≡ Some n
      → n ≡ process_place (processes_of spans) s
  known_place known n all found = by key refl found
    where
      by : (o : Option ℕ) → key ≡ o → option_and_then known o ≡ Some n → n ≡ process_place (processes_of spans) s
      by None is q = absurd (cc (q))
      by (Some k) is q = (all k n q).place s.placed ∙ ap (λ p. place p (processes_of spans)) (same_process k n is (all k n q))

  -- and its process has been added
  pub known_processes : (known : ℕ → Option ℕ) (n : ℕ) → AreKnown spans keys i known → option_and_then known key ≡ Some n
      → processes_of (take (i + 1) spans) ≡ processes_of (take i spans)
  known_processes known n all found =
      let ps = processes_of (take i spans) in
      ap processes_of one_more ∙ processes_more ps (take i spans) s refl ∙ added_known s.placed.process ps (by key refl found)
    where
      by : (o : Option ℕ) → key ≡ o → option_and_then known o ≡ Some n → among s.placed.process (processes_of (take i spans)) ≡ true
      by None is q = absurd (cc (q))
      by (Some k) is q = ap (λ p. among p (processes_of (take i spans))) (sym (same_process k n is (all k n q))) ∙ (all k n q).counted s.placed

  -- one more place
  pub places_more : (old new : List ℕ) (n : ℕ) → old ≡ map (process_place (processes_of spans)) (take i spans) → new ≡ old ++ n ∷ []
      → n ≡ process_place (processes_of spans) s
      → new ≡ map (process_place (processes_of spans)) (take (i + 1) spans)
  places_more old new n are put found =
      let place_of = process_place (processes_of spans) in
      put ∙ ap₂ (λ ps p. ps ++ p ∷ []) are found ∙ sym (map_push place_of (take i spans) s) ∙ sym (ap (map place_of) one_more)

-- what follows from the span at an index
pub come_next : (spans : List Shown) (keys : List ℕ) (i : ℕ) (key : Option ℕ) (P : Type 0) → i < length spans → key ≡ slice_get keys i
    → ShareProcesses (spans_of spans) keys → ((s : Shown) → ComesNext spans keys i s key → P) → P
come_next spans keys i key P within stands shares follows =
    ⊎_elim (λ found. follows found.0 (record { within = within; is = sym found.3; stands = stands; shares = shares }))
    (λ past. absurd (omega (arith, within, past.0))) (slice_get_cases spans i).1
