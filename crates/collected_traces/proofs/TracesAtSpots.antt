-- Traces that are collected by their spots among entries that are collected once each.
use Rattle.std.proofs.Common.{◌≡◌, ℕ, zero, suc, ◌+◌, ◌-◌, ◌<◌, ◌≤◌, Bool, true, false, ◌||◌, cond, List, [], ◌∷◌, ◌++◌, map, length, take, drop, get_or, refl}
use Rattle.std.proofs.Common.{sym, ap, subst, ◌∙◌, arith, Some, None, Option, Bor}
use Rattle.std.specs.Prelude.{slice_get, slice_range, slice_index_or, IfSome}
use Rattle.std.specs.List.{list_any, cons_option, All, AllZip}
use Rattle.std.specs.Option.{option_copied, option_and_then}
use Rattle.std.specs.Slice.{IsItemAt}
use Rattle.std.proofs.Math.Seq.{drop-cons}
use Rattle.std.proofs.lemmas.Bool.{false≢true, or_right}
use Rattle.std.proofs.lemmas.List.{length-map, append-nil, take-map, drop-map, take_more, take-append-drop, drop_all}
use Rattle.std.proofs.lemmas.List.Elements.{filter-append}
use Rattle.std.proofs.lemmas.List.Folds.{list_any-append}
use Rattle.std.proofs.lemmas.Option.{slice_get_past, slice_get-get_or}
use Rattle.jaeger_model.specs.declared.batch.Batch.{Batch}
use Rattle.jaeger_model.specs.declared.span.Span.{Span}
use Rattle.jaeger_model.specs.declared.placed.Placed.{Placed}
use Rattle.jaeger_model.specs.declared.placed.Seen.{Seen}
use Rattle.jaeger_model.specs.Parents.{placed}
use Rattle.trace_model.specs.declared.entry.Entry.{Entry}
use Rattle.trace_model.specs.declared.query.Find.{Find}
use Rattle.trace_model.specs.Searching.{matches, cut, ranked_by_start, first_start, matching, found_in}
use Rattle.trace_model.specs.TakenSpans.{Taken, placed_taken}
use Rattle.trace_model.specs.BorrowedSpans.{seen, placed_by_its_entry}
use Rattle.find_traces.specs.FoundIndices.{trace_at}
use Rattle.trace_model.specs.EntryWork.{placed_brought}
use Rattle.trace_assembly.specs.LocatedSpans.{span_at}
use Rattle.collected_traces.specs.declared.collected_candidates.TakenEntry.{TakenEntry}
use Rattle.collected_traces.specs.declared.taken_spot.TakenSpot.{TakenSpot}
use Rattle.collected_traces.specs.TraceParts.{cut_at, next_start}
use Rattle.collected_traces.specs.ProcessConditions.{meets}
use Rattle.collected_traces.specs.CollectedCandidates.{entry_shared, entries_shared, process_numbered, spot_of, taken_spotted, CandidatesValue, trace_spotted}
use Rattle.collected_traces.specs.CollectedCandidates.{traces_spotted, traces_picked, may_spot_meet, may_spots_meet, IsMatchFlag, IsMatchFlagOf, IsSpotWithin}
use Rattle.collected_traces.specs.CollectedCandidates.{AreNumberedByEntry, entry_process}
use Rattle.collected_traces.specs.EntriesAtPlaces.{spans_named}
use Rattle.collected_traces.specs.TakenTraces.{HasProcess, ShareByNumber}
use Rattle.collected_traces.proofs.Processes.{process_there}
use Rattle.collected_traces.proofs.ParentReferences.{matches-adopted}
use Rattle.collected_traces.proofs.EntriesAtPlaces.{first_none, any_here, any_later}
use Rattle.collected_traces.proofs.TakenSpans.{match_seen}

-- ---- one more entry
got_still : (es : List Entry) (x e : Entry) (n : ℕ) → n < length es → slice_get (es ++ x ∷ []) n ≡ slice_get es n
got_still [] x e n le = absurd (omega arith)
got_still (y ∷ es) x e zero le = refl
got_still (y ∷ es) x e (suc n) le = got_still es x e n (omega arith)

pub spotted_still : (es : List Entry) (x : Entry) (ss : List TakenSpot) → All (IsSpotWithin (length es)) ss
    → trace_spotted (es ++ x ∷ []) ss ≡ trace_spotted es ss
spotted_still es x [] all = refl
spotted_still es x (s ∷ ss) all =
    let own : s.number < length es = all 0 s (omega arith) in
    let same = got_still es x x s.number own in
    let rest = spotted_still es x ss (λ j d le. all (suc j) d (omega arith)) in
    λ i. record { span = option_and_then (λ (e : Entry). slice_get (placed_brought e.work) s.index) (same i); number = s.number } ∷ rest i

pub within_still : (n m : ℕ) (ss : List TakenSpot) → n ≤ m → All (IsSpotWithin n) ss → All (IsSpotWithin m) ss
within_still n m ss le all = λ j d below. let own : (get_or ss j d).number < n = all j d below in omega (arith, own, le)

-- ---- a trace of whose entries none has a span that meets the search
or_false : (a b : Bool) → (a || b) ≡ false → (a ≡ false) × (b ≡ false)
or_false true b e = absurd (false≢true (sym e))
or_false false b e = (refl, e)

none_at : (w : Placed → Bool) (ps : List Placed) (i : ℕ) → list_any w ps ≡ false → list_any w (cons_option (slice_get ps i) []) ≡ false
none_at w [] i e = refl
none_at w (p ∷ ps) zero e = let own = or_false (w p) (list_any w ps) e in ap (λ b. b || false) own.0
none_at w (p ∷ ps) (suc i) e = let own = or_false (w p) (list_any w ps) e in none_at w ps i own.1

spot_unmet : (q : Find) (es : List Entry) (met : List Bool) (number index : ℕ) → AllZip (IsMatchFlag q) es met → get_or met number false ≡ false
    → list_any (matches q) (cons_option (option_and_then (λ (e : Entry). slice_get (placed_brought e.work) index) (slice_get es number)) []) ≡ false
spot_unmet q [] met number index correct e = refl
spot_unmet q (x ∷ es) [] number index correct e = absurd correct
spot_unmet q (x ∷ es) (b ∷ met) zero index correct e = none_at (matches q) (placed_brought x.work) index (correct.0 e)
spot_unmet q (x ∷ es) (b ∷ met) (suc number) index correct e = spot_unmet q es met number index correct.1 e

-- the flags of the collected entries are those of the entries
pub flags_shared : (q : Find) (ts : List TakenEntry) (met : List Bool) → AllZip (IsMatchFlagOf q) ts met → AllZip (IsMatchFlag q) (entries_shared ts) met
flags_shared q [] [] correct = tt
flags_shared q [] (b ∷ met) correct = absurd correct
flags_shared q (x ∷ ts) [] correct = absurd correct
flags_shared q (x ∷ ts) (b ∷ met) correct = (correct.0, flags_shared q ts met correct.1)

any_cons : (w : Placed → Bool) (o : Option Placed) (ps : List Placed) → list_any w (cons_option o []) ≡ false → list_any w ps ≡ false
    → list_any w (cons_option o ps) ≡ false
any_cons w None ps a b = b
any_cons w (Some p) ps a b = let own = or_false (w p) false a in λ i. own.0 i || b i

pub trace_unmet : (q : Find) (es : List Entry) (met : List Bool) (ss : List TakenSpot) → AllZip (IsMatchFlag q) es met → may_spots_meet met ss ≡ false
    → list_any (matches q) (placed_taken (trace_spotted es ss)) ≡ false
trace_unmet q es met [] correct e = refl
trace_unmet q es met (s ∷ ss) correct e =
    let parts = or_false (may_spot_meet met s) (may_spots_meet met ss) e in
    any_cons (matches q) (span_at es (spot_of s)) (placed_taken (trace_spotted es ss)) (spot_unmet q es met s.number s.index correct parts.0)
    (trace_unmet q es met ss correct parts.1)

-- ---- a part of the spots
pub range_spotted : (es : List Entry) (ss : List TakenSpot) (a b : ℕ) → trace_spotted es (slice_range ss a b) ≡ slice_range (trace_spotted es ss) a b
range_spotted es ss a b = let f = taken_spotted es in sym (ap (take (b - a)) (drop-map f a ss) ∙ take-map f (b - a) (drop a ss))

pub part_spotted : (es : List Entry) (ss : List TakenSpot) (starts : List ℕ) (k : ℕ)
    → trace_spotted es (slice_index_or (cut_at ss starts) k []) ≡ slice_index_or (cut_at (trace_spotted es ss) starts) k []
part_spotted es ss [] k = refl
part_spotted es ss (s ∷ starts) zero =
    range_spotted es ss s (next_start (length ss) starts)
    ∙ ap (λ n. slice_range (trace_spotted es ss) s (next_start n starts)) (sym (length-map ss (taken_spotted es)))
part_spotted es ss (s ∷ starts) (suc k) = part_spotted es ss starts k

-- ---- no entry has a span that meets the search
unmet_at : (met : List Bool) (n : ℕ) → list_any (λ b. b) met ≡ false → get_or met n false ≡ false
unmet_at [] n e = refl
unmet_at (b ∷ met) zero e = (or_false b (list_any (λ x. x) met) e).0
unmet_at (b ∷ met) (suc n) e = unmet_at met n (or_false b (list_any (λ x. x) met) e).1

spots_unmet : (met : List Bool) (ss : List TakenSpot) → list_any (λ b. b) met ≡ false → may_spots_meet met ss ≡ false
spots_unmet met [] e = refl
spots_unmet met (s ∷ ss) e = λ i. unmet_at met s.number e i || spots_unmet met ss e i

module _ (q : Find) (es : List Entry) (met : List Bool) (ss : List TakenSpot) (correct : AllZip (IsMatchFlag q) es met)
    (none : list_any (λ b. b) met ≡ false) where
  abbrev spotted : List Taken
  spotted = trace_spotted es ss

  part_unmet : (a b : ℕ) → list_any (matches q) (placed_taken (slice_range spotted a b)) ≡ false
  part_unmet a b =
      let part = slice_range ss a b in
      ap (λ l. list_any (matches q) (placed_taken l)) (sym (range_spotted es ss a b)) ∙ trace_unmet q es met part correct (spots_unmet met part none)

  pub none_matching : (starts : List ℕ) → matching q (map placed_taken (cut_at spotted starts)) ≡ []
  none_matching [] = refl
  none_matching (s ∷ starts) =
      let rest = matching q (map placed_taken (cut_at spotted starts)) in
      let end = next_start (length spotted) starts in
      ap (λ b. cond b (placed_taken (slice_range spotted s end) ∷ rest) rest) (part_unmet s end) ∙ none_matching starts

zip_push : {A B : Type 0} (R : A → B → Type 0) (xs : List A) (ys : List B) (x : A) (y : B) → AllZip R xs ys → R x y → AllZip R (xs ++ x ∷ []) (ys ++ y ∷ [])
zip_push R [] [] x y all own = (own, tt)
zip_push R [] (b ∷ ys) x y all own = absurd all
zip_push R (a ∷ xs) [] x y all own = absurd all
zip_push R (a ∷ xs) (b ∷ ys) x y all own = (all.0, zip_push R xs ys x y all.1 own)

-- its flag is right for one more entry
pub flags_more : (q : Find) (ts : List TakenEntry) (i : ℕ) (t : TakenEntry) (met next : List Bool) (b : Bool) → i < length ts → t ≡ get_or ts i t
    → AllZip (IsMatchFlagOf q) (take i ts) met → IsMatchFlagOf q t b → next ≡ met ++ b ∷ []
    → AllZip (IsMatchFlagOf q) (take (i + 1) ts) next
flags_more q ts i t met next b le is before own put =
    let more : take (i + 1) ts ≡ take i ts ++ t ∷ [] = take_more ts i t le ∙ ap (λ y. take i ts ++ y ∷ []) (sym is) in
    let both = zip_push (IsMatchFlagOf q) (take i ts) met t b before own in
    subst (AllZip (IsMatchFlagOf q) (take (i + 1) ts)) (sym put) (subst (λ l. AllZip (IsMatchFlagOf q) l (met ++ b ∷ [])) (sym more) both)

-- ---- the remaining traces match as all do
pub matching_found : (q : Find) (a b : List (List Placed)) → matching q a ≡ matching q b → found_in q a ≡ found_in q b
matching_found q a b e = ap (λ ts. cut q.limit (ranked_by_start first_start ts)) e

-- ---- spans of a batch, one by one
meets_domain : (q : Find) (b : Batch) (ss : List Span) → list_any (meets q b.process) ss ≡ list_any (matches q) (map (placed b) ss)
meets_domain q b [] = refl
meets_domain q b (s ∷ ss) = let own = sym (matches-adopted q (record { process = b.process; span = s })) in λ i. own i || meets_domain q b ss i

module _ {X : Type 0} (w : X → Bool) (xs : List X) (i : ℕ) (x : X) (le : i < length xs) (is : x ≡ get_or xs i x) where
  any_more : list_any w (take (i + 1) xs) ≡ (list_any w (take i xs) || (w x || false))
  any_more =
      ap (list_any w) (take_more xs i x le) ∙ list_any-append w (take i xs) (get_or xs i x ∷ []) ∙ ap (λ y. list_any w (take i xs) || (w y || false)) (sym is)

  pub none_yet : list_any w (take i xs) ≡ false → w x ≡ false → list_any w (take (i + 1) xs) ≡ false
  none_yet before here = any_more ∙ (λ j. before j || (here j || false))

  pub one_now : w x ≡ true → list_any w xs ≡ true
  one_now here =
      let front : list_any w (take (i + 1) xs) ≡ true =
      any_more ∙ ap (λ b. list_any w (take i xs) || (b || false)) here ∙ or_right (list_any w (take i xs)) true refl in
      ap (list_any w) (sym (take-append-drop (i + 1) xs)) ∙ list_any-append w (take (i + 1) xs) (drop (i + 1) xs)
      ∙ ap (λ b. b || list_any w (drop (i + 1) xs)) front

pub batch_met : (q : Find) (b : Batch) → list_any (meets q b.process) b.spans ≡ list_any (matches q) (map (placed b) b.spans)
batch_met q b = meets_domain q b b.spans

-- ---- what is collected at a spot
-- the number of the entry leads to the process of the span
pub process_spotted : (es : List Entry) (s : TakenSpot) (p : Placed) → Some p ≡ span_at es (spot_of s) → Some p.process ≡ process_numbered es s.number
process_spotted es s p at = process_there es (spot_of s) p at

pub numbered_there : (es : List Entry) (s : TakenSpot) (taken : Option Taken) → option_and_then (λ (x : Taken). x.span) taken ≡ span_at es (spot_of s)
    → IfSome taken (λ (x : Taken). x.number ≡ s.number) → IfSome taken (HasProcess (process_numbered es))
numbered_there es s None at number = tt
numbered_there es s (Some x) at number = by x.span at
  where
    by : (o : Option Placed) → o ≡ span_at es (spot_of s) → IfSome o (λ (p : Placed). Some p.process ≡ process_numbered es x.number)
    by None e = tt
    by (Some p) e = process_spotted es s p e ∙ ap (process_numbered es) (sym number)

-- spans with the numbers of their entries share processes
pub share_by_entry : (es : List Entry) (traces : List (List Taken)) → AreNumberedByEntry es traces → ShareByNumber traces
share_by_entry es traces numbered = record { process_of = process_numbered es; each = numbered }

-- ---- the spots of a trace, one by one
pub spots_left : (ss : List TakenSpot) (i : ℕ) (d : TakenSpot) → i < length ss
    → map spot_of (drop i ss) ≡ spot_of (get_or ss i d) ∷ map spot_of (drop (i + 1) ss)
spots_left ss i d le =
    let one : i + 1 ≡ suc i = omega arith in
    ap (map spot_of) (drop-cons ss i d le) ∙ ap (λ n. spot_of (get_or ss i d) ∷ map spot_of (drop n ss)) (sym one)

pub no_spots_left : (ss : List TakenSpot) (i : ℕ) → length ss ≤ i → map spot_of (drop i ss) ≡ []
no_spots_left ss i le = ap (map spot_of) (drop_all i ss le)

pub spots_named : (es : List Entry) (ss : List TakenSpot) → spans_named es (map spot_of ss) ≡ placed_taken (trace_spotted es ss)
spots_named es [] = refl
spots_named es (s ∷ ss) = ap (cons_option (span_at es (spot_of s))) (spots_named es ss)

-- ---- a span that is judged at its spot
-- it doesn't meet the search if none of its entry does
pub entry_unmet : (q : Find) (es : List Entry) (flags : List Bool) (s : TakenSpot) → AllZip (IsMatchFlag q) es flags → may_spot_meet flags s ≡ false
    → list_any (matches q) (placed_taken (trace_spotted es (s ∷ []))) ≡ false
entry_unmet q es flags s correct none = spot_unmet q es flags s.number s.index correct none

pub nothing_met : (q : Find) (es : List Entry) (s : TakenSpot) → None ≡ span_at es (spot_of s)
    → list_any (matches q) (placed_taken (trace_spotted es (s ∷ []))) ≡ false
nothing_met q es s none = ap (λ o. list_any (matches q) (cons_option o [])) (sym none)

pub spot_met : (q : Find) (es : List Entry) (s : TakenSpot) (at : Seen) → Some (placed_by_its_entry at) ≡ span_at es (spot_of s)
    → matches q (seen at) ≡ list_any (matches q) (placed_taken (trace_spotted es (s ∷ [])))
spot_met q es s at there = match_seen q (taken_spotted es s) at there

-- the spots up to the end are left to be judged
pub first_left : (es : List Entry) (ss : List TakenSpot) (i : ℕ) (d : TakenSpot) → i < length ss → span_at es (spot_of (get_or ss i d)) ≡ None
    → slice_get (spans_named es (map spot_of (drop (i + 1) ss))) 0 ≡ slice_get (spans_named es (map spot_of (drop i ss))) 0
first_left es ss i d le none =
    first_none es (spot_of (get_or ss i d)) (map spot_of (drop (i + 1) ss)) none
    ∙ ap (λ l. slice_get (spans_named es l) 0) (sym (spots_left ss i d le))

pub first_now : (es : List Entry) (ss : List TakenSpot) (i : ℕ) (d : TakenSpot) (p : Placed) → i < length ss → Some p ≡ span_at es (spot_of (get_or ss i d))
    → Some p ≡ slice_get (spans_named es (map spot_of (drop i ss))) 0
first_now es ss i d p le there =
    ap (λ o. slice_get (cons_option o (spans_named es (map spot_of (drop (i + 1) ss)))) 0) there
    ∙ ap (λ l. slice_get (spans_named es l) 0) (sym (spots_left ss i d le))

pub any_left : (q : Find) (es : List Entry) (ss : List TakenSpot) (i : ℕ) (d : TakenSpot) → i < length ss
    → list_any (matches q) (placed_taken (trace_spotted es (get_or ss i d ∷ []))) ≡ false
    → list_any (matches q) (spans_named es (map spot_of (drop (i + 1) ss))) ≡ list_any (matches q) (spans_named es (map spot_of (drop i ss)))
any_left q es ss i d le none =
    any_later es (matches q) (spot_of (get_or ss i d)) (map spot_of (drop (i + 1) ss)) none
    ∙ ap (λ l. list_any (matches q) (spans_named es l)) (sym (spots_left ss i d le))

pub any_now : (q : Find) (es : List Entry) (ss : List TakenSpot) (i : ℕ) (d : TakenSpot) → i < length ss
    → list_any (matches q) (placed_taken (trace_spotted es (get_or ss i d ∷ []))) ≡ true
    → true ≡ list_any (matches q) (spans_named es (map spot_of (drop i ss)))
any_now q es ss i d le met =
    any_here es (matches q) (spot_of (get_or ss i d)) (map spot_of (drop (i + 1) ss)) met
    ∙ ap (λ l. list_any (matches q) (spans_named es l)) (sym (spots_left ss i d le))

-- the number of an entry leads to its process
pub numbered_process : (ts : List TakenEntry) (i : ℕ) (t : TakenEntry) → i < length ts → t ≡ get_or ts i t
    → entry_process (entry_shared t) ≡ process_numbered (entries_shared ts) i
numbered_process [] i t le is = absurd (omega arith)
numbered_process (x ∷ ts) zero t le is = ap (λ y. entry_process (entry_shared y)) is
numbered_process (x ∷ ts) (suc i) t le is = numbered_process ts i t (omega arith) is

-- ---- the traces, one by one
module _ (q : Find) (done xs : List (List Placed)) (k : ℕ) (t : List Placed) (le : k < length xs) (before : matching q done ≡ matching q (take k xs))
    (is : t ≡ slice_index_or xs k []) where
  next_trace : matching q (take (k + 1) xs) ≡ matching q (take k xs) ++ matching q (t ∷ [])
  next_trace =
      ap (matching q) (take_more xs k [] le) ∙ filter-append (list_any (matches q)) (take k xs) (slice_index_or xs k [] ∷ [])
      ∙ ap (λ y. matching q (take k xs) ++ matching q (y ∷ [])) (sym is)

  pub trace_kept : matching q (done ++ t ∷ []) ≡ matching q (take (k + 1) xs)
  trace_kept = filter-append (list_any (matches q)) done (t ∷ []) ∙ ap (λ l. l ++ matching q (t ∷ [])) before ∙ sym next_trace

  pub trace_passed : list_any (matches q) t ≡ false → matching q done ≡ matching q (take (k + 1) xs)
  trace_passed none =
      before ∙ sym (append-nil (matching q (take k xs))) ∙ ap (λ b. matching q (take k xs) ++ (cond b (t ∷ []) [])) (sym none) ∙ sym next_trace

-- ---- the traces that are picked
-- an index among them, as a look-up borrows it
pub index_picked : (picked : List ℕ) (i : ℕ) (r : Option (Bor ℕ)) → IsItemAt picked i r → option_copied r ≡ slice_get picked i
index_picked picked i None h = sym (slice_get_past picked i h.3)
index_picked picked i (Some x) h = ap Some (h.3.1 x.now) ∙ sym (slice_get-get_or picked i x.now h.3.0)

pub picked_there : (v : CandidatesValue) (picked : List ℕ) (index k : ℕ) → Some k ≡ slice_get picked index
    → trace_at (traces_spotted v) k ≡ trace_at (traces_picked v picked) index
picked_there v [] index k is = absurd (cc is)
picked_there v (x ∷ picked) zero k is = let same : k ≡ x = cc is in ap (trace_at (traces_spotted v)) same
picked_there v (x ∷ picked) (suc index) k is = picked_there v picked index k is

pub none_picked : (v : CandidatesValue) (picked : List ℕ) (index : ℕ) → None ≡ slice_get picked index
    → [] ≡ trace_at (traces_picked v picked) index
none_picked v [] index is = refl
none_picked v (x ∷ picked) zero is = absurd (cc is)
none_picked v (x ∷ picked) (suc index) is = none_picked v picked index is
