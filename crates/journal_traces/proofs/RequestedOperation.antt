-- The requested operation, identified by the rows of operations.
use Rattle.std.proofs.Common.{◌≡◌, ℕ, zero, suc, ◌+◌, ◌-◌, ◌<◌, true, false, ◌||◌, List, [], ◌∷◌, ◌++◌, map, length, get_or, take}
use Rattle.std.proofs.Common.{refl, sym, ap, subst, ◌∙◌, arith, length-append}
use Rattle.std.specs.Prelude.{Option, Some, None, option_map, slice_get}
use Rattle.std.specs.Option.{option_and_then}
use Rattle.std.proofs.lemmas.List.{get_or-map}
use Rattle.std.proofs.lemmas.List.Concat.{flat_map-cons}
use Rattle.std.proofs.lemmas.Option.{slice_get_within, slice_get-get_or, get_or_from_slice_get}
use Rattle.jaeger_model.specs.declared.batch.Batch.{Batch}
use Rattle.jaeger_model.specs.declared.placed.Placed.{Placed}
use Rattle.jaeger_model.specs.Parents.{needs_no_reference}
use Rattle.jaeger_model.specs.Texts.{same_text}
use Rattle.trace_model.specs.declared.entry.Entry.{Entry}
use Rattle.trace_model.specs.declared.query.Find.{Find}
use Rattle.trace_model.specs.EntryWork.{placed_brought}
use Rattle.trace_model.specs.Histories.{arrivals}
use Rattle.span_steps.specs.SpanConditions.{has_operation}
use Rattle.trace_assembly.specs.LocatedSpans.{span_at}
use Rattle.service_index.specs.ArrivalNumbers.{AreOf}
use Rattle.service_index.specs.Labels.{service_alone}
use Rattle.service_index.specs.ListedNames.{Listed, listed}
use Rattle.service_index.specs.declared.operation_rows.OperationRows.{OperationRows}
use Rattle.service_index.specs.OperationRows.{rows_in}
use Rattle.service_index.specs.KeptNames.{TellOperation, reported_at}
use Rattle.collected_traces.specs.AdoptedSpans.{adopted}
use Rattle.journal_traces.specs.Told.{AreOperationsTold, row_at, is_requested_row}
use Rattle.collected_traces.specs.EntriesAtPlaces.{batch_at}
use Rattle.journal_traces.specs.SpansAtSpots.{placed_in}
use Rattle.collected_traces.proofs.ParentReferences.{placed_if}
use Rattle.collected_traces.proofs.EntriesAtPlaces.{span_there}

-- ---- the arrival of a span
got_left : {X : Type 0} (xs ys : List X) (i : ℕ) (x : X) → Some x ≡ slice_get xs i → Some x ≡ slice_get (xs ++ ys) i
got_left [] ys i x e = absurd (cc e)
got_left (y ∷ xs) ys zero x e = e
got_left (y ∷ xs) ys (suc i) x e = got_left xs ys i x e

got_right : {X : Type 0} (xs ys : List X) (n i : ℕ) → n ≡ length xs + i → slice_get (xs ++ ys) n ≡ slice_get ys i
got_right [] ys n i e = let at : n ≡ i = omega arith in ap (slice_get ys) at
got_right (y ∷ xs) ys zero i e = absurd (omega arith)
got_right (y ∷ xs) ys (suc n) i e = got_right xs ys n i (omega arith)

-- the span at an index of the entry with k entries before it
arrived : (h : List Entry) (k i n : ℕ) (e : Entry) (p : Placed) → n ≡ length (arrivals (take k h)) + i → Some e ≡ slice_get h k
    → Some p ≡ slice_get (placed_brought e.work) i
    → Some p ≡ slice_get (arrivals h) n
arrived [] k i n e p at is own = absurd (cc is)
arrived (x ∷ h) zero i n e p at is own =
    let same : e ≡ x = cc is in
    let none : length (arrivals (take 0 (x ∷ h))) ≡ 0 = refl in
    let here : n ≡ i = omega (arith, at, none) in
    got_left (placed_brought x.work) (arrivals h) i p (own ∙ ap (λ (y : Entry). slice_get (placed_brought y.work) i) same)
    ∙ ap (slice_get (placed_brought x.work ++ arrivals h)) (sym here)
    ∙ sym (ap (λ (ps : List Placed). slice_get ps n) (flat_map-cons (λ (y : Entry). placed_brought y.work) x h))
arrived (x ∷ h) (suc k) i n e p at is own =
    let m = length (arrivals (take k h)) + i in
    let both = length-append (placed_brought x.work) (arrivals (take k h)) in
    let before : length (arrivals (x ∷ take k h)) ≡ length (placed_brought x.work ++ arrivals (take k h)) =
    ap (λ (ps : List Placed). length ps) (flat_map-cons (λ (y : Entry). placed_brought y.work) x (take k h)) in
    let there : n ≡ length (arrivals (x ∷ take k h)) + i = at in
    arrived h k i m e p refl is own ∙ sym (got_right (placed_brought x.work) (arrivals h) n m (omega (arith, there, before, both)))
    ∙ sym (ap (λ (ps : List Placed). slice_get ps n) (flat_map-cons (λ (y : Entry). placed_brought y.work) x h))

-- its number, and what it reports
abbrev Reports : List Entry → List ℕ → ℕ → ℕ → Placed → Type 0
Reports h firsts place n p = (place - 1 < length firsts) × (n < length (arrivals h)) × (reported_at h n ≡ listed p)

reports : (h : List Entry) (entry_of firsts : List ℕ) (place index : ℕ) (p : Placed) → AreOf h entry_of firsts
    → Some p ≡ span_at h (record { place = place; index = index }) → Reports h firsts place (get_or firsts (place - 1) 0 + index) p
reports h entry_of firsts zero index p are is = absurd (cc is)
reports h entry_of firsts (suc k) index p are is = there (slice_get h k) refl is
  where
    there : (o : Option Entry) → slice_get h k ≡ o → Some p ≡ option_and_then (λ (e : Entry). slice_get (placed_brought e.work) index) o
        → Reports h firsts (suc k) (get_or firsts (suc k - 1) 0 + index) p
    there None e own = absurd (cc own)
    there (Some x) e own =
        let within : k < length h = slice_get_within h k x e in
        let m : suc k - 1 ≡ k = omega arith in
        let n = get_or firsts (suc k - 1) 0 + index in
        let first : get_or firsts (suc k - 1) 0 ≡ length (arrivals (take k h)) = ap (λ (j : ℕ). get_or firsts j 0) m ∙ are.first k within in
        let got : slice_get (arrivals h) n ≡ Some p =
        sym (arrived h k index n x p (ap (λ (j : ℕ). j + index) first) (sym e) own) in
        let below : n < length (arrivals h) = slice_get_within (arrivals h) n p got in
        let as_many : length firsts ≡ length h = are.starts in
        let has_first : suc k - 1 < length firsts = omega (arith, m, within, as_many) in
        (has_first, below, get_or-map listed (arrivals h) n p (service_alone []) below ∙ ap listed (get_or_from_slice_get (arrivals h) n p p got))

-- ---- the rows of a search
row_there : (firsts rows : List ℕ) (place index : ℕ) → place - 1 < length firsts → get_or firsts (place - 1) 0 + index < length rows
    → row_at firsts rows place index ≡ Some (get_or rows (get_or firsts (place - 1) 0 + index) 0)
row_there firsts rows place index first row =
    ap (option_and_then (λ (n : ℕ). slice_get rows (n + index))) (slice_get-get_or firsts (place - 1) 0 first)
    ∙ slice_get-get_or rows (get_or firsts (place - 1) 0 + index) 0 row

pub any_operation : (q : Find) (h : List Entry) (firsts rows : List ℕ) → same_text q.operation [] ≡ true → AreOperationsTold q h firsts rows None
any_operation q h firsts rows e = record { tells = λ s p is own. sym (ap (λ b. b || same_text q.operation p.span.operation) e) }

pub one_operation : (q : Find) (h : List Entry) (entry_of firsts rows : List ℕ) (requested : OperationRows) → AreOf h entry_of firsts
    → length rows ≡ length (arrivals h)
    → TellOperation h rows q.service q.operation (rows_in requested) → same_text q.operation [] ≡ false → AreOperationsTold q h firsts rows (Some requested)
one_operation q h entry_of firsts rows requested are all_rows tell e = record {
  tells = λ s p is own.
      let n = get_or firsts (s.place - 1) 0 + s.index in
      let there = reports h entry_of firsts s.place s.index p are is in
      let below : n < length rows = subst (λ (m : ℕ). n < m) (sym all_rows) there.1 in
      ap (is_requested_row (Some requested)) (row_there firsts rows s.place s.index there.0 below)
      ∙ tell.tells n there.1 (ap (λ (l : Listed). same_text q.service l.service) there.2 ∙ own)
      ∙ ap (λ (l : Listed). same_text q.operation l.operation.name) there.2
      ∙ sym (ap (λ b. b || same_text q.operation p.span.operation) e);
}

-- ---- the spans of a batch
got_mapped : {X Y : Type 0} (f : X → Y) (xs : List X) (i : ℕ) → option_map f (slice_get xs i) ≡ slice_get (map f xs) i
got_mapped f [] i = refl
got_mapped f (x ∷ xs) zero = refl
got_mapped f (x ∷ xs) (suc i) = got_mapped f xs i

pub batch_spans : (h : List Entry) (place index : ℕ) (b : Batch) → Some b ≡ batch_at h place
    → option_map (placed_in b.process) (slice_get b.spans index) ≡ span_at h (record { place = place; index = index })
batch_spans h place index b is = got_mapped (placed_in b.process) b.spans index ∙ span_there h (record { place = place; index = index }) b is

-- a span has the operation whether or not its parent is among its references
pub operation-adopted : (q : Find) (p : Placed) → has_operation q (adopted p) ≡ has_operation q p
operation-adopted q p = elim (needs_no_reference p.span) as (λ b. has_operation q (placed_if b p) ≡ has_operation q p) [ true ↦ refl | false ↦ refl ]
