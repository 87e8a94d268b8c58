-- The places of the ids of a ring.
use Rattle.std.proofs.Common.{◌≡◌, ℕ, suc, ◌+◌, ◌-◌, ◌%◌, ◌^◌, ◌<◌, ◌≤◌, true, false, ◌||◌, List, [], ◌∷◌, ◌++◌, length, get_or, Some, None, sym, ap, subst}
use Rattle.std.proofs.Common.{◌∙◌, inl, inr, arith, eqb, eqb-true, length-append}
use Rattle.std.specs.Prelude.{is_some, position}
use Rattle.std.specs.List.{list_any}
use Rattle.std.proofs.Math.ListN.{set}
use Rattle.std.proofs.lemmas.Bool.{false≢true, cases_eq, cases_Bool, ne_eqb}
use Rattle.std.proofs.lemmas.List.{length-set, get_or-set_same, get_or-set_other, get_or_append_left, get_or_push, get_or-map, get_or_read, length-map}
use Rattle.std.proofs.lemmas.List.{get_or_default}
use Rattle.std.proofs.lemmas.List.Elements.{All-from_get_or}
use Rattle.std.proofs.lemmas.List.Folds.{list_any_at}
use Rattle.std.proofs.lemmas.List.Quantifiers.{position-Some}
use Rattle.std.proofs.lemmas.Map.Keys.{IsDistinct-from_apart}
use Rattle.std.proofs.lemmas.Map.Steps.{length-le_from_distinct_below}
use Rattle.jaeger_model.specs.declared.ids.TraceId.{TraceId}
use Rattle.hash_tables.specs.IdRows.{Rows, no_id, id_at}
use Rattle.jaeger_model.specs.Parents.{same_trace}
use Rattle.hash_tables.specs.RowPlaces.{AreOnce}
use Rattle.hash_tables.proofs.DistinctRows.{one_row, once_more}
use Rattle.hash_tables.proofs.IdProbes.{same_is, position_none, position_some, absent_nowhere}
use Rattle.trace_model.specs.Rings.{holds}
use Rattle.trace_model.proofs.Admissions.{none_passes}
use Rattle.trace_model.proofs.Lists.{map_agree, place_is_any}
use Rattle.trace_ring.specs.RingValues.{NoneTwice}
use Rattle.trace_ring.specs.RingNumbers.{window, IsRing}

pub length_window : (ids : List TraceId) (rows : List ℕ) → length (window ids rows) ≡ length rows
length_window ids rows = length-map rows (λ row. id_at ids row)

pub window_at : (ids : List TraceId) (rows : List ℕ) (p : ℕ) → p < length rows → id_at (window ids rows) p ≡ id_at ids (get_or rows p 0)
window_at ids rows p below = get_or-map (λ row. id_at ids row) rows p 0 no_id below

-- an id is held if it has a place
pub holds_some : (id : TraceId) (ids : List TraceId) (r : ℕ) → position (same_trace id) ids ≡ Some r → holds ids id ≡ true
holds_some id ids r e = let p = position-Some (same_trace id) ids r no_id e in list_any_at (same_trace id) ids r no_id p.0 p.1

pub row_is : (id : TraceId) (ids : List TraceId) (r : ℕ) → position (same_trace id) ids ≡ Some r → id_at ids r ≡ id
row_is id ids r e = let p = position-Some (same_trace id) ids r no_id e in sym (same_is id (id_at ids r) p.1)

pub row_within : (id : TraceId) (ids : List TraceId) (r : ℕ) → position (same_trace id) ids ≡ Some r → r < length ids
row_within id ids r e = (position-Some (same_trace id) ids r no_id e).0

-- a trace of the table is seen first in its row
pub first_seen : (room : ℕ) (table : Rows) (rows : List ℕ) (first : ℕ) (numbers : List ℕ) (id : TraceId) (row : ℕ) → IsRing room table rows first numbers
    → row < length table.ids → id_at table.ids row ≡ id
    → position (same_trace id) table.ids ≡ Some row
first_seen room table rows first numbers id row h known is = sym (position_some id table.ids row known is h.once)

-- numbers
same_number : (first p q : ℕ) → p < 2 ^ 64 → q < 2 ^ 64 → (first + p) % 2 ^ 64 ≡ (first + q) % 2 ^ 64 → p ≡ q
same_number first p q a b e = omega arith

place_back : (first p : ℕ) → first < 2 ^ 64 → p < 2 ^ 64 → ((first + p) % 2 ^ 64 + (2 ^ 64 - first)) % 2 ^ 64 ≡ p
place_back first p f k = omega arith

rows_once : (room : ℕ) (table : Rows) (rows : List ℕ) (first : ℕ) (numbers : List ℕ) → IsRing room table rows first numbers → AreOnce 0 rows
rows_once room table rows first numbers h i j below within e =
    let short = h.short in
    let fits = h.fits in
    let n : (first + i) % 2 ^ 64 ≡ (first + j) % 2 ^ 64 = sym (h.numbered i (omega arith)) ∙ ap (λ r. get_or numbers r 0) e ∙ h.numbered j within in
    let same = same_number first i j (omega arith) (omega arith) n in
    omega arith

-- the place that the number of a row implies
abbrev pub place_by : ℕ → ℕ → ℕ
place_by first number = (number + (2 ^ 64 - first)) % 2 ^ 64

place_is : (room : ℕ) (table : Rows) (rows : List ℕ) (first : ℕ) (numbers : List ℕ) (row number p : ℕ) → IsRing room table rows first numbers
    → row < length table.ids → number ≡ get_or numbers row number
    → p < length rows → get_or rows p 0 ≡ row → place_by first number ≡ p
place_is room table rows first numbers row number p h known read within is =
    let short = h.short in
    let fits = h.fits in
    let many = h.as_many in
    ap (place_by first) (get_or_read numbers row number (omega arith) read 0 ∙ ap (λ r. get_or numbers r 0) (sym is) ∙ h.numbered p within)
    ∙ place_back first p h.start (omega arith)

pub place_none : (room : ℕ) (table : Rows) (rows : List ℕ) (first : ℕ) (numbers : List ℕ) (row number : ℕ) → IsRing room table rows first numbers
    → row < length table.ids → number ≡ get_or numbers row number
    → (place_by first number < length rows → get_or rows (place_by first number) 0 ≡ row → ⊥)
    → None ≡ position (same_trace (id_at table.ids row)) (window table.ids rows)
place_none room table rows first numbers row number h known read elsewhere =
    position_none (id_at table.ids row) (window table.ids rows) (λ p pn same.
    let q : p < length rows = subst (λ (n : ℕ). p < n) (length_window table.ids rows) pn in
    let is = one_row no_id table.ids (get_or rows p 0) row h.once (h.below p q) known (sym (window_at table.ids rows p q) ∙ same) in
    let place = place_is room table rows first numbers row number p h known read q is in
    elsewhere (subst (λ (n : ℕ). n < length rows) (sym place) q) (ap (λ n. get_or rows n 0) place ∙ is))

-- each trace of the window is there once
window_apart : (room : ℕ) (table : Rows) (rows : List ℕ) (first : ℕ) (numbers : List ℕ) → IsRing room table rows first numbers
    → AreOnce no_id (window table.ids rows)
window_apart room table rows first numbers h i j below jn same =
    let b : j < length rows = subst (λ (n : ℕ). j < n) (length_window table.ids rows) jn in
    let a : i < length rows = omega arith in
    rows_once room table rows first numbers h i j below b
    (one_row no_id table.ids (get_or rows i 0) (get_or rows j 0) h.once (h.below i a) (h.below j b)
    (sym (window_at table.ids rows i a) ∙ same ∙ window_at table.ids rows j b))

pub place_some : (room : ℕ) (table : Rows) (rows : List ℕ) (first : ℕ) (numbers : List ℕ) (row p : ℕ) → IsRing room table rows first numbers → p < length rows
    → get_or rows p 0 ≡ row
    → Some p ≡ position (same_trace (id_at table.ids row)) (window table.ids rows)
place_some room table rows first numbers row p h within is =
    let l = length_window table.ids rows in
    position_some (id_at table.ids row) (window table.ids rows) p (subst (λ (n : ℕ). p < n) (sym l) within)
    (window_at table.ids rows p within ∙ ap (id_at table.ids) is) (window_apart room table rows first numbers h)

-- one more id is seen
pub window_more : (room : ℕ) (table : Rows) (rows : List ℕ) (first : ℕ) (numbers : List ℕ) (id : TraceId) → IsRing room table rows first numbers
    → window (table.ids ++ id ∷ []) rows ≡ window table.ids rows
window_more room table rows first numbers id h =
    map_agree (id_at (table.ids ++ id ∷ [])) (id_at table.ids) rows
    (All-from_get_or (λ r. id_at (table.ids ++ id ∷ []) r ≡ id_at table.ids r) rows 0
    (λ p q. get_or_append_left table.ids (id ∷ []) no_id (get_or rows p 0) (h.below p q)))

pub ring_learned : (room : ℕ) (table more : Rows) (rows : List ℕ) (first : ℕ) (numbers : List ℕ) (id : TraceId) → IsRing room table rows first numbers
    → more.ids ≡ table.ids ++ id ∷ [] → more.room ≡ table.room
    → position (same_trace id) table.ids ≡ None → length table.ids < room → IsRing room more rows first (numbers ++ 0 ∷ [])
ring_learned room table more rows first numbers id h e f absent within =
    let l : length more.ids ≡ length table.ids + 1 = ap length e ∙ length-append table.ids (id ∷ []) in
    record {
      fits = h.fits;
      start = h.start;
      same_room = f ∙ h.same_room;
      within = omega arith;
      as_many = let many = h.as_many in let one = length-append numbers (0 ∷ []) in omega arith;
      short = h.short;
      once = subst (AreOnce no_id) (sym e) (once_more no_id table.ids id h.once (absent_nowhere id table.ids absent));
      below = λ p pn. let b = h.below p pn in omega arith;
      numbered =
          λ p pn. let b = h.below p pn in let many = h.as_many in get_or_append_left numbers (0 ∷ []) 0 (get_or rows p 0) (omega arith) ∙ h.numbered p pn;
    }

-- the row of an id is opened
pub ring_opened : (room : ℕ) (table : Rows) (rows : List ℕ) (first : ℕ) (numbers : List ℕ) (row : ℕ) → IsRing room table rows first numbers
    → row < length table.ids
    → position (same_trace (id_at table.ids row)) (window table.ids rows) ≡ None
    → IsRing room table (rows ++ row ∷ []) first (set numbers row ((first + length rows) % 2 ^ 64))
ring_opened room table rows first numbers row h known absent =
    let l : length (rows ++ row ∷ []) ≡ length rows + 1 = length-append rows (row ∷ []) in
    let s = length-set numbers row ((first + length rows) % 2 ^ 64) in
    let as_many = h.as_many in
    let within = h.within in
    let old : (p : ℕ) → p < length rows → get_or (rows ++ row ∷ []) p 0 ≡ get_or rows p 0 = λ p pn. get_or_append_left rows (row ∷ []) 0 p pn in
    let own : (p : ℕ) → p ≡ length rows → get_or (rows ++ row ∷ []) p 0 ≡ row = λ p e. get_or_push rows row 0 p (sym e) in
    let fresh : (p : ℕ) → p < length rows → get_or rows p 0 ≡ row → ⊥ = λ p pn e. let clash : Some p ≡ None =
    place_some room table rows first numbers row p h pn e ∙ absent in cc in
    let below : (p : ℕ) → p < length (rows ++ row ∷ []) → get_or (rows ++ row ∷ []) p 0 < length table.ids = λ p pn. elim (cases_eq p (length rows)) [
      | inl e ↦ subst (λ (r : ℕ). r < length table.ids) (sym (own p e)) known
      | inr apart ↦ subst (λ (r : ℕ). r < length table.ids) (sym (old p (omega arith))) (h.below p (omega arith))
    ] in
    let few_rows = at_most (rows ++ row ∷ []) (length table.ids) (once_more 0 rows row (rows_once room table rows first numbers h) fresh) below in
    record {
      fits = h.fits;
      start = h.start;
      same_room = h.same_room;
      within = h.within;
      as_many = omega arith;
      short = omega arith;
      once = h.once;
      below = below;
      numbered = λ p pn. elim (cases_eq p (length rows)) [
        | inl e ↦ ap (λ r. get_or (set numbers row ((first + length rows) % 2 ^ 64)) r 0) (own p e)
            ∙ get_or-set_same numbers row ((first + length rows) % 2 ^ 64) 0 (omega arith) ∙ ap (λ n. (first + n) % 2 ^ 64) (sym e)
        | inr before ↦ ap (λ r. get_or (set numbers row ((first + length rows) % 2 ^ 64)) r 0) (old p (omega arith))
            ∙ get_or-set_other numbers row (get_or rows p 0) ((first + length rows) % 2 ^ 64) 0 (fresh p (omega arith)) ∙ h.numbered p (omega arith)
      ];
    }
  where
    member_at : (q : ℕ) (xs : List ℕ) → list_any (eqb q) xs ≡ true → (p : ℕ) × (p < length xs) × (get_or xs p 0 ≡ q)
    member_at q [] e = absurd (false≢true e)
    member_at q (x ∷ xs) e = elim (cases_Bool (eqb q x)) [
      | inl here ↦ (0, omega arith, sym (eqb-true q x here))
      | inr there ↦ let rest = member_at q xs (sym (ap (λ b. b || list_any (eqb q) xs) there) ∙ e) in (suc (rest.0), omega (arith, rest.1), rest.2)
    ]

    at_most : (xs : List ℕ) (n : ℕ) → AreOnce 0 xs → ((p : ℕ) → p < length xs → get_or xs p 0 < n) → length xs ≤ n
    at_most xs n apart below =
        length-le_from_distinct_below xs n
        (IsDistinct-from_apart eqb xs (λ i j d ij jn. ne_eqb (get_or xs i d) (get_or xs j d)
        (λ e. apart i j ij jn (get_or_default xs i 0 d (omega arith) ∙ e ∙ get_or_default xs j d 0 jn))))
        (λ q e. let m = member_at q xs e in subst (λ (r : ℕ). r < n) m.2 (below m.0 m.1))

-- there is room for one more
pub ring_room : (room : ℕ) (table : Rows) (rows : List ℕ) (first : ℕ) (numbers : List ℕ) (row : ℕ) → IsRing room table rows first numbers
    → row < length table.ids
    → position (same_trace (id_at table.ids row)) (window table.ids rows) ≡ None → length rows < room
ring_room room table rows first numbers row h known absent =
    let s = (ring_opened room table rows first numbers row h known absent).short in
    let l : length (rows ++ row ∷ []) ≡ length rows + 1 = length-append rows (row ∷ []) in
    omega arith

-- the test by the place
pub held_is : (id : TraceId) (ids : List TraceId) → is_some (position (same_trace id) ids) ≡ holds ids id
held_is id ids = place_is_any (same_trace id) ids

-- an id that was never seen is not in the ring
pub none_unseen : (room : ℕ) (table : Rows) (rows : List ℕ) (first : ℕ) (numbers : List ℕ) (id : TraceId) → IsRing room table rows first numbers
    → position (same_trace id) table.ids ≡ None
    → None ≡ position (same_trace id) (window table.ids rows)
none_unseen room table rows first numbers id h absent =
    position_none id (window table.ids rows) (λ p pn same.
    let q : p < length rows = subst (λ (n : ℕ). p < n) (length_window table.ids rows) pn in
    absent_nowhere id table.ids absent (get_or rows p 0) (h.below p q) (sym (window_at table.ids rows p q) ∙ same))

-- no id is there twice
none_twice : (xs : List TraceId) → AreOnce no_id xs → NoneTwice xs
none_twice [] once = tt
none_twice (x ∷ xs) once = (
  none_passes (same_trace x) xs (sym (position_none x xs (λ r below e. once 0 (suc r) (omega arith) (omega arith) (sym e)))),
  none_twice xs (λ i j ij jn e. once (suc i) (suc j) (omega arith) (omega arith) e),
)

pub window_once : (room : ℕ) (table : Rows) (rows : List ℕ) (first : ℕ) (numbers : List ℕ) → IsRing room table rows first numbers
    → NoneTwice (window table.ids rows)
window_once room table rows first numbers h = none_twice (window table.ids rows) (window_apart room table rows first numbers h)
