-- The places of rows marked one by one.
use Rattle.std.proofs.Common.{◌≡◌, ℕ, ◌+◌, ◌-◌, ◌*◌, ◌<◌, ◌≤◌, cond, List, [], ◌∷◌, ◌++◌, length, get_or, refl, sym, ap, subst, ◌∙◌, inl, inr, arith}
use Rattle.std.proofs.Common.{length-append}
use Rattle.std.proofs.Math.ListN.{set}
use Rattle.std.proofs.lemmas.Bool.{lt-ltb, cases_eq, cases_lt}
use Rattle.std.specs.Prelude.{count_by, replicate, take}
use Rattle.std.proofs.lemmas.List.{length-set, length-replicate, get_or-set_same, get_or-set_other, get_or_append_left, get_or-append_right, get_or-replicate}
use Rattle.std.proofs.lemmas.List.{get_or_push, get_or_past, append-nil}
use Rattle.std.proofs.lemmas.List.Folds.{sum_by-replicate}
use Rattle.std.proofs.lemmas.List.Sums.{sum_by-set, sum_by-append}
use Rattle.hash_tables.specs.RowPlaces.{start_of, steps, is_taken, AreTaken, Reaches, LeadsIn, IsPrepared}
use Rattle.hash_tables.proofs.PlaceWalks.{one_if}

known_set : (slots : List ℕ) (k m n : ℕ) → ((j : ℕ) → get_or slots j 0 ≤ m) → m ≤ n → (j : ℕ) → get_or (set slots k n) j 0 ≤ n
known_set slots k m n h mn j = elim (cases_eq j k) [
  | inl e ↦ elim (cases_lt k (length slots)) [
    | inl within ↦ let same = get_or-set_same slots k n 0 within in subst (λ (x : ℕ). get_or (set slots k n) x 0 ≤ n) (sym e) (omega arith)
    | inr past ↦ let l = length-set slots k n in let none = get_or_past (set slots k n) j 0 (omega arith) in omega arith
  ]
  | inr other_one ↦ let other = get_or-set_other slots k j n 0 other_one in let below = h j in omega arith
]

-- the places that were taken still are, with one more marked
taken_set : (slots : List ℕ) (s k n d : ℕ) → k < length slots → 0 < n → AreTaken slots s d → AreTaken (set slots k n) s d
taken_set slots s k n d kn pos taken =
    let l = length-set slots k n in
    let all : (j : ℕ) → j < length slots → steps (length slots) s j < d → 0 < get_or (set slots k n) j 0 = λ j jn below. elim (cases_eq j k) [
      | inl e ↦ let same = get_or-set_same slots k n 0 kn in subst (λ (x : ℕ). 0 < get_or (set slots k n) x 0) (sym e) (omega arith)
      | inr other_one ↦ let other = get_or-set_other slots k j n 0 other_one in let t = taken j jn below in omega arith
    ] in
    subst (λ (m : ℕ). (j : ℕ) → j < m → steps m s j < d → 0 < get_or (set slots k n) j 0) (sym l) all

reaches_at : (slots : List ℕ) (s k j n mark : ℕ) → k < length slots → 0 < n → j < length slots → get_or (set slots k n) j 0 ≡ mark
    → AreTaken slots s (steps (length slots) s j) → Reaches (set slots k n) s mark
reaches_at slots s k j n mark kn pos jn is taken =
    let l = length-set slots k n in
    (j, omega arith, is, subst (λ (m : ℕ). AreTaken (set slots k n) s (steps m s j)) (sym l) (taken_set slots s k n (steps (length slots) s j) kn pos taken))

reaches_set : (slots : List ℕ) (s k mark n : ℕ) → k < length slots → get_or slots k 0 ≡ 0 → 0 < n → 0 < mark → Reaches slots s mark
    → Reaches (set slots k n) s mark
reaches_set slots s k mark n kn free pos markpos p =
    let apart : p.0 ≡ k → ⊥ = λ e. let clash : 0 ≡ mark = sym free ∙ ap (λ x. get_or slots x 0) (sym e) ∙ p.2 in omega arith in
    reaches_at slots s k p.0 n mark kn pos p.1 (get_or-set_other slots k p.0 n 0 apart ∙ p.2) p.3

pub leads_more : (hashes slots : List ℕ) (hash k : ℕ) → LeadsIn hashes slots → 2 * length hashes + 2 < length slots → k < length slots → get_or slots k 0 ≡ 0
    → AreTaken slots (start_of hash (length slots)) (steps (length slots) (start_of hash (length slots)) k)
    → LeadsIn (hashes ++ hash ∷ []) (set slots k (length hashes + 1))
leads_more hashes slots hash k h more kn free taken =
    let n = length hashes + 1 in
    let l = length-set slots k n in
    let m : length (hashes ++ hash ∷ []) ≡ n = length-append hashes (hash ∷ []) in
    let own : get_or (hashes ++ hash ∷ []) (length hashes) 0 ≡ hash = get_or_push hashes hash 0 (length hashes) refl in
    let new = set slots k n in
    record {
      half = omega arith;
      taken =
          let t = h.taken in
          let e = sum_by-set one_if slots k n 0 kn in
          let before : one_if (get_or slots k 0) ≡ 0 = ap one_if free in
          let after : one_if n ≡ 1 = ap (λ b. cond b 1 0) (lt-ltb 0 n (omega arith)) in
          omega (arith, e, t);
      known = subst (λ (x : ℕ). (j : ℕ) → get_or new j 0 ≤ x) (sym m) (known_set slots k (length hashes) n h.known (omega arith));
      found =
          λ r within. subst (λ (places : ℕ). Reaches new (start_of (get_or (hashes ++ hash ∷ []) r 0) places) (r + 1)) (sym l)
          (elim (cases_eq r (length hashes)) [
            | inl e ↦ let P : ℕ → Type 0 = λ x. Reaches new (start_of (get_or (hashes ++ hash ∷ []) x 0) (length slots)) (x + 1) in
                subst P (sym e) (subst (λ (x : ℕ). Reaches new (start_of x (length slots)) n) (sym own)
                (reaches_at slots (start_of hash (length slots)) k k n n kn (omega arith) kn (get_or-set_same slots k n 0 kn) taken))
            | inr other_one ↦ subst (λ (x : ℕ). Reaches new (start_of x (length slots)) (r + 1)) (sym (get_or_append_left hashes (hash ∷ []) 0 r (omega arith)))
                (reaches_set slots (start_of (get_or hashes r 0) (length slots)) k (r + 1) n kn free (omega arith) (omega arith) (h.found r (omega arith)))
          ]);
    }

-- a table that leads to no row does with more places that are free
none_taken : (slots : List ℕ) → length slots ≤ 0 → count_by is_taken slots ≡ 0
none_taken [] empty = refl
none_taken (x ∷ xs) empty = absurd (omega arith)

free_at : (more i : ℕ) → get_or (replicate more 0) i 0 ≤ 0
free_at more i = elim (cases_lt i more) [
  | inl within ↦ let free = get_or-replicate {A = ℕ} more i 0 0 within in omega arith
  | inr past ↦ let none = get_or_past (replicate {A = ℕ} more 0) i 0 (omega (arith, length-replicate {A = ℕ} more 0)) in omega arith
]

free_behind : (slots : List ℕ) (more k : ℕ) → length slots ≤ k → get_or (slots ++ replicate more 0) k 0 ≤ 0
free_behind slots more k behind =
    let e = get_or-append_right slots (replicate more 0) (length slots) k 0 refl behind in
    let f = free_at more (k - length slots) in
    omega arith

pub leads_free : (slots : List ℕ) (more : ℕ) → (0 < length slots → LeadsIn [] slots) → 0 < length slots + more → LeadsIn [] (slots ++ replicate more 0)
leads_free slots more leads some =
    let long : length (slots ++ replicate more 0) ≡ length slots + more =
    length-append slots (replicate more 0) ∙ ap (λ n. length slots + n) (length-replicate more 0) in
    let none : count_by is_taken slots ≡ 0 = elim (cases_lt 0 (length slots)) [ inl within ↦ (leads within).taken | inr empty ↦ none_taken slots empty ] in
    record {
      half = omega (arith, long, some);
      taken = sum_by-append one_if slots (replicate more 0) ∙ (let e = sum_by-replicate one_if more 0 in omega (arith, none, e));
      known = λ k. elim (cases_lt k (length slots)) [
        | inl within ↦ let old = get_or_append_left slots (replicate more 0) 0 k within in let known = (leads (omega arith)).known k in omega arith
        | inr behind ↦ free_behind slots more k behind
      ];
      found = λ row below. absurd (omega arith);
    }

-- and one that is being prepared, once it has all its places
pub leads_filled : (hashes : List ℕ) (places : ℕ) (next : List ℕ) (moved : ℕ) → IsPrepared hashes places next moved → 0 < places
    → LeadsIn (take moved hashes) (next ++ replicate (places - length next) 0)
leads_filled hashes places next moved prepared some =
    let filled = next ++ replicate (places - length next) 0 in
    elim (cases_eq moved 0) [
      | inl none ↦
          let leads : LeadsIn [] filled =
          leads_free next (places - length next)
          (λ within. subst (λ n. LeadsIn (take n hashes) next) none (prepared.leads within)) (omega (arith, prepared.within)) in
          subst (λ n. LeadsIn (take n hashes) filled) (sym none) leads
      | inr other_one ↦
          let full = prepared.full (omega arith) in
          let left : 0 ≡ places - length next = omega (arith, full) in
          let same : next ≡ filled = sym (append-nil next) ∙ ap (λ n. next ++ replicate n 0) left in
          subst (λ slots. LeadsIn (take moved hashes) slots) same (prepared.leads (omega arith))
    ]
