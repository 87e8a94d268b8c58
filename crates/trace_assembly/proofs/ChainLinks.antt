-- How the links of chains change with one more spot.
use Rattle.std.proofs.Common.{◌≡◌, ℕ, suc, zero, ◌+◌, ◌-◌, ◌<◌, ◌≤◌, Bool, true, false, cond, nat_eq, List, [], ◌∷◌, ◌++◌, length, get_or, drop, refl, sym, ap}
use Rattle.std.proofs.Common.{subst, ◌∙◌, inl, inr, arith, eqb-true, eq-eqb, length-append}
use Rattle.std.specs.Prelude.{◌==◌}
use Rattle.std.proofs.Math.ListN.{set}
use Rattle.std.proofs.lemmas.Bool.{cases_eq, cases_lt}
use Rattle.std.proofs.lemmas.Bool.Decides.{nat_tests}
use Rattle.std.proofs.lemmas.List.{length-set, get_or-set_same, get_or-set_other, get_or_append_left, get_or_push, get_or_read, drop-append-le, drop_all}
use Rattle.std.proofs.lemmas.List.{ext_get_or, append-nil}
use Rattle.std.proofs.lemmas.List.FromFn.{length-map-range_with_len, get_or-map-range_with_len}
use Rattle.trace_assembly.specs.declared.spot.Spot.{Spot}
use Rattle.trace_assembly.specs.declared.chains.Mark.{Mark}
use Rattle.trace_assembly.specs.declared.chains.Ends.{Ends}
use Rattle.trace_assembly.specs.ChainLinks.{spot_in, chain_in, from, no_mark, mark_at, no_ends, ends_at, chains_of, IsPlace, IsLinked, IsLastMark, IsChained}

-- the list of lists
pub length_chains : (marks : List Mark) (ends : List Ends) → length (chains_of marks ends) ≡ length ends
length_chains marks ends = length-map-range_with_len (λ row. from marks row (ends_at ends row).first) 0 (length ends)

-- a row that has a list has ends
pub row_below : (marks : List Mark) (ends : List Ends) (row : ℕ) → row < length (chains_of marks ends) → row < length ends
row_below marks ends row within = subst (λ (n : ℕ). row < n) (length_chains marks ends) within

pub chain_at : (marks : List Mark) (ends : List Ends) (row : ℕ) → row < length ends
    → get_or (chains_of marks ends) row [] ≡ from marks row (ends_at ends row).first
chain_at marks ends row below = get_or-map-range_with_len (λ r. from marks r (ends_at ends r).first) 0 (length ends) row row [] below (omega arith)

chains_set : (marks more : List Mark) (ends others : List Ends) (row : ℕ) (ys : List Spot) → length others ≡ length ends → row < length ends
    → ((r : ℕ) → r < length ends → (r ≡ row → ⊥) → from more r (ends_at others r).first ≡ from marks r (ends_at ends r).first)
    → from more row (ends_at others row).first ≡ ys → chains_of more others ≡ set (chains_of marks ends) row ys
chains_set marks more ends others row ys len below other own =
    let a = length_chains more others in
    let b = length_chains marks ends in
    let l = length-set (chains_of marks ends) row ys in
    ext_get_or [] (chains_of more others) (set (chains_of marks ends) row ys) (a ∙ len ∙ sym b ∙ sym l) (λ i within.
    let w : i < length others = subst (λ (n : ℕ). i < n) a within in
    let v : i < length ends = subst (λ (n : ℕ). i < n) len w in
    let rowin : row < length (chains_of marks ends) = subst (λ (n : ℕ). row < n) (sym b) below in
    elim (cases_eq i row) [
      | inl e ↦ chain_at more others i w ∙ ap (λ (r : ℕ). from more r (ends_at others r).first) e ∙ own
          ∙ sym (get_or-set_same (chains_of marks ends) row ys [] rowin) ∙ ap (λ r. get_or (set (chains_of marks ends) row ys) r []) (sym e)
      | inr apart ↦ chain_at more others i w ∙ other i v apart ∙ sym (chain_at marks ends i v) ∙ sym (get_or-set_other (chains_of marks ends) row i ys [] apart)
    ])

pub chains_hidden : (marks : List Mark) (ends : List Ends) (row : ℕ) → row < length ends
    → chains_of marks (set ends row no_ends) ≡ set (chains_of marks ends) row []
chains_hidden marks ends row below =
    chains_set marks marks ends (set ends row no_ends) row [] (length-set ends row no_ends) below
    (λ r within apart. ap (λ (e : Ends). from marks r e.first) (get_or-set_other ends row r no_ends no_ends apart))
    (ap (λ (e : Ends). from marks row e.first) (get_or-set_same ends row no_ends no_ends below))

-- one more row
pub chains_opened : (marks : List Mark) (ends : List Ends) → chains_of marks (ends ++ no_ends ∷ []) ≡ chains_of marks ends ++ [] ∷ []
chains_opened marks ends =
    let a = length_chains marks (ends ++ no_ends ∷ []) in
    let b = length_chains marks ends in
    let l = length-append ends (no_ends ∷ []) in
    let m : length (chains_of marks ends ++ [] ∷ []) ≡ length ends + 1 = length-append (chains_of marks ends) ([] ∷ []) ∙ ap (λ n. n + 1) b in
    ext_get_or [] (chains_of marks (ends ++ no_ends ∷ [])) (chains_of marks ends ++ [] ∷ []) (a ∙ l ∙ sym m) (λ i within.
    let w : i < length (ends ++ no_ends ∷ []) = subst (λ (n : ℕ). i < n) a within in
    elim (cases_eq i (length ends)) [
      | inl e ↦ chain_at marks (ends ++ no_ends ∷ []) i w ∙ ap (λ (f : Ends). from marks i f.first) (get_or_push ends no_ends no_ends i (sym e))
          ∙ sym (get_or_push (chains_of marks ends) [] [] i (b ∙ sym e))
      | inr apart ↦
          let v : i < length ends = omega arith in
          chain_at marks (ends ++ no_ends ∷ []) i w ∙ ap (λ (f : Ends). from marks i f.first) (get_or_append_left ends (no_ends ∷ []) no_ends i v)
          ∙ sym (chain_at marks ends i v) ∙ sym (get_or_append_left (chains_of marks ends) ([] ∷ []) [] i (subst (λ (n : ℕ). i < n) (sym b) v))
    ])

-- the spots of a row
one_own : (x : Mark) (r : ℕ) → x.row ≡ r → chain_in r (x ∷ []) ≡ spot_in x ∷ []
one_own x r e = ap (λ b. cond b (spot_in x ∷ []) []) (eq-eqb x.row r e)

one_other : (x : Mark) (r : ℕ) → (r ≡ x.row → ⊥) → chain_in r (x ∷ []) ≡ []
one_other x r apart = elim (nat_eq x.row r) as (λ b. nat_eq x.row r ≡ b → cond b (spot_in x ∷ []) [] ≡ []) [
  | true ↦ λ e. absurd (apart (sym (eqb-true x.row r e)))
  | false ↦ λ _. refl
] refl

chain-append : (r : ℕ) (xs ys : List Mark) → chain_in r (xs ++ ys) ≡ chain_in r xs ++ chain_in r ys
chain-append r [] ys = refl
chain-append r (x ∷ xs) ys =
    elim (nat_eq x.row r) as (λ b. cond b (spot_in x ∷ chain_in r (xs ++ ys)) (chain_in r (xs ++ ys)) ≡ cond b (spot_in x ∷ chain_in r xs) (chain_in r xs)
    ++ chain_in r ys) [
      | true ↦ ap (λ l. spot_in x ∷ l) (chain-append r xs ys)
      | false ↦ chain-append r xs ys
    ]

chain_push : (r k : ℕ) (marks : List Mark) (x : Mark) → k ≤ length marks
    → chain_in r (drop k (marks ++ x ∷ [])) ≡ chain_in r (drop k marks) ++ chain_in r (x ∷ [])
chain_push r k marks x within = ap (chain_in r) (drop-append-le k marks (x ∷ []) within) ∙ chain-append r (drop k marks) (x ∷ [])

chain_push_own : (r k : ℕ) (marks : List Mark) (x : Mark) → x.row ≡ r → k ≤ length marks
    → chain_in r (drop k (marks ++ x ∷ [])) ≡ chain_in r (drop k marks) ++ spot_in x ∷ []
chain_push_own r k marks x e within = chain_push r k marks x within ∙ ap (λ l. chain_in r (drop k marks) ++ l) (one_own x r e)

chain_push_other : (r k : ℕ) (marks : List Mark) (x : Mark) → (r ≡ x.row → ⊥) → k ≤ length marks
    → chain_in r (drop k (marks ++ x ∷ [])) ≡ chain_in r (drop k marks)
chain_push_other r k marks x apart within =
    chain_push r k marks x within ∙ ap (λ l. chain_in r (drop k marks) ++ l) (one_other x r apart) ∙ append-nil (chain_in r (drop k marks))

from_push_own : (marks : List Mark) (x : Mark) (r at : ℕ) → x.row ≡ r → 0 < at → at ≤ length marks
    → from (marks ++ x ∷ []) r at ≡ from marks r at ++ spot_in x ∷ []
from_push_own marks x r zero e pos within = absurd (omega arith)
from_push_own marks x r (suc k) e pos within = chain_push_own r k marks x e (omega arith)

from_push_other : (marks : List Mark) (x : Mark) (r at : ℕ) → (r ≡ x.row → ⊥) → at ≤ length marks → from (marks ++ x ∷ []) r at ≡ from marks r at
from_push_other marks x r zero apart within = refl
from_push_other marks x r (suc k) apart within = chain_push_other r k marks x apart (omega arith)

chain_past : (r k : ℕ) (marks : List Mark) → length marks ≤ k → chain_in r (drop k marks) ≡ []
chain_past r k marks past = ap (chain_in r) (drop_all k marks past)

from_new : (marks : List Mark) (x : Mark) (r : ℕ) → x.row ≡ r → from (marks ++ x ∷ []) r (length marks + 1) ≡ spot_in x ∷ []
from_new marks x r e =
    let one : length marks + 1 ≡ suc (length marks) = omega arith in
    ap (from (marks ++ x ∷ []) r) one ∙ chain_push_own r (length marks) marks x e (omega arith)
    ∙ ap (λ l. l ++ spot_in x ∷ []) (chain_past r (length marks) marks (omega arith))

-- a spot of the row is after this place
none_after : (r k j : ℕ) (marks : List Mark) → chain_in r (drop k marks) ≡ [] → k ≤ j → j < length marks → (mark_at marks j).row ≡ r → ⊥
none_after r zero zero (x ∷ xs) none below within own =
    let clash : spot_in x ∷ chain_in r xs ≡ [] = sym (ap (λ b. cond b (spot_in x ∷ chain_in r xs) (chain_in r xs)) (eq-eqb x.row r own)) ∙ none in
    cc
none_after r zero (suc j) (x ∷ xs) none below within own = none_after r zero j xs (rest (nat_eq x.row r) none) (omega arith) (omega arith) own
  where
    rest : (b : Bool) → cond b (spot_in x ∷ chain_in r xs) (chain_in r xs) ≡ [] → chain_in r xs ≡ []
    rest true e = cc
    rest false e = e
none_after r (suc k) zero marks none below within own = absurd (omega arith)
none_after r (suc k) (suc j) (x ∷ xs) none below within own = none_after r k j xs none (omega arith) (omega arith) own
none_after r k j [] none below within own = absurd (omega arith)

-- places
place_end : (marks : List Mark) (r at : ℕ) → at ≡ 0 → IsPlace marks r at
place_end marks r at e = record { within = omega arith; own = λ pos. absurd (omega arith) }

old_mark : (marks : List Mark) (x : Mark) (k : ℕ) → k < length marks → mark_at (marks ++ x ∷ []) k ≡ mark_at marks k
old_mark marks x k below = get_or_append_left marks (x ∷ []) no_mark k below

new_mark : (marks : List Mark) (x : Mark) (k : ℕ) → k ≡ length marks → mark_at (marks ++ x ∷ []) k ≡ x
new_mark marks x k e = get_or_push marks x no_mark k (sym e)

place_push : (marks : List Mark) (x : Mark) (r at : ℕ) → IsPlace marks r at → IsPlace (marks ++ x ∷ []) r at
place_push marks x r at p =
    let w = p.within in
    let l : length (marks ++ x ∷ []) ≡ length marks + 1 = length-append marks (x ∷ []) in
    record { within = omega arith; own = λ pos. ap (λ (y : Mark). y.row) (old_mark marks x (at - 1) (omega arith)) ∙ p.own pos }

place_new : (marks : List Mark) (x : Mark) (r at : ℕ) → x.row ≡ r → at ≡ length marks + 1 → IsPlace (marks ++ x ∷ []) r at
place_new marks x r at e is =
    let l : length (marks ++ x ∷ []) ≡ length marks + 1 = length-append marks (x ∷ []) in
    record { within = omega arith; own = λ pos. ap (λ (y : Mark). y.row) (new_mark marks x (at - 1) (omega arith)) ∙ e }

-- the links of another row
linked_other : (marks : List Mark) (x : Mark) (next more : List ℕ) (r at : ℕ) → (r ≡ x.row → ⊥) → length more ≡ length marks + 1
    → ((k : ℕ) → k < length marks → (mark_at marks k).row ≡ r → get_or more k 0 ≡ get_or next k 0) → IsLinked marks next r at
    → IsLinked (marks ++ x ∷ []) more r at
linked_other marks x next more r at apart len same h =
    let l : length (marks ++ x ∷ []) ≡ length marks + 1 = length-append marks (x ∷ []) in
    let old : (k : ℕ) → k < length (marks ++ x ∷ []) → (mark_at (marks ++ x ∷ []) k).row ≡ r → (k < length marks) × ((mark_at marks k).row ≡ r) = λ k below own.
    elim (cases_eq k (length marks)) [
      | inl e ↦ absurd (apart (sym (sym (ap (λ (y : Mark). y.row) (new_mark marks x k e)) ∙ own)))
      | inr before ↦ let b : k < length marks = omega arith in (b, sym (ap (λ (y : Mark). y.row) (old_mark marks x k b)) ∙ own)
    ] in
    record {
      as_many = len ∙ sym l;
      start = place_push marks x r at h.start;
      places =
          λ k pos low below own. let o = old k below own in
          subst (IsPlace (marks ++ x ∷ []) r) (sym (same k o.0 o.1)) (place_push marks x r (get_or next k 0) (h.places k pos low o.0 o.1));
      later =
          λ k pos low below own on. let o = old k below own in let e = same k o.0 o.1 in let f = h.later k pos low o.0 o.1 (subst (λ (n : ℕ). 0 < n) e on) in
          omega arith;
      leads = λ k pos low below own. let o = old k below own in
          ap (from (marks ++ x ∷ []) r) (same k o.0 o.1) ∙ from_push_other marks x r (get_or next k 0) apart (h.places k pos low o.0 o.1).within
          ∙ h.leads k pos low o.0 o.1 ∙ sym (chain_push_other r (k + 1) marks x apart (let b = o.0 in omega arith));
    }

last_other : (marks : List Mark) (x : Mark) (r first last : ℕ) → (r ≡ x.row → ⊥) → IsLastMark marks r first last → IsLastMark (marks ++ x ∷ []) r first last
last_other marks x r first last apart h = record {
  place = place_push marks x r last h.place;
  after = h.after;
  none = chain_push_other r last marks x apart h.place.within ∙ h.none;
}

last_new : (marks : List Mark) (x : Mark) (r first : ℕ) → x.row ≡ r → first ≤ length marks + 1 → IsLastMark (marks ++ x ∷ []) r first (length marks + 1)
last_new marks x r first e within =
    let l : length (marks ++ x ∷ []) ≡ length marks + 1 = length-append marks (x ∷ []) in
    record {
      place = place_new marks x r (length marks + 1) e refl;
      after = within;
      none = chain_past r (length marks + 1) (marks ++ x ∷ []) (omega arith);
    }

-- the first number of a row
linked_start : (marks : List Mark) (x : Mark) (more : List ℕ) (r : ℕ) → x.row ≡ r → length more ≡ length marks + 1 → get_or more (length marks) 0 ≡ 0
    → IsLinked (marks ++ x ∷ []) more r (length marks + 1)
linked_start marks x more r e len new =
    let l : length (marks ++ x ∷ []) ≡ length marks + 1 = length-append marks (x ∷ []) in
    let at : (k : ℕ) → length marks + 1 ≤ k + 1 → k < length (marks ++ x ∷ []) → get_or more k 0 ≡ 0 = λ k low below. let is : k ≡ length marks = omega arith in
    ap (λ j. get_or more j 0) is ∙ new in
    record {
      as_many = len ∙ sym l;
      start = place_new marks x r (length marks + 1) e refl;
      places = λ k pos low below own. place_end (marks ++ x ∷ []) r (get_or more k 0) (at k low below);
      later = λ k pos low below own on. let z = at k low below in absurd (omega arith);
      leads = λ k pos low below own. ap (from (marks ++ x ∷ []) r) (at k low below) ∙ sym (chain_past r (k + 1) (marks ++ x ∷ []) (omega arith));
    }

-- one more number of a row
linked_own : (marks : List Mark) (x : Mark) (next more : List ℕ) (r first last : ℕ) → x.row ≡ r → length more ≡ length marks + 1 → 0 < first
    → get_or more (length marks) 0 ≡ 0 → get_or more (last - 1) 0 ≡ length marks + 1
    → ((k : ℕ) → k < length marks → (k ≡ last - 1 → ⊥) → get_or more k 0 ≡ get_or next k 0) → IsLastMark marks r first last → IsLinked marks next r first
    → IsLinked (marks ++ x ∷ []) more r first
linked_own marks x next more r first last e len pos new at_last same z h =
    let l : length (marks ++ x ∷ []) ≡ length marks + 1 = length-append marks (x ∷ []) in
    let lastin = z.place.within in
    let after = z.after in
    let old : (k : ℕ) → k < length marks → (mark_at (marks ++ x ∷ []) k).row ≡ r → (mark_at marks k).row ≡ r =
    λ k below own. sym (ap (λ (y : Mark). y.row) (old_mark marks x k below)) ∙ own in
    let before : (k : ℕ) → k < length marks → (k ≡ last - 1 → ⊥) → (mark_at marks k).row ≡ r → k + 1 < last = λ k below apart own.
    elim (cases_lt (k + 1) last) [
      | inl b ↦ b
      | inr past ↦ absurd (none_after r last k marks z.none (omega arith) below own)
    ] in
    let on : (k : ℕ) → first ≤ k + 1 → k < length marks → (k ≡ last - 1 → ⊥) → (mark_at marks k).row ≡ r → 0 < get_or next k 0 = λ k low below apart own.
    elim (cases_eq (get_or next k 0) 0) [
      | inl none ↦ let b = before k below apart own in
          absurd (none_after r (k + 1) (last - 1) marks (sym (h.leads k pos low below own) ∙ ap (from marks r) none) (omega arith) (omega arith)
          (z.place.own (omega arith)))
      | inr some ↦ omega arith
    ] in
    record {
      as_many = len ∙ sym l;
      start = place_push marks x r first h.start;
      places = λ k _ low below own. elim (cases_eq k (length marks)) [
        | inl is ↦ place_end (marks ++ x ∷ []) r (get_or more k 0) (ap (λ j. get_or more j 0) is ∙ new)
        | inr not_new ↦ elim (cases_eq k (last - 1)) [
          | inl is ↦ place_new marks x r (get_or more k 0) e (ap (λ j. get_or more j 0) is ∙ at_last)
          | inr apart ↦ let b : k < length marks = omega arith in
              subst (IsPlace (marks ++ x ∷ []) r) (sym (same k b apart)) (place_push marks x r (get_or next k 0) (h.places k pos low b (old k b own)))
        ]
      ];
      later = λ k _ low below own some. elim (cases_eq k (length marks)) [
        | inl is ↦ let none = ap (λ j. get_or more j 0) is ∙ new in absurd (omega arith)
        | inr not_new ↦ elim (cases_eq k (last - 1)) [
          | inl is ↦ let to = ap (λ j. get_or more j 0) is ∙ at_last in omega arith
          | inr apart ↦ let b : k < length marks = omega arith in
              let s = same k b apart in let f = h.later k pos low b (old k b own) (on k low b apart (old k b own)) in omega arith
        ]
      ];
      leads = λ k _ low below own. elim (cases_eq k (length marks)) [
        | inl is ↦ ap (from (marks ++ x ∷ []) r) (ap (λ j. get_or more j 0) is ∙ new) ∙ sym (chain_past r (k + 1) (marks ++ x ∷ []) (omega arith))
        | inr not_new ↦ elim (cases_eq k (last - 1)) [
          | inl is ↦
              let here : last ≡ k + 1 = omega arith in
              ap (from (marks ++ x ∷ []) r) (ap (λ j. get_or more j 0) is ∙ at_last) ∙ from_new marks x r e
              ∙ sym (chain_push_own r (k + 1) marks x e (omega arith) ∙ ap (λ l. l ++ spot_in x ∷ []) (ap (λ n. chain_in r (drop n marks)) (sym here) ∙ z.none))
          | inr apart ↦ let b : k < length marks = omega arith in
              ap (from (marks ++ x ∷ []) r) (same k b apart)
              ∙ from_push_own marks x r (get_or next k 0) e (on k low b apart (old k b own)) (h.places k pos low b (old k b own)).within
              ∙ ap (λ l. l ++ spot_in x ∷ []) (h.leads k pos low b (old k b own)) ∙ sym (chain_push_own r (k + 1) marks x e (omega arith))
        ]
      ];
    }

-- all rows
at_own : (ends : List Ends) (row : ℕ) (e : Ends) → row < length ends → ends_at (set ends row e) row ≡ e
at_own ends row e below = get_or-set_same ends row e no_ends below

at_other : (ends : List Ends) (row r : ℕ) (e : Ends) → (r ≡ row → ⊥) → ends_at (set ends row e) r ≡ ends_at ends r
at_other ends row r e apart = get_or-set_other ends row r e no_ends apart

chained : (room : ℕ) (ends : List Ends) (marks : List Mark) (next more : List ℕ) (x : Mark) (e : Ends) → IsChained room ends marks next → x.row < length ends
    → length marks < room → length more ≡ length marks + 1
    → ((r k : ℕ) → (r ≡ x.row → ⊥) → r < length ends → k < length marks → (mark_at marks k).row ≡ r → get_or more k 0 ≡ get_or next k 0)
    → IsLinked (marks ++ x ∷ []) more x.row e.first → IsLastMark (marks ++ x ∷ []) x.row e.first e.last
    → IsChained room (set ends x.row e) (marks ++ x ∷ []) more
chained room ends marks next more x e h below within len same own own_last =
    let l : length (marks ++ x ∷ []) ≡ length marks + 1 = length-append marks (x ∷ []) in
    let n = length-set ends x.row e in
    record {
      fits = h.fits;
      within = omega arith;
      as_many = len ∙ sym l;
      linked = λ r rn. let w : r < length ends = subst (λ (m : ℕ). r < m) n rn in elim (cases_eq r x.row) [
        | inl is ↦ let P : ℕ → Type 0 = λ r. IsLinked (marks ++ x ∷ []) more r (ends_at (set ends x.row e) r).first in
            subst P (sym is) (subst (λ (f : Ends). IsLinked (marks ++ x ∷ []) more x.row f.first) (sym (at_own ends x.row e below)) own)
        | inr apart ↦ subst (λ (f : Ends). IsLinked (marks ++ x ∷ []) more r f.first) (sym (at_other ends x.row r e apart))
            (linked_other marks x next more r (ends_at ends r).first apart len (λ k kn is. same r k apart w kn is) (h.linked r w))
      ];
      last = λ r rn pos. let w : r < length ends = subst (λ (m : ℕ). r < m) n rn in elim (cases_eq r x.row) [
        | inl is ↦ let P : ℕ → Type 0 = λ r. IsLastMark (marks ++ x ∷ []) r (ends_at (set ends x.row e) r).first (ends_at (set ends x.row e) r).last in
            subst P (sym is) (subst (λ (f : Ends). IsLastMark (marks ++ x ∷ []) x.row f.first f.last) (sym (at_own ends x.row e below)) own_last)
        | inr apart ↦ subst (λ (f : Ends). IsLastMark (marks ++ x ∷ []) r f.first f.last) (sym (at_other ends x.row r e apart))
            (last_other marks x r (ends_at ends r).first (ends_at ends r).last apart
            (h.last r w (subst (λ (f : Ends). 0 < f.first) (at_other ends x.row r e apart) pos)))
      ];
    }

pub chained_start : (room : ℕ) (ends : List Ends) (marks : List Mark) (next : List ℕ) (x : Mark) → IsChained room ends marks next → x.row < length ends
    → length marks < room
    → IsChained room (set ends x.row (record { first = length marks + 1; last = length marks + 1 })) (marks ++ x ∷ []) (next ++ 0 ∷ [])
chained_start room ends marks next x h below within =
    let a = h.as_many in
    let len : length (next ++ 0 ∷ []) ≡ length marks + 1 = omega (arith, length-append next (0 ∷ [])) in
    chained room ends marks next (next ++ 0 ∷ []) x (record { first = length marks + 1; last = length marks + 1 }) h below within len
    (λ r k apart rn kn is. get_or_append_left next (0 ∷ []) 0 k (omega arith))
    (linked_start marks x (next ++ 0 ∷ []) x.row refl len (get_or_push next 0 0 (length marks) a))
    (last_new marks x x.row (length marks + 1) refl (omega arith))

pub chained_more : (room : ℕ) (ends : List Ends) (marks : List Mark) (next : List ℕ) (x : Mark) (first last : ℕ) → IsChained room ends marks next
    → x.row < length ends → length marks < room
    → first ≡ (ends_at ends x.row).first → last ≡ (ends_at ends x.row).last → 0 < first
    → IsChained room (set ends x.row (record { first = first; last = length marks + 1 })) (marks ++ x ∷ []) (set (next ++ 0 ∷ []) (last - 1) (length marks + 1))
chained_more room ends marks next x first last h below within fe le pos =
    let a = h.as_many in
    let long : length (next ++ 0 ∷ []) ≡ length marks + 1 = omega (arith, length-append next (0 ∷ [])) in
    let n = length marks + 1 in
    let more = set (next ++ 0 ∷ []) (last - 1) n in
    let len : length more ≡ n = length-set (next ++ 0 ∷ []) (last - 1) n ∙ long in
    let z : IsLastMark marks x.row first last =
    subst (λ (l : ℕ). IsLastMark marks x.row first l) (sym le)
    (subst (λ (f : ℕ). IsLastMark marks x.row f (ends_at ends x.row).last) (sym fe) (h.last x.row below (subst (λ (f : ℕ). 0 < f) fe pos))) in
    let lastin = z.place.within in
    let after = z.after in
    let old : (k : ℕ) → k < length marks → (k ≡ last - 1 → ⊥) → get_or more k 0 ≡ get_or next k 0 =
    λ k kn apart. get_or-set_other (next ++ 0 ∷ []) (last - 1) k n 0 apart ∙ get_or_append_left next (0 ∷ []) 0 k (omega arith) in
    chained room ends marks next more x (record { first = first; last = n }) h below within len
    (λ r k apart rn kn is. old k kn (λ e. apart (sym is ∙ ap (λ j. (mark_at marks j).row) e ∙ z.place.own (omega arith))))
    (linked_own marks x next more x.row first last refl len pos
    (get_or-set_other (next ++ 0 ∷ []) (last - 1) (length marks) n 0 (λ e. let b : length marks < length marks = omega arith in omega arith)
    ∙ get_or_push next 0 0 (length marks) a)
    (get_or-set_same (next ++ 0 ∷ []) (last - 1) n 0 (omega arith))
    old z (subst (λ (f : ℕ). IsLinked marks next x.row f) (sym fe) (h.linked x.row below)))
    (last_new marks x x.row first refl (omega arith))

pub last_place : (room : ℕ) (ends : List Ends) (marks : List Mark) (next : List ℕ) (row : ℕ) (e : Ends) → IsChained room ends marks next
    → row < length (chains_of marks ends) → e ≡ get_or ends row e → 0 < e.first
    → (1 ≤ e.last) × (e.last ≤ length next)
last_place room ends marks next row e h below read pos =
    let within = row_below marks ends row below in
    let own = get_or_read ends row e within read no_ends in
    let z : IsLastMark marks row e.first e.last =
    subst (λ (f : Ends). IsLastMark marks row f.first f.last) (sym own) (h.last row within (subst (λ (f : Ends). 0 < f.first) own pos)) in
    let last = z.place.within in
    let after = z.after in
    let a = h.as_many in
    (omega arith, omega arith)

-- the lists
pub chains_start : (room : ℕ) (ends : List Ends) (marks : List Mark) (next : List ℕ) (x : Mark) → IsChained room ends marks next → x.row < length ends
    → (ends_at ends x.row).first ≡ 0
    → chains_of (marks ++ x ∷ []) (set ends x.row (record { first = length marks + 1; last = length marks + 1 }))
    ≡ set (chains_of marks ends) x.row (get_or (chains_of marks ends) x.row [] ++ spot_in x ∷ [])
chains_start room ends marks next x h below none =
    let e : Ends = record { first = length marks + 1; last = length marks + 1 } in
    chains_set marks (marks ++ x ∷ []) ends (set ends x.row e) x.row (get_or (chains_of marks ends) x.row [] ++ spot_in x ∷ []) (length-set ends x.row e) below
    (λ r rn apart. ap (λ (f : Ends). from (marks ++ x ∷ []) r f.first) (at_other ends x.row r e apart)
    ∙ from_push_other marks x r (ends_at ends r).first apart (h.linked r rn).start.within)
    (ap (λ (f : Ends). from (marks ++ x ∷ []) x.row f.first) (at_own ends x.row e below) ∙ from_new marks x x.row refl
    ∙ sym (ap (λ l. l ++ spot_in x ∷ []) (chain_at marks ends x.row below ∙ ap (from marks x.row) none)))

pub chains_more : (room : ℕ) (ends : List Ends) (marks : List Mark) (next : List ℕ) (x : Mark) (first : ℕ) → IsChained room ends marks next
    → x.row < length ends → first ≡ (ends_at ends x.row).first → 0 < first
    → chains_of (marks ++ x ∷ []) (set ends x.row (record { first = first; last = length marks + 1 }))
    ≡ set (chains_of marks ends) x.row (get_or (chains_of marks ends) x.row [] ++ spot_in x ∷ [])
chains_more room ends marks next x first h below fe pos =
    let e : Ends = record { first = first; last = length marks + 1 } in
    let start = h.linked x.row below in
    let within : first ≤ length marks = subst (λ (f : ℕ). f ≤ length marks) (sym fe) start.start.within in
    chains_set marks (marks ++ x ∷ []) ends (set ends x.row e) x.row (get_or (chains_of marks ends) x.row [] ++ spot_in x ∷ []) (length-set ends x.row e) below
    (λ r rn apart. ap (λ (f : Ends). from (marks ++ x ∷ []) r f.first) (at_other ends x.row r e apart)
    ∙ from_push_other marks x r (ends_at ends r).first apart (h.linked r rn).start.within)
    (ap (λ (f : Ends). from (marks ++ x ∷ []) x.row f.first) (at_own ends x.row e below) ∙ from_push_own marks x x.row first refl pos within
    ∙ sym (ap (λ l. l ++ spot_in x ∷ []) (chain_at marks ends x.row below ∙ ap (from marks x.row) (sym fe))))

-- one more row
pub chained_opened : (room : ℕ) (ends : List Ends) (marks : List Mark) (next : List ℕ) → IsChained room ends marks next
    → IsChained room (ends ++ no_ends ∷ []) marks next
chained_opened room ends marks next h =
    let l = length-append ends (no_ends ∷ []) in
    let old : (r : ℕ) → r < length ends → ends_at (ends ++ no_ends ∷ []) r ≡ ends_at ends r =
    λ r below. get_or_append_left ends (no_ends ∷ []) no_ends r below in
    let new : (r : ℕ) → r ≡ length ends → ends_at (ends ++ no_ends ∷ []) r ≡ no_ends = λ r e. get_or_push ends no_ends no_ends r (sym e) in
    record {
      fits = h.fits;
      within = h.within;
      as_many = h.as_many;
      linked = λ r rn. elim (cases_eq r (length ends)) [
        | inl e ↦ subst (λ (f : Ends). IsLinked marks next r f.first) (sym (new r e)) record {
          as_many = h.as_many;
          start = place_end marks r 0 refl;
          places = λ k pos low below own. absurd (omega arith);
          later = λ k pos low below own on. absurd (omega arith);
          leads = λ k pos low below own. absurd (omega arith);
        }
        | inr apart ↦ subst (λ (f : Ends). IsLinked marks next r f.first) (sym (old r (omega arith))) (h.linked r (omega arith))
      ];
      last = λ r rn pos. elim (cases_eq r (length ends)) [
        | inl e ↦ let none = ap (λ (f : Ends). f.first) (new r e) in absurd (omega arith)
        | inr apart ↦ subst (λ (f : Ends). IsLastMark marks r f.first f.last) (sym (old r (omega arith)))
            (h.last r (omega arith) (subst (λ (f : Ends). 0 < f.first) (old r (omega arith)) pos))
      ];
    }

-- no spot is left exactly at the end
not_zero : (n : ℕ) → (suc n == 0) ≡ false
not_zero n = grind (arith, nat_tests)

pub empty_at_end : (marks : List Mark) (r at : ℕ) → IsPlace marks r at → (at == 0) ≡ (length (from marks r at) == 0)
empty_at_end marks r zero p = refl
empty_at_end marks r (suc k) p = elim (chain_in r (drop k marks)) as (λ (l : List Spot). chain_in r (drop k marks) ≡ l → (suc k == 0) ≡ (length l == 0)) [
  | [] ↦ λ e. let w = p.within in
      absurd (none_after r k k marks e (omega arith) (omega arith) (let same : k ≡ suc k - 1 = omega arith in
      ap (λ j. (mark_at marks j).row) same ∙ p.own (omega arith)))
  | x ∷ xs ↦ λ _. not_zero k ∙ sym (not_zero (length xs))
] refl
