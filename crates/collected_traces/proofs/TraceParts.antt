-- A list of items that is cut at the starts of traces grows at its end.
use Rattle.std.proofs.Common.{◌≡◌, ℕ, zero, suc, ◌+◌, ◌-◌, ◌<◌, ◌≤◌, List, [], ◌∷◌, ◌++◌, length, take, drop, get_or, refl, sym, ap, subst, ◌∙◌, arith}
use Rattle.std.proofs.Common.{length-append, length-drop}
use Rattle.std.specs.Prelude.{slice_range, slice_index_or}
use Rattle.std.proofs.lemmas.List.{take-append-le, drop-append-le, take_all}
use Rattle.collected_traces.specs.TraceParts.{next_start, cut_at, AreStarts}

pub next_within : (end : ℕ) (ss : List ℕ) → AreStarts end ss → next_start end ss ≤ end
next_within end [] a = omega arith
next_within end (s ∷ ss) a = let first : s ≤ next_start end ss = a.0 in let rest = next_within end ss a.1 in omega arith

-- ---- an empty trace starts at the end
pub starts_begin : (end : ℕ) (ss : List ℕ) → AreStarts end ss → AreStarts end (ss ++ end ∷ [])
starts_begin end [] a = (omega arith, tt)
starts_begin end (s ∷ []) a = (a.0, (omega arith, tt))
starts_begin end (s ∷ r ∷ ss) a = (a.0, starts_begin end (r ∷ ss) a.1)

nothing : {X : Type 0} (xs : List X) (n : ℕ) → slice_range xs n n ≡ []
nothing xs n = let none : n - n ≡ 0 = omega arith in ap (λ k. take k (drop n xs)) none

pub cut_begin : {X : Type 0} (xs : List X) (ss : List ℕ) → cut_at xs (ss ++ length xs ∷ []) ≡ cut_at xs ss ++ [] ∷ []
cut_begin xs [] = ap (λ t. t ∷ []) (nothing xs (length xs))
cut_begin xs (s ∷ []) = ap (λ t. slice_range xs s (length xs) ∷ t ∷ []) (nothing xs (length xs))
cut_begin xs (s ∷ r ∷ ss) = ap (λ ts. slice_range xs s r ∷ ts) (cut_begin xs (r ∷ ss))

-- ---- the last trace gets one more item
pub starts_push : (end : ℕ) (ss : List ℕ) → AreStarts end ss → AreStarts (end + 1) ss
starts_push end [] a = tt
starts_push end (s ∷ []) a = let first : s ≤ end = a.0 in (omega arith, tt)
starts_push end (s ∷ r ∷ ss) a = (a.0, starts_push end (r ∷ ss) a.1)

before : {X : Type 0} (xs ys : List X) (a b : ℕ) → a ≤ b → b ≤ length xs → slice_range (xs ++ ys) a b ≡ slice_range xs a b
before xs ys a b low high =
    let inside : a ≤ length xs = omega arith in
    let short : b - a ≤ length (drop a xs) = omega (arith, length-drop a xs) in
    ap (take (b - a)) (drop-append-le a xs ys inside) ∙ take-append-le (b - a) (drop a xs) ys short

last_more : {X : Type 0} (xs : List X) (x : X) (a : ℕ) → a ≤ length xs
    → slice_range (xs ++ x ∷ []) a (length (xs ++ x ∷ [])) ≡ slice_range xs a (length xs) ++ x ∷ []
last_more xs x a low =
    let whole : length (drop a xs ++ x ∷ []) ≤ length (xs ++ x ∷ []) - a =
    omega (arith, length-append (drop a xs) (x ∷ []), length-append xs (x ∷ []), length-drop a xs) in
    let here : length (drop a xs) ≤ length xs - a = omega (arith, length-drop a xs) in
    ap (take (length (xs ++ x ∷ []) - a)) (drop-append-le a xs (x ∷ []) low) ∙ take_all (length (xs ++ x ∷ []) - a) (drop a xs ++ x ∷ []) whole
    ∙ ap (λ l. l ++ x ∷ []) (sym (take_all (length xs - a) (drop a xs) here))

pub cut_push : {X : Type 0} (xs : List X) (x : X) (ss : List ℕ) → AreStarts (length xs) ss → (ts : List (List X)) (t : List X) → cut_at xs ss ≡ ts ++ t ∷ []
    → cut_at (xs ++ x ∷ []) ss ≡ ts ++ (t ++ x ∷ []) ∷ []
cut_push xs x [] a [] t e = absurd (cc e)
cut_push xs x [] a (u ∷ ts) t e = absurd (cc e)
cut_push xs x (s ∷ []) a [] t e =
    let first : slice_range xs s (length xs) ≡ t = cc e in
    ap (λ l. l ∷ []) (last_more xs x s a.0 ∙ ap (λ l. l ++ x ∷ []) first)
cut_push xs x (s ∷ []) a (u ∷ []) t e = absurd (cc e)
cut_push xs x (s ∷ []) a (u ∷ v ∷ ts) t e = absurd (cc e)
cut_push xs x (s ∷ r ∷ ss) a [] t e = absurd (cc e)
cut_push xs x (s ∷ r ∷ ss) a (u ∷ ts) t e =
    let first : slice_range xs s r ≡ u = cc e in
    let rest : cut_at xs (r ∷ ss) ≡ ts ++ t ∷ [] = cc e in
    let same = before xs (x ∷ []) s r a.0 (next_within (length xs) (r ∷ ss) a.1) ∙ first in
    λ i. same i ∷ cut_push xs x (r ∷ ss) a.1 ts t rest i

-- ---- the trace at a place
pub cuts : {X : Type 0} (xs : List X) (ss : List ℕ) → length (cut_at xs ss) ≡ length ss
cuts xs [] = refl
cuts xs (s ∷ ss) = ap suc (cuts xs ss)

pub no_cut : {X : Type 0} (xs : List X) (ss : List ℕ) (k : ℕ) → length ss ≤ k → slice_index_or (cut_at xs ss) k [] ≡ []
no_cut xs [] k le = refl
no_cut xs (s ∷ ss) zero le = absurd (omega arith)
no_cut xs (s ∷ ss) (suc k) le = no_cut xs ss k (omega arith)

pub cut_got : {X : Type 0} (xs : List X) (ss : List ℕ) (k d : ℕ) → k < length ss
    → slice_range xs (get_or ss k d) (get_or ss (k + 1) (length xs)) ≡ slice_index_or (cut_at xs ss) k []
cut_got xs [] k d le = absurd (omega arith)
cut_got xs (s ∷ []) zero d le = refl
cut_got xs (s ∷ r ∷ ss) zero d le = refl
cut_got xs (s ∷ ss) (suc k) d le =
    let one : suc k + 1 ≡ suc (k + 1) = omega arith in
    ap (λ m. slice_range xs (get_or ss k d) (get_or (s ∷ ss) m (length xs))) one ∙ cut_got xs ss k d (omega arith)

pub bounds : (end : ℕ) (ss : List ℕ) (k d : ℕ) → AreStarts end ss → k < length ss → (get_or ss k d ≤ get_or ss (k + 1) end) × (get_or ss (k + 1) end ≤ end)
bounds end [] k d a le = absurd (omega arith)
bounds end (s ∷ []) zero d a le = (a.0, omega arith)
bounds end (s ∷ r ∷ ss) zero d a le = (a.0, next_within end (r ∷ ss) a.1)
bounds end (s ∷ ss) (suc k) d a le =
    let rest : (get_or ss k d ≤ get_or ss (k + 1) end) × (get_or ss (k + 1) end ≤ end) = bounds end ss k d a.1 (omega arith) in
    let one : suc k + 1 ≡ suc (k + 1) = omega arith in
    subst (λ m. (get_or ss k d ≤ get_or (s ∷ ss) m end) × (get_or (s ∷ ss) m end ≤ end)) (sym one) rest
