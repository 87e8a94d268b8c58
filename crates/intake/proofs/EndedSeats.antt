-- What an ended seat submitted.
use Rattle.std.proofs.Common.{◌≡◌, ℕ, ◌+◌, ⊎_elim, List, [], ◌∷◌, ◌++◌, length, refl, subst, sym, ap, ◌∙◌, arith, length-append, eq-eqb}
use Rattle.std.proofs.lemmas.List.{append-nil}
use Rattle.trace_model.specs.declared.entry.Entry.{Entry}
use Rattle.intake.specs.declared.queue.EndedSeat.{EndedSeat}
use Rattle.intake.specs.Queues.{jobs_of, CountUp, AreWhole}
use Rattle.intake.specs.Books.{HasEnded, AllTaken}
use Rattle.intake.proofs.Steps.{jobs_of-append}

pub whole-of : (ks : List EndedSeat) (s : ℕ) (js all : List Entry) → HasEnded ks s js → AreWhole ks all → (jobs_of s all ≡ js) × CountUp 1 js
whole-of [] s js all h w = absurd h
whole-of (k ∷ ks) s js all h w =
    ⊎_elim (λ t. (ap (λ n. jobs_of n all) (sym t.0) ∙ (w.0.0 ∙ t.1), subst (CountUp 1) t.1 w.0.1)) (λ t. whole-of ks s js all t w.1) h

-- the queue was empty
pub emptied : (ks : List EndedSeat) (s : ℕ) (js taken items : List Entry) → HasEnded ks s js → AreWhole ks (taken ++ items) → length items ≡ 0
    → AllTaken s js taken
emptied ks s js taken [] h w none = let p = whole-of ks s js (taken ++ []) h w in (ap (jobs_of s) (sym (append-nil taken)) ∙ p.0, p.1)
emptied ks s js taken (i ∷ is) h w none = absurd (omega (arith, none))

pub last-number : (n : ℕ) (xs : List Entry) (e : Entry) (ys : List Entry) → CountUp n ((xs ++ e ∷ []) ++ ys) → e.number ≡ length xs + n
last-number n [] e ys h = omega (arith, h.0)
last-number n (x ∷ xs) e ys h = let r = last-number (n + 1) xs e ys h.1 in omega (arith, r)

pub no-more : (xs ys : List Entry) → length ys ≡ 0 → xs ++ ys ≡ xs
no-more xs [] none = append-nil xs
no-more xs (y ∷ ys) none = absurd (omega (arith, none))

pub of-one : (s : ℕ) (e : Entry) → e.seat ≡ s → jobs_of s (e ∷ []) ≡ e ∷ []
of-one s e same = rw (eq-eqb e.seat s same) refl

-- the seat's last job was taken
pub finished : (ks : List EndedSeat) (s : ℕ) (js taken : List Entry) (e : Entry) (items : List Entry) → HasEnded ks s js
    → AreWhole ks ((taken ++ e ∷ []) ++ items) → e.seat ≡ s → e.number ≡ length js → AllTaken s js (taken ++ e ∷ [])
finished ks s js taken e items h w same last =
    let p = whole-of ks s js ((taken ++ e ∷ []) ++ items) h w in
    let mine : jobs_of s (taken ++ e ∷ []) ≡ jobs_of s taken ++ e ∷ [] = jobs_of-append s taken (e ∷ []) ∙ ap (λ z. jobs_of s taken ++ z) (of-one s e same) in
    let all : (jobs_of s taken ++ e ∷ []) ++ jobs_of s items ≡ js =
    ap (λ z. z ++ jobs_of s items) (sym mine) ∙ (sym (jobs_of-append s (taken ++ e ∷ []) items) ∙ p.0) in
    let n = last-number 1 (jobs_of s taken) e (jobs_of s items) (subst (CountUp 1) (sym all) p.1) in
    let len : length js ≡ length (jobs_of s taken ++ e ∷ []) + length (jobs_of s items) =
    ap length (sym all) ∙ length-append (jobs_of s taken ++ e ∷ []) (jobs_of s items) in
    let one : length (jobs_of s taken ++ e ∷ []) ≡ length (jobs_of s taken) + 1 = length-append (jobs_of s taken) (e ∷ []) in
    let none : length (jobs_of s items) ≡ 0 = omega (arith, n, len, one, last) in
    (mine ∙ (sym (no-more (jobs_of s taken ++ e ∷ []) (jobs_of s items) none) ∙ all), p.1)
