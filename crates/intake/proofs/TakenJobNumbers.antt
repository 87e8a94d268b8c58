-- The number of jobs of each seat that were taken.
use Rattle.std.proofs.Common.{◌≡◌, ◌≢◌, ℕ, zero, suc, ◌==◌, ◌<◌, ◌≤◌, ◌||◌, Bool, true, false, List, [], ◌∷◌, ◌++◌, length, set, replicate, refl, subst, sym}
use Rattle.std.proofs.Common.{ap, ◌∙◌, arith, length-append, ne_eqb}
use Rattle.std.specs.Prelude.{slice_index}
use Rattle.std.proofs.lemmas.List.{append-nil, get_or-set_same, get_or-set_other, length-set}
use Rattle.std.proofs.lemmas.Bool.{leb-true, leb-false}
use Rattle.std.proofs.lemmas.Bool.Decides.{nat_tests}
use lib.Dec.{leb}
use Rattle.trace_model.specs.declared.entry.Entry.{Entry}
use Rattle.intake.specs.Queues.{jobs_of, CountUp, AllCountUp, AreLast}
use Rattle.intake.specs.Books.{has_job}
use Rattle.intake.proofs.Steps.{jobs_of-append}
use Rattle.intake.proofs.EndedSeats.{last-number, of-one}
use Rattle.intake.proofs.TakenJobs.{job-of-seat, counted-has, counted-within}

zeros : (n s : ℕ) → slice_index (replicate n zero) s ≡ zero
zeros zero s = refl
zeros (suc n) zero = refl
zeros (suc n) (suc s) = zeros n s

-- nothing was taken
pub none_taken : (made : ℕ) (jobs : List Entry) (numbers : List ℕ) → jobs ≡ [] → numbers ≡ replicate made 0 → length numbers ≡ made → AreLast made jobs numbers
none_taken made jobs numbers none is size = record {
  one_for_each = size;
  counted = (λ s. subst (λ (z : List Entry). CountUp 1 (jobs_of s z)) (sym none) tt);
  each = (λ s. ap (λ (z : List ℕ). slice_index z s) is ∙ (zeros made s ∙ ap (λ (z : List Entry). length (jobs_of s z)) (sym none)));
}

-- one more was taken, and its number is stored
pub one_taken : (made : ℕ) (jobs : List Entry) (numbers : List ℕ) (j : Entry) → AreLast made jobs numbers → j.seat < made → AllCountUp (jobs ++ j ∷ [])
    → AreLast made (jobs ++ j ∷ []) (set numbers j.seat j.number)
one_taken made jobs numbers j l within counts = record {
  one_for_each = same_size ∙ l.one_for_each;
  counted = counts;
  each = (λ s. go s (s == j.seat) refl);
}
  where
    same_size : length (set numbers j.seat j.number) ≡ length numbers
    same_size = length-set numbers j.seat j.number

    mine : jobs_of j.seat (jobs ++ j ∷ []) ≡ jobs_of j.seat jobs ++ j ∷ []
    mine = jobs_of-append j.seat jobs (j ∷ []) ∙ ap (λ z. jobs_of j.seat jobs ++ z) (of-one j.seat j refl)

    number : j.number ≡ length (jobs_of j.seat (jobs ++ j ∷ []))
    number =
        (let n = last-number 1 (jobs_of j.seat jobs) j [] (subst (CountUp 1) (mine ∙ sym (append-nil (jobs_of j.seat jobs ++ j ∷ []))) (counts j.seat)) in
        let size = ap length mine ∙ length-append (jobs_of j.seat jobs) (j ∷ []) in
        omega (arith, n, size))

    others : (s : ℕ) → j.seat ≢ s → jobs_of s (jobs ++ j ∷ []) ≡ jobs_of s jobs
    others s apart =
        (let none : jobs_of s (j ∷ []) ≡ [] = rw (ne_eqb j.seat s apart) refl in
        jobs_of-append s jobs (j ∷ []) ∙ (ap (λ z. jobs_of s jobs ++ z) none ∙ append-nil (jobs_of s jobs)))

    go : (s : ℕ) (b : Bool) → (s == j.seat) ≡ b → slice_index (set numbers j.seat j.number) s ≡ length (jobs_of s (jobs ++ j ∷ []))
    go s true is =
        (let here : j.seat ≡ s = grind (arith, nat_tests, is) in
        let size = l.one_for_each in
        let inside : j.seat < length numbers = omega (arith, within, size) in
        let P : ℕ → Type 0 = λ z. slice_index (set numbers j.seat j.number) z ≡ length (jobs_of z (jobs ++ j ∷ [])) in
        subst P here (get_or-set_same numbers j.seat j.number 0 inside ∙ number))
    go s false is =
        (let apart : s ≢ j.seat = λ same. grind (arith, nat_tests, is, same) in
        get_or-set_other numbers j.seat s j.number 0 apart ∙ (l.each s ∙ ap length (sym (others s (λ same. apart (sym same))))))

-- the job was taken if that many of the seat were
pub has_so_many : (made : ℕ) (jobs : List Entry) (numbers : List ℕ) (s n k : ℕ) → AreLast made jobs numbers → k ≡ length (jobs_of s jobs)
    → leb n k ≡ ((n == 0) || has_job s n jobs)
has_so_many made jobs numbers s n k l is = go (leb n k) refl (n == 0) refl (has_job s n jobs) refl
  where
    count : CountUp 1 (jobs_of s jobs)
    count = l.counted s

    go : (c : Bool) → leb n k ≡ c → (d : Bool) → (n == 0) ≡ d → (e : Bool) → has_job s n jobs ≡ e → c ≡ (d || e)
    go true within true nil e there = refl
    go true within false some true there = refl
    go true within false some false there =
        (let le : n ≤ k = leb-true n k within in
        let first : 1 ≤ n = grind (arith, nat_tests, some) in
        let held = job-of-seat s n jobs ∙ counted-has 1 n (jobs_of s jobs) count first (omega (arith, le, is)) in
        absurd (cc (there, held)))
    go false beyond true nil e there =
        (let zero_is : n ≡ 0 = grind (arith, nat_tests, nil) in
        let more : k < n = leb-false n k beyond in
        absurd (omega (arith, zero_is, more)))
    go false beyond false some true there =
        (let most = counted-within 1 n (jobs_of s jobs) count (sym (job-of-seat s n jobs) ∙ there) in
        let more : k < n = leb-false n k beyond in
        absurd (omega (arith, most, more, is)))
    go false beyond false some false there = refl
