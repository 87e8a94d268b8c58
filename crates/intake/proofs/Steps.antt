-- The steps keep the rule of the queue.
use Rattle.std.proofs.Common.{◌≡◌, ◌≢◌, ℕ, ◌+◌, ◌==◌, ◌<◌, ◌⊎◌, inl, inr, zero, suc, lt_of_not-le, Bool, true, false, cond, List, [], ◌∷◌, ◌++◌, length, set}
use Rattle.std.proofs.Common.{refl, subst, sym, ap, ◌∙◌, ⊎_elim, append_assoc, arith, eq-eqb, ne_eqb, length-append}
use Rattle.std.proofs.lemmas.List.{append-nil}
use Rattle.std.proofs.lemmas.List.Elements.{filter-append}
use Rattle.std.proofs.lemmas.Bool.Decides.{nat_tests}
use mathlib.Core.Option.{Option, some, none, some-injective, some-ne-none}
use lib.ListN.{get_elem?}
use Rattle.crossbeam_queue.specs.Fifo.{Pushes, Pops, Forks, Merges, Learns}
use Rattle.atomic_table.proofs.Lists.{at_set, set_else}
use Rattle.trace_model.specs.declared.entry.Entry.{Entry}
use Rattle.intake.specs.declared.queue.QueueView.{QueueView}
use Rattle.intake.specs.declared.queue.EndedSeat.{EndedSeat}
use Rattle.intake.specs.Queues.{jobs_of, CountUp, AllCountUp, FitsSeat, FitsClerk, AreEnded, Balanced, PutsJob, TakesJob, IsQueued, Waiting, AreWhole}
use Rattle.intake.specs.Queues.{first_view}
use Rattle.intake.specs.Queues.{one_more, new_seat, took_in, retired, spent}

pub jobs_of-append : (s : ℕ) (xs ys : List Entry) → jobs_of s (xs ++ ys) ≡ jobs_of s xs ++ jobs_of s ys
jobs_of-append s xs ys = filter-append (λ (j : Entry). j.seat == s) xs ys

pub counted-left : (k : ℕ) (xs ys : List Entry) → CountUp k (xs ++ ys) → CountUp k xs
counted-left k [] ys c = tt
counted-left k (x ∷ xs) ys c = (c.0, counted-left (k + 1) xs ys c.1)

-- the jobs of each seat are numbered from 1 on in the front part, if they are in all of them
pub counted-front : (submitted : ℕ → List Entry) (front items : List Entry) → ((s : ℕ) → jobs_of s (front ++ items) ≡ submitted s)
    → ((s : ℕ) → CountUp 1 (submitted s))
    → AllCountUp front
counted-front submitted front items same counts s =
    counted-left 1 (jobs_of s front) (jobs_of s items) (subst (CountUp 1) (sym (same s) ∙ jobs_of-append s front items) (counts s))

-- a seat of which some job was submitted has jobs
pub some-of : (s : ℕ) (before : List Entry) (j : Entry) (after : List Entry) → j.seat ≡ s → jobs_of s (before ++ j ∷ after) ≡ [] → ⊥
some-of s before j after is gone =
    let here : jobs_of s (j ∷ after) ≡ j ∷ jobs_of s after = rw (eq-eqb j.seat s is) refl in
    let all : jobs_of s before ++ (j ∷ jobs_of s after) ≡ [] =
    ap (λ z. jobs_of s before ++ z) (sym here) ∙ (sym (jobs_of-append s before (j ∷ after)) ∙ gone) in
    let size = length-append (jobs_of s before) (j ∷ jobs_of s after) in
    let nothing = ap length all in
    absurd (omega (arith, size, nothing))

pub takes : (pass : ℕ) (v : QueueView) → v.takes ≡ true → v.submits ≡ false → Pops Balanced pass v (TakesJob v)
takes pass v may not j items views b at =
    let w = record v { taken = v.taken ++ j ∷ [] } in
    let taken = b.3 in
    let mine = (b.6 pass v at).1 may in
    let whole : (s : ℕ) → jobs_of s ((taken ++ j ∷ []) ++ items) ≡ b.2 s = λ s. ap (jobs_of s) (append_assoc taken (j ∷ []) items) ∙ b.4 s in
    let made : j.seat < v.made = lt_of_not-le (λ le. some-of j.seat taken j items refl (b.4 j.seat ∙ (mine.2 j.seat (omega (arith, le))).1)) in (
      w,
      (
        b.0,
        b.1,
        b.2,
        taken ++ j ∷ [],
        whole,
        b.5,
        (λ k u e. ⊎_elim
            (λ t. subst (λ (z : QueueView). FitsSeat b.1 b.2 k z × FitsClerk b.0 b.1 b.2 (taken ++ j ∷ []) k z) t.1
            ((λ y. absurd (cc (y, not))), (λ y. (t.0 ∙ mine.0, ap (λ z. z ++ j ∷ []) mine.1, mine.2, mine.3))))
            (λ t. let f = b.6 k u t.1 in (f.0, (λ y. absurd (t.0 ((f.1 y).0 ∙ sym mine.0)))))
            (at_set views pass k w u e)),
      ),
      (refl, made, subst (λ (z : List Entry). AllCountUp (z ++ j ∷ [])) (sym mine.1) (counted-front b.2 (taken ++ j ∷ []) items whole b.5)),
    )

pub count-snoc : (n : ℕ) (js : List Entry) (j : Entry) → CountUp n js → j.number ≡ length js + n → CountUp n (js ++ j ∷ [])
count-snoc n [] j h e = (omega (arith, e), tt)
count-snoc n (x ∷ xs) j h e = (h.0, count-snoc (n + 1) xs j h.1 (omega (arith, e)))

-- the lists after seat `at` has submitted one more
abbrev pub more : (ℕ → List Entry) → ℕ → Entry → ℕ → List Entry
more submitted at j s = cond (s == at) (submitted s ++ j ∷ []) (submitted s)

pub more-here : (submitted : ℕ → List Entry) (at : ℕ) (j : Entry) → more submitted at j at ≡ submitted at ++ j ∷ []
more-here submitted at j = rw (eq-eqb at at refl) refl

pub more-else : (submitted : ℕ → List Entry) (at : ℕ) (j : Entry) (s : ℕ) → s ≢ at → more submitted at j s ≡ submitted s
more-else submitted at j s n = rw (ne_eqb s at n) refl

pub more-of : (submitted : ℕ → List Entry) (at : ℕ) (j : Entry) (s : ℕ) (all : List Entry) → j.seat ≡ at → jobs_of s all ≡ submitted s
    → jobs_of s (all ++ j ∷ []) ≡ more submitted at j s
more-of submitted at j s all is same = jobs_of-append s all (j ∷ []) ∙ (ap (λ z. z ++ jobs_of s (j ∷ [])) same ∙ go (s == at) (j.seat == s) (grind (arith, is)))
  where
    go : (b c : Bool) → b ≡ c → submitted s ++ cond c (j ∷ []) [] ≡ cond b (submitted s ++ j ∷ []) (submitted s)
    go true true e = refl
    go false false e = append-nil (submitted s)
    go true false e = absurd (cc e)
    go false true e = absurd (cc e)

pub more-count : (submitted : ℕ → List Entry) (at : ℕ) (j : Entry) (s : ℕ) → CountUp 1 (submitted s) → (s ≡ at → j.number ≡ length (submitted s) + 1)
    → CountUp 1 (more submitted at j s)
more-count submitted at j s h e = go (s == at) refl
  where
    go : (b : Bool) → (s == at) ≡ b → CountUp 1 (cond b (submitted s ++ j ∷ []) (submitted s))
    go true is = count-snoc 1 (submitted s) j h (e (grind (arith, nat_tests)))
    go false is = h

-- ended seats stay so if only seats change that some view is of
pub ended-on : (holder holder' : ℕ → Option ℕ) (submitted submitted' : ℕ → List Entry) (m n : ℕ) (ks : List EndedSeat) → m < n + 1
    → ((s : ℕ) → s < m → holder s ≡ none → (holder' s ≡ none) × (submitted' s ≡ submitted s)) → AreEnded holder submitted m ks
    → AreEnded holder' submitted' n ks
ended-on holder holder' submitted submitted' m n [] le keep h = tt
ended-on holder holder' submitted submitted' m n (k ∷ ks) le keep h =
    let same = keep k.seat h.0.0 h.0.1 in
    (((let l = h.0.0 in omega (arith, le, l)), same.0, same.1 ∙ h.0.2), ended-on holder holder' submitted submitted' m n ks le keep h.1)

pub puts : (n pass : ℕ) (v : QueueView) (j : Entry) → v.submits ≡ true → v.takes ≡ false → j.seat ≡ v.seat → j.number ≡ length v.submitted + 1
    → Pushes Balanced n pass v j (PutsJob v j)
puts n pass v j may not is next items views room b at =
    let w = record v { submitted = v.submitted ++ j ∷ [] } in
    let holder = b.1 in
    let submitted = b.2 in
    let taken = b.3 in
    let mine = (b.6 pass v at).0 may in
    let submitted' = more submitted v.seat j in
    let other : (s : ℕ) → holder s ≡ none → submitted' s ≡ submitted s =
    λ s free. more-else submitted v.seat j s (λ same. some-ne-none pass (sym mine.0 ∙ (ap holder (sym same) ∙ free))) in (
      w,
      (
        b.0,
        holder,
        submitted',
        taken,
        (λ s. ap (jobs_of s) (sym (append_assoc taken items (j ∷ []))) ∙ more-of submitted v.seat j s (taken ++ items) is (b.4 s)),
        (λ s. more-count submitted v.seat j s (b.5 s) (λ same. next ∙ ap (λ z. length z + 1) (mine.1 ∙ ap submitted (sym same)))),
        (λ k u e. ⊎_elim
            (λ t. subst (λ (z : QueueView). FitsSeat holder submitted' k z × FitsClerk b.0 holder submitted' taken k z) t.1
            ((λ y. (mine.0 ∙ ap some (sym t.0), ap (λ z. z ++ j ∷ []) mine.1 ∙ sym (more-here submitted v.seat j))), (λ y. absurd (cc (y, not)))))
            (λ t. let f = b.6 k u t.1 in
            let apart : u.submits ≡ true → u.seat ≢ v.seat = λ y same. t.0 (some-injective k pass (sym ((f.0 y).0) ∙ (ap holder same ∙ mine.0))) in (
              (λ y. ((f.0 y).0, (f.0 y).1 ∙ sym (more-else submitted v.seat j u.seat (apart y)))),
              (λ y. (
                (f.1 y).0,
                (f.1 y).1,
                (λ s le. let g = (f.1 y).2 s le in (g.0, other s g.0 ∙ g.1)),
                ended-on holder holder submitted submitted' u.made u.made u.ended (omega arith) (λ s l free. (free, other s free)) (f.1 y).3,
              )),
            ))
            (at_set views pass k w u e)),
      ),
      refl,
    )

-- which view a seat has, after seat `at` was given to `pass`, or ended
abbrev pub seat_given : (ℕ → Option ℕ) → ℕ → Option ℕ → ℕ → Option ℕ
seat_given holder at pass s = cond (s == at) pass (holder s)

pub seat_given-here : (holder : ℕ → Option ℕ) (at : ℕ) (pass : Option ℕ) → seat_given holder at pass at ≡ pass
seat_given-here holder at pass = rw (eq-eqb at at refl) refl

pub seat_given-else : (holder : ℕ → Option ℕ) (at : ℕ) (pass : Option ℕ) (s : ℕ) → s ≢ at → seat_given holder at pass s ≡ holder s
seat_given-else holder at pass s n = rw (ne_eqb s at n) refl

-- what is in a list that is one longer
pub at_end : {A : Type 0} (l : List A) (a b : A) (j : ℕ) → get_elem? (l ++ a ∷ []) j ≡ some b → ((get_elem? l j ≡ some b) × (j < length l))
    ⊎ ((j ≡ length l) × (a ≡ b))
at_end [] a b zero e = inr (refl, some-injective a b e)
at_end [] a b (suc j) e = absurd (some-ne-none b (sym e))
at_end (x ∷ xs) a b zero e = inl (e, omega arith)
at_end (x ∷ xs) a b (suc j) e = ⊎_elim (λ t. inl (t.0, (let l = t.1 in omega (arith, l)))) (λ t. inr (ap suc t.0, t.1)) (at_end xs a b j e)

-- each view of a list in which one was replaced and one is appended: those two, and each other one
each_forked : (Q : ℕ → QueueView → Type 0) (views : List QueueView) (pass : ℕ) (w new : QueueView) → Q pass w → Q (length (set views pass w)) new
    → ((k : ℕ) (u : QueueView) → k ≢ pass → get_elem? views k ≡ some u → Q k u) → (k : ℕ) (u : QueueView) → get_elem? (set views pass w ++ new ∷ []) k ≡ some u
    → Q k u
each_forked Q views pass w new changed added others k u e =
    ⊎_elim
    (λ p. ⊎_elim
    (λ t. subst (λ (z : QueueView). Q k z) t.1 (subst (λ (j : ℕ). Q j w) (sym t.0) changed))
    (λ t. others k u t.0 t.1)
    (at_set views pass k w u p.0))
    (λ t. subst (λ (z : QueueView). Q k z) t.1 (subst (λ (j : ℕ). Q j new) (sym t.0) added))
    (at_end (set views pass w) new u k e)

-- the same jobs, if seats have other views: each view has to fit
reheld : (items : List Entry) (views views' : List QueueView) (b : Balanced items views) (holder' : ℕ → Option ℕ)
    → ((k : ℕ) (u : QueueView) → get_elem? views' k ≡ some u → FitsSeat holder' b.2 k u × FitsClerk b.0 holder' b.2 b.3 k u) → Balanced items views'
reheld items views views' b holder' fits = (b.0, holder', b.2, b.3, b.4, b.5, fits)

-- a new seat
pub seats : (pass : ℕ) (v : QueueView) → v.takes ≡ true → v.submits ≡ false → Forks Balanced pass v (one_more v) (new_seat v)
seats pass v may not items views b at =
    let w = one_more v in
    let here = length (set views pass w) in
    let holder = b.1 in
    let submitted = b.2 in
    let mine = (b.6 pass v at).1 may in
    let holder' = seat_given holder v.made (some here) in
    let fresh = mine.2 v.made (omega arith) in
    let older : (s : ℕ) → s ≢ v.made → holder' s ≡ holder s = λ s n. seat_given-else holder v.made (some here) s n in
    reheld items views (set views pass w ++ new_seat v ∷ []) b holder'
    (each_forked (λ k u. FitsSeat holder' submitted k u × FitsClerk b.0 holder' submitted b.3 k u) views pass w (new_seat v) (
      (λ y. absurd (cc (y, not))),
      (λ y. (
        mine.0,
        mine.1,
        (λ s le. let g = mine.2 s (omega (arith, le)) in (older s (omega (arith, le)) ∙ g.0, g.1)),
        ended-on holder holder' submitted submitted v.made (v.made + 1) v.ended (omega arith) (λ s l free. (older s (omega (arith, l)) ∙ free, refl)) mine.3,
      )),
    )
    ((λ y. (seat_given-here holder v.made (some here), sym fresh.1)), (λ y. absurd (cc y)))
    (λ k u apart is. let f = b.6 k u is in (
      (λ y. (older u.seat (λ same. some-ne-none k (sym ((f.0 y).0) ∙ (ap holder same ∙ fresh.0))) ∙ (f.0 y).0, (f.0 y).1)),
      (λ y. absurd (apart ((f.1 y).0 ∙ sym mine.0))),
    )))

-- a seat's right to submit goes to a new view
pub resigns : (pass : ℕ) (v : QueueView) → v.submits ≡ true → v.takes ≡ false → Forks Balanced pass v (retired v) v
resigns pass v may not items views b at =
    let w = retired v in
    let here = length (set views pass w) in
    let holder = b.1 in
    let submitted = b.2 in
    let mine = (b.6 pass v at).0 may in
    let holder' = seat_given holder v.seat (some here) in
    let other : (s : ℕ) → holder s ≡ none → holder' s ≡ none =
    λ s free. seat_given-else holder v.seat (some here) s (λ same. some-ne-none pass (sym mine.0 ∙ (ap holder (sym same) ∙ free))) ∙ free in
    reheld items views (set views pass w ++ v ∷ []) b holder'
    (each_forked (λ k u. FitsSeat holder' submitted k u × FitsClerk b.0 holder' submitted b.3 k u) views pass w v
    ((λ y. absurd (cc y)), (λ y. absurd (cc (y, not))))
    ((λ y. (seat_given-here holder v.seat (some here), mine.1)), (λ y. absurd (cc (y, not))))
    (λ k u apart is. let f = b.6 k u is in (
      (λ y. (
        seat_given-else holder v.seat (some here) u.seat (λ same. apart (some-injective k pass (sym ((f.0 y).0) ∙ (ap holder same ∙ mine.0))))
            ∙ (f.0 y).0,
        (f.0 y).1,
      )),
      (λ y. (
        (f.1 y).0,
        (f.1 y).1,
        (λ s le. let g = (f.1 y).2 s le in (other s g.0, g.1)),
        ended-on holder holder' submitted submitted u.made u.made u.ended (omega arith) (λ s l free. (other s free, refl)) (f.1 y).3,
      )),
    )))

-- the clerk takes over a seat
pub takes_in : (pass : ℕ) (v : QueueView) (other : ℕ) (w : QueueView) → v.takes ≡ true → v.submits ≡ false → w.submits ≡ true → w.takes ≡ false
    → Merges Balanced pass v other w (took_in v w) spent
takes_in pass v other w may not theirs quiet items views b at apart its =
    let both = took_in v w in
    let holder = b.1 in
    let submitted = b.2 in
    let taken = b.3 in
    let mine = (b.6 pass v at).1 may in
    let it : get_elem? views other ≡ some w = sym (set_else views pass other both apart) ∙ its in
    let seat = (b.6 other w it).0 theirs in
    let holder' = seat_given holder w.seat none in
    let freed : (s : ℕ) → holder s ≡ none → holder' s ≡ none = λ s free. stays-none (s == w.seat) (holder s) free in
    let within : w.seat < v.made = lt_of_not-le (λ le. some-ne-none other (sym seat.0 ∙ (mine.2 w.seat (omega (arith, le))).0)) in (
      b.0,
      holder',
      submitted,
      taken,
      b.4,
      b.5,
      (λ k u e. ⊎_elim
          (λ t. subst (λ (z : QueueView). FitsSeat holder' submitted k z × FitsClerk b.0 holder' submitted taken k z) t.1
          ((λ y. absurd (cc y)), (λ y. absurd (cc y))))
          (λ p. ⊎_elim
          (λ t. subst (λ (z : QueueView). FitsSeat holder' submitted k z × FitsClerk b.0 holder' submitted taken k z) t.1 (
            (λ y. absurd (cc (y, not))),
            (λ y. (
              t.0 ∙ mine.0,
              mine.1,
              (λ s le. let g = mine.2 s le in (freed s g.0, g.1)),
              (
                (within, seat_given-here holder w.seat none, sym seat.1),
                ended-on holder holder' submitted submitted v.made v.made v.ended (omega arith) (λ s l free. (freed s free, refl)) mine.3,
              ),
            )),
          ))
          (λ t. let f = b.6 k u t.1 in (
            (λ y. (
              seat_given-else holder w.seat none u.seat (λ same. p.0 (some-injective k other (sym ((f.0 y).0) ∙ (ap holder same ∙ seat.0))))
                  ∙ (f.0 y).0,
              (f.0 y).1,
            )),
            (λ y. absurd (t.0 ((f.1 y).0 ∙ sym mine.0))),
          ))
          (at_set views pass k both u p.1))
          (at_set (set views pass both) other k spent u e)),
    )
  where
    stays-none : (c : Bool) (h : Option ℕ) → h ≡ none → cond c none h ≡ none
    stays-none true h e = refl
    stays-none false h e = e

-- what a push implies for the queue
pub full : (pass : ℕ) (v : QueueView) → v.submits ≡ true → Learns Balanced pass v (IsQueued v)
full pass v may items views b at = (b.3, b.4 v.seat ∙ sym ((b.6 pass v at).0 may).1)

-- what a pop implies for the queue
pub waits : (pass : ℕ) (v : QueueView) → v.takes ≡ true → Learns Balanced pass v (Waiting v)
waits pass v may items views b at = let mine = (b.6 pass v at).1 may in
    go b.1 b.2 v.made v.ended (v.taken ++ items) (λ s. ap (λ z. jobs_of s (z ++ items)) mine.1 ∙ b.4 s) b.5 mine.3
  where
    go : (holder : ℕ → Option ℕ) (submitted : ℕ → List Entry) (made : ℕ) (ks : List EndedSeat) (all : List Entry) → ((s : ℕ) → jobs_of s all ≡ submitted s)
        → ((s : ℕ) → CountUp 1 (submitted s)) → AreEnded holder submitted made ks → AreWhole ks all
    go holder submitted made [] all same counts h = tt
    go holder submitted made (k ∷ ks) all same counts h =
        ((same k.seat ∙ h.0.2, subst (CountUp 1) h.0.2 (counts k.seat)), go holder submitted made ks all same counts h.1)

pub empty : Balanced [] (first_view ∷ [])
empty = (0, (λ s. none), (λ s. []), [], (λ s. refl), (λ s. tt), first)
  where
    first : (pass : ℕ) (v : QueueView) → get_elem? (first_view ∷ []) pass ≡ some v → FitsSeat (λ s. none) (λ s. []) pass v
        × FitsClerk 0 (λ s. none) (λ s. []) [] pass v
    first zero v e =
        subst (λ (z : QueueView). FitsSeat (λ s. none) (λ s. []) 0 z × FitsClerk 0 (λ s. none) (λ s. []) [] 0 z) (some-injective _ _ e)
        ((λ y. absurd (cc y)), (λ y. (refl, refl, (λ s le. (refl, refl)), tt)))
    first (suc k) v e = absurd (some-ne-none v (sym e))
