-- Which jobs of a seat were taken, and what taking over the seat moves.
use Rattle.std.proofs.Common.{◌≡◌, ℕ, ◌+◌, ◌==◌, ◌<◌, ◌≤◌, ◌||◌, Bool, true, false, List, [], ◌∷◌, ◌++◌, length, refl, subst, sym, ap, ◌∙◌, arith}
use Rattle.std.proofs.Common.{append_assoc, length-append, map}
use Rattle.std.specs.List.{list_any}
use Rattle.std.proofs.lemmas.List.{append-nil, map-append}
use Rattle.std.proofs.lemmas.List.Folds.{list_any-append}
use Rattle.std.proofs.lemmas.Bool.Decides.{nat_tests}
use Rattle.trace_model.specs.declared.entry.Entry.{Entry}
use Rattle.intake.specs.declared.account.Account.{Account}
use Rattle.intake.specs.declared.queue.EndedSeat.{EndedSeat}
use Rattle.intake.specs.Queues.{jobs_of, CountUp, AreWhole}
use Rattle.intake.specs.Books.{HasEnded, AllTaken, Balances, is_job, has_job, EachNeeded, DeskJobs, MovesFor, StillEnded, StaysTaken}
use Rattle.intake.proofs.Steps.{jobs_of-append, counted-left}
use Rattle.intake.proofs.EndedSeats.{whole-of, no-more}
use Rattle.trace_model.proofs.NameLaws.{any_filter}

abbrev pub numbered : ℕ → List Entry → Bool
numbered n js = list_any (λ (j : Entry). j.number == n) js

-- a job of the seat is one of the seat's jobs
pub job-of-seat : (s n : ℕ) (js : List Entry) → has_job s n js ≡ numbered n (jobs_of s js)
job-of-seat s n js = sym (any_filter (λ (j : Entry). j.number == n) (λ (j : Entry). j.seat == s) js)

pub counted-within : (k n : ℕ) (js : List Entry) → CountUp k js → numbered n js ≡ true → n < k + length js
counted-within k n [] c h = absurd (cc h)
counted-within k n (j ∷ js) c h = go (j.number == n) refl (λ later. counted-within (k + 1) n js c.1 later)
  where
    go : (b : Bool) → (j.number == n) ≡ b → (numbered n js ≡ true → n < k + 1 + length js) → n < k + length (j ∷ js)
    go true is rest = (let here : j.number ≡ n = grind (arith, nat_tests, is) in let at = c.0 in omega (arith, here, at))
    go false is rest =
        (let later : numbered n js ≡ true = ap (λ z. z || numbered n js) (sym is) ∙ h in
        let r = rest later in omega (arith, r))

pub counted-has : (k n : ℕ) (js : List Entry) → CountUp k js → k ≤ n → n < k + length js → numbered n js ≡ true
counted-has k n [] c le lt = absurd (omega (arith, le, lt))
counted-has k n (j ∷ js) c le lt = go (j.number == n) refl (λ more. counted-has (k + 1) n js c.1 (omega (arith, more)) (omega (arith, lt)))
  where
    go : (b : Bool) → (j.number == n) ≡ b → (k < n → numbered n js ≡ true) → ((j.number == n) || numbered n js) ≡ true
    go true is rest = ap (λ z. z || numbered n js) is
    go false is rest =
        (let at = c.0 in
        let other : k < n = grind (arith, nat_tests, is, at, le) in
        ap (λ z. z || numbered n js) is ∙ rest other)

-- if all jobs of a seat were taken, its last one was
pub last-among : (s : ℕ) (js taken : List Entry) → AllTaken s js taken → 0 < length js → has_job s (length js) taken ≡ true
last-among s js taken a some =
    job-of-seat s (length js) taken ∙ (ap (numbered (length js)) a.0 ∙ counted-has 1 (length js) js a.1 (omega (arith, some)) (omega arith))

pub not-yet : (s n : ℕ) (js taken : List Entry) → n ≡ length js → 0 < n → has_job s n taken ≡ false → AllTaken s js taken → ⊥
not-yet s n js taken is some not a =
    let P : ℕ → Type 0 = λ z. has_job s z taken ≡ false in
    absurd (cc (subst P is not, last-among s js taken a (omega (arith, some, is))))

-- if the last job of an ended seat was taken, all of them were
pub taken-already : (ks : List EndedSeat) (s n : ℕ) (js taken items : List Entry) → HasEnded ks s js → AreWhole ks (taken ++ items) → n ≡ length js
    → ((n == 0) || has_job s n taken) ≡ true → AllTaken s js taken
taken-already ks s n js taken items h w is last = go (n == 0) refl
  where
    whole : (jobs_of s (taken ++ items) ≡ js) × CountUp 1 js
    whole = whole-of ks s js (taken ++ items) h w

    all : jobs_of s taken ++ jobs_of s items ≡ js
    all = sym (jobs_of-append s taken items) ∙ whole.0

    size : length js ≡ length (jobs_of s taken) + length (jobs_of s items)
    size = ap length (sym all) ∙ length-append (jobs_of s taken) (jobs_of s items)

    done : length (jobs_of s items) ≡ 0 → AllTaken s js taken
    done none = (sym (no-more (jobs_of s taken) (jobs_of s items) none) ∙ all, whole.1)

    go : (b : Bool) → (n == 0) ≡ b → AllTaken s js taken
    go true nil = (let none : n ≡ 0 = grind (arith, nat_tests, nil) in done (omega (arith, none, is, size)))
    go false some =
        (let has : numbered n (jobs_of s taken) ≡ true = sym (job-of-seat s n taken) ∙ (ap (λ z. z || has_job s n taken) (sym some) ∙ last) in
        let count : CountUp 1 (jobs_of s taken) = counted-left 1 (jobs_of s taken) (jobs_of s items) (subst (CountUp 1) (sym all) whole.1) in
        let most = counted-within 1 n (jobs_of s taken) count has in
        done (omega (arith, most, is, size)))

-- ---- moving

pub needed-snoc : (s : ℕ) (js taken moved : List Entry) (e : Entry) → EachNeeded s js taken moved → (AllTaken s js (taken ++ moved) → ⊥)
    → EachNeeded s js taken (moved ++ e ∷ [])
needed-snoc s js taken [] e h not = ((λ a. not (subst (AllTaken s js) (sym (append-nil taken)) a)), tt)
needed-snoc s js taken (m ∷ ms) e h not =
    (h.0, needed-snoc s js (taken ++ m ∷ []) ms e h.1 (λ a. not (subst (AllTaken s js) (append_assoc taken (m ∷ []) ms) a)))

-- one more was moved, and the seat's last job was not among those before
pub moves-one : (s n : ℕ) (js : List Entry) (old now next : DeskJobs) (e : Entry) → MovesFor s js old now → n ≡ length js → 0 < n
    → has_job s n now.taken ≡ false → next.taken ≡ now.taken ++ e ∷ [] → next.unjudged ≡ now.unjudged ++ e ∷ [] → MovesFor s js old next
moves-one s n js old now next e m is some not t l = record {
  moved = m.moved ++ e ∷ [];
  taken_is = t ∙ (ap (λ z. z ++ e ∷ []) m.taken_is ∙ append_assoc old.taken m.moved (e ∷ []));
  unjudged_is = l ∙ (ap (λ z. z ++ e ∷ []) m.unjudged_is ∙ append_assoc old.unjudged m.moved (e ∷ []));
  needed = needed-snoc s js old.taken m.moved e m.needed (λ a. not-yet s n js now.taken is some not (subst (AllTaken s js) (sym m.taken_is) a));
}

pub left-more : {X : Type 0} (value : X → Entry) (before reserved after : List X) (x : X) (e : Entry) → after ≡ reserved ++ x ∷ [] → reserved ≡ before
    → value x ≡ e → map value after ≡ map value before ++ e ∷ []
left-more value before reserved after x e a b is =
    ap (map value) (a ∙ ap (λ z. z ++ x ∷ []) b) ∙ (map-append value before (x ∷ []) ∙ ap (λ (z : Entry). map value before ++ z ∷ []) is)

pub balances-more : (taken taken' left left' : List Entry) (accounts : List Account) (e : Entry) → Balances taken accounts left → taken' ≡ taken ++ e ∷ []
    → left' ≡ left ++ e ∷ [] → Balances taken' accounts left'
balances-more taken taken' left left' accounts e b t l = record {
  judged_jobs = b.judged_jobs;
  each = b.each;
  taken_is = t ∙ (ap (λ z. z ++ e ∷ []) b.taken_is ∙ (append_assoc b.judged_jobs left (e ∷ []) ∙ ap (λ z. b.judged_jobs ++ z) (sym l)));
}

-- one more was taken, and it was not the seat's last job
pub still-not : (s n : ℕ) (taken taken' : List Entry) (e : Entry) → has_job s n taken ≡ false → is_job s n e ≡ false → taken' ≡ taken ++ e ∷ []
    → has_job s n taken' ≡ false
still-not s n taken taken' e not other t =
    ap (has_job s n) t ∙ (list_any-append (is_job s n) taken (e ∷ []) ∙ (ap (λ z. z || (is_job s n e || false)) not ∙ ap (λ z. z || false) other))

-- of the seats that had ended nothing more was moved
pub stays : (before ks : List EndedSeat) (s : ℕ) (js : List Entry) (old now : DeskJobs) (items : List Entry) → StillEnded before ks → MovesFor s js old now
    → AreWhole ks (now.taken ++ items) → StaysTaken before old.taken now.taken
stays before ks s js old now items still m w seat jobs ended all =
    let whole = whole-of ks seat jobs (now.taken ++ items) (still seat jobs ended) w in
    let more = jobs_of seat m.moved in
    let here : jobs_of seat now.taken ≡ jobs ++ more =
    ap (jobs_of seat) m.taken_is ∙ (jobs_of-append seat old.taken m.moved ∙ ap (λ z. z ++ more) all.0) in
    let rest : (jobs ++ more) ++ jobs_of seat items ≡ jobs =
    ap (λ z. z ++ jobs_of seat items) (sym here) ∙ (sym (jobs_of-append seat now.taken items) ∙ whole.0) in
    let size : length jobs ≡ length (jobs ++ more) + length (jobs_of seat items) = ap length (sym rest) ∙ length-append (jobs ++ more) (jobs_of seat items) in
    let two : length (jobs ++ more) ≡ length jobs + length more = length-append jobs more in
    (here ∙ no-more jobs more (omega (arith, size, two)), all.1)
