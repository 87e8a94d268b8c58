-- The workers' seats, before and after their work, and how they are taken in.
use Rattle.std.proofs.Common.{◌≡◌, ℕ, suc, ◌+◌, ◌<◌, List, [], ◌∷◌, ◌++◌, length, map, get_or, refl, sym, ap, ◌∙◌, arith, append_assoc, subst, true, Some}
use Rattle.std.proofs.Common.{Result, Ok, Err, IfOk}
use Rattle.std.proofs.lemmas.List.{length-map, map-append}
use Rattle.std.specs.List.{All, range_with_len, AllZip}
use Rattle.std.proofs.lemmas.List.Elements.{All-cons, All-pop}
use Rattle.std.proofs.lemmas.List.FromFn.{length-range_with_len}
use Rattle.atomic_table.specs.Seated.{TableId}
use Rattle.trace_model.specs.declared.entry.Entry.{Entry}
use Rattle.trace_model.specs.declared.limits.Limits.{Limits}
use Rattle.intake.specs.declared.books.Books.{Books}
use Rattle.intake.specs.declared.queue.EndedSeat.{EndedSeat}
use Rattle.intake.specs.Seats.{SeatValue}
use Rattle.intake.specs.Books.{AllTaken, HasEnded, desk_jobs, MovesFor, StillEnded, StaysTaken}
use Rattle.intake.specs.LiveStores.{SeatGoesOn}
use Rattle.trace_server.specs.ServerRuns.{ClosesBooks, counts_of}
use Rattle.trace_server.specs.WorkerSeats.{AreNew, AreOpen, HasJudged, MovesJobs, AreSeatsTaken}

-- ---- their work

-- each result is of the argument at its place
pub each_given : {J X : Type 0} (gives : J → X → Type 0) (js : List J) (xs : List X) → length xs ≡ length js
    → ((i : ℕ) (d : X) → i < length js → (j : J) × ((e : J) → get_or js i e ≡ j) × gives j (get_or xs i d)) → AllZip gives js xs
each_given gives [] [] len each = tt
each_given gives [] (x ∷ xs) len each = absurd (omega (arith, len))
each_given gives (j ∷ js) [] len each = absurd (omega (arith, len))
each_given gives (j ∷ js) (x ∷ xs) len each =
    let first = each 0 x (omega arith) in (
      subst (λ z. gives z x) (sym (first.1 j)) first.2,
      each_given gives js xs (omega (arith, len)) (λ i d lt. let next = each (suc i) d (omega (arith, lt)) in (next.0, (λ e. next.1 e), next.2)),
    )

pub go_on : {J X : Type 0} (f : J → SeatValue) (g : X → SeatValue) (js : List J) (xs : List X) → AllZip (λ j x. SeatGoesOn (f j) (g x)) js xs
    → AllZip SeatGoesOn (map f js) (map g xs)
go_on f g [] [] each = tt
go_on f g [] (x ∷ xs) each = absurd each
go_on f g (j ∷ js) [] each = absurd each
go_on f g (j ∷ js) (x ∷ xs) each = (each.0, go_on f g js xs each.1)

pub numbers_stay : (ss ts : List SeatValue) → AllZip SeatGoesOn ss ts → map (λ (s : SeatValue). s.seat) ts ≡ map (λ (s : SeatValue). s.seat) ss
numbers_stay [] [] g = refl
numbers_stay [] (t ∷ ts) g = absurd g
numbers_stay (s ∷ ss) [] g = absurd g
numbers_stay (s ∷ ss) (t ∷ ts) g =
    let rest = numbers_stay ss ts g.1 in
    ap (λ (n : ℕ). n ∷ map (λ (z : SeatValue). z.seat) ts) g.0.seat_is ∙ ap (λ (l : List ℕ). s.seat ∷ l) rest

pub open_still : (desk : TableId) (ss ts : List SeatValue) → AllZip SeatGoesOn ss ts → AreOpen desk ss → AreOpen desk ts
open_still desk [] [] g free = free
open_still desk [] (t ∷ ts) g free = absurd g
open_still desk (s ∷ ss) [] g free = absurd g
open_still desk (s ∷ ss) (t ∷ ts) g free =
    let P : SeatValue → Type 0 = λ z. (z.desk ≡ desk) × (z.may_submit ≡ true) in
    let one : P s = free 0 s (omega arith) in
    let rest : AreOpen desk ss = (λ k d lt. free (suc k) d (omega (arith, lt))) in
    All-cons P t ts (g.0.desk_is ∙ one.0, g.0.may_submit_is ∙ one.1) (open_still desk ss ts g.1 rest)

-- ---- taking them in

abbrev pub IsTakenIn : List EndedSeat → List Entry → SeatValue → Type 0
IsTakenIn ended taken s = HasEnded ended s.seat s.jobs × AllTaken s.seat s.jobs taken

-- some of these seats still wait, and the others were taken in
pub record SomeTakenIn (seats waiting : List SeatValue) (ended : List EndedSeat) (taken : List Entry) : Type 0 where
  pub others : List SeatValue
  pub split : seats ≡ waiting ++ others
  pub each : All (IsTakenIn ended taken) others

pub one_taken_in : (seats waiting fewer : List SeatValue) (s : SeatValue) (ended ended' : List EndedSeat) (taken taken' : List Entry)
    → SomeTakenIn seats waiting ended taken
    → waiting ≡ fewer ++ s ∷ [] → StillEnded ended ended' → StaysTaken ended taken taken' → HasEnded ended' s.seat s.jobs → AllTaken s.seat s.jobs taken'
    → SomeTakenIn seats fewer ended' taken'
one_taken_in seats waiting fewer s ended ended' taken taken' h last still stays here whole = record {
  others = s ∷ h.others;
  split = h.split ∙ (ap (λ z. z ++ h.others) last ∙ append_assoc fewer (s ∷ []) h.others);
  each = All-cons (IsTakenIn ended' taken') s h.others (here, whole)
      (λ k d lt. let t = h.each k d lt in let o = get_or h.others k d in (still o.seat o.jobs t.0, stays o.seat o.jobs t.0 t.1));
}

pub moves_more : (s : ℕ) (js t0 l0 t1 l1 t2 l2 : List Entry) → MovesJobs t0 l0 t1 l1 → MovesFor s js (desk_jobs t1 l1) (desk_jobs t2 l2) → MovesJobs t0 l0 t2 l2
moves_more s js t0 l0 t1 l1 t2 l2 a b = (
  a.0 ++ b.moved,
  b.taken_is ∙ (ap (λ z. z ++ b.moved) a.1 ∙ append_assoc t0 a.0 b.moved),
  b.unjudged_is ∙ (ap (λ z. z ++ b.moved) a.2 ∙ append_assoc l0 a.0 b.moved),
)

pub last_popped : {X : Type 0} (f : X → SeatValue) (old fewer : List X) (x : X) (s : SeatValue) → old ≡ fewer ++ x ∷ [] → s ≡ f x
    → map f old ≡ map f fewer ++ s ∷ []
last_popped f old fewer x s e is = ap (map f) e ∙ (map-append f fewer (x ∷ []) ∙ ap (λ (z : SeatValue). map f fewer ++ z ∷ []) (sym is))

pub last_open : (desk : TableId) (old fewer : List SeatValue) (s : SeatValue) → old ≡ fewer ++ s ∷ [] → AreOpen desk old → AreOpen desk fewer × (s.desk ≡ desk)
    × (s.may_submit ≡ true)
last_open desk old fewer s e free =
    let P : SeatValue → Type 0 = λ z. (z.desk ≡ desk) × (z.may_submit ≡ true) in
    let h = All-pop P old fewer (Some s) e free in
    (h.0, h.1.0, h.1.1)

pub open_at : (here there : TableId) (seats : List SeatValue) → here ≡ there → AreOpen there seats → AreOpen here seats
open_at here there seats is free = subst (λ (d : TableId). AreOpen d seats) (sym is) free

-- new seats
pub as_many : {X : Type 0} (f : X → ℕ) (xs : List X) (n : ℕ) → map f xs ≡ range_with_len 0 n → length xs ≡ n
as_many f xs n e = sym (length-map xs f) ∙ (ap length e ∙ length-range_with_len 0 n)

pub new_open : (desk : TableId) (seats : List SeatValue) → AreNew desk seats → AreOpen desk seats
new_open desk seats each = λ k d lt. let n = each k d lt in (n.0, n.1)

-- ---- the books

pub books_closed : {N : Type 0} (limits : Limits) (books : Books N) (seats : List SeatValue) (before taken left : List Entry) (a r l : ℕ)
    → HasJudged limits books → a ≡ books.acknowledged → r ≡ books.refused → before ≡ [] → MovesJobs books.inbox.taken before taken left
    → AreSeatsTaken taken seats → l ≡ length left
    → ClosesBooks limits books.keeper seats (counts_of a r l)
books_closed limits books seats before taken left a r l h aa rr none moves whole ls = record {
  judged_jobs = books.inbox.taken;
  accounts = books.accounts;
  unjudged_jobs = moves.0;
  ran = h.ran;
  whole = subst (λ z. AreSeatsTaken z seats) moves.1 whole;
  acknowledged_is = aa ∙ h.acknowledged_is;
  refused_is = rr ∙ h.refused_is;
  unanswered_is = ls ∙ ap length (moves.2 ∙ ap (λ z. z ++ moves.0) none);
}

-- ---- what a call gave

pub if_ok_both : {X E : Type 0} (r : Result X E) (P Q S : X → Type 0) → ((x : X) → P x → Q x → S x) → IfOk r P → IfOk r Q → IfOk r S
if_ok_both (Ok x) P Q S both p q = both x p q
if_ok_both (Err e) P Q S both p q = tt
