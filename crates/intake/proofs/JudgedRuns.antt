-- Jobs judged one after the other.
use Rattle.std.proofs.Common.{◌≡◌, Bool, true, false, if◌then◌else◌, List, [], ◌∷◌, ◌++◌, refl, subst, sym, ap, ◌∙◌, append_assoc, Result, Ok, Err}
use Rattle.std.specs.Prelude.{◌&&◌, not}
use Rattle.std.proofs.lemmas.List.{append-nil}
use mathlib.Core.List.{IsPrefix}
use Rattle.trace_model.specs.declared.entry.Entry.{Entry}
use Rattle.trace_model.specs.declared.limits.Limits.{Limits}
use Rattle.trace_model.specs.declared.refusal.Refusal.{Refusal}
use Rattle.trace_model.specs.ResentBatches.{is_sent}
use Rattle.trace_model.proofs.Prefixes.{prefix_trans}
use Rattle.read_side.specs.Keepers.{Lists, admit_call, Answers, accepted}
use Rattle.read_side.proofs.PublishedLists.{grows}
use Rattle.intake.specs.declared.account.Account.{Account}
use Rattle.intake.specs.declared.clerk.Turn.{Turn}
use Rattle.intake.specs.declared.clerk.Turn.TheVariants.{Idle, Served, Ended}
use Rattle.intake.specs.declared.queue.EndedSeat.{EndedSeat}
use Rattle.intake.specs.Turns.{ClerkValue, Accounted, JobId, job_id, ServesJob, turn_state, IfServed, IfNotServed, IfNoJob, WasEmpty, account_of}
use Rattle.intake.specs.Books.{JudgedInTurn, is_accepted, gained_jobs, AllAnswered, RunState, run_state, Ran}
use Rattle.intake.proofs.ClerkAccounts.{accounted-snoc}
use Rattle.intake.proofs.JudgedLists.{judged-accepted, judged-answered}

pub judged-snoc : (limits : Limits) (k : Lists) (js : List Entry) (bs : List Account) (m : Lists) (j : Entry) (a : Account) (end : Lists)
    → JudgedInTurn limits k js bs m → Answers (admit_call limits m j end) a.answer → JudgedInTurn limits k (js ++ j ∷ []) (bs ++ a ∷ []) end
judged-snoc limits k [] [] m j a end r g = (end, subst (λ (z : Lists). Answers (admit_call limits z j end) a.answer) r g, refl)
judged-snoc limits k [] (b ∷ bs) m j a end r g = absurd r
judged-snoc limits k (x ∷ xs) [] m j a end r g = absurd r
judged-snoc limits k (x ∷ xs) (b ∷ bs) m j a end r g = (r.0, r.1, judged-snoc limits r.0 xs bs m j a end r.2 g)

pub all-shown : (limits : Limits) (k : Lists) (js : List Entry) (bs : List Account) (end : Lists) → JudgedInTurn limits k js bs end
    → IsPrefix k.published end.published
all-shown limits k [] [] end r = ([], append-nil k.published ∙ sym (ap (λ (z : Lists). z.published) r))
all-shown limits k [] (b ∷ bs) end r = absurd r
all-shown limits k (j ∷ js) [] end r = absurd r
all-shown limits k (j ∷ js) (b ∷ bs) end r =
    prefix_trans k.published r.0.published end.published (grows limits k j b.answer r.0 r.1) (all-shown limits r.0 js bs end r.2)

pub all-answered : (limits : Limits) (k : Lists) (js : List Entry) (bs : List Account) (end : Lists) → JudgedInTurn limits k js bs end
    → AllAnswered end.published js bs
all-answered limits k [] [] end r = tt
all-answered limits k [] (b ∷ bs) end r = absurd r
all-answered limits k (j ∷ js) [] end r = absurd r
all-answered limits k (j ∷ js) (b ∷ bs) end r =
    (judged-answered limits k j b.answer r.0 end.published r.1 (all-shown limits r.0 js bs end r.2), all-answered limits r.0 js bs end r.2)

-- what is gained if one job is gained or not, and then others
gained-then : (c : Bool) (before after : List Entry) (j : Entry) (js : List Entry) (bs : List Account) → after ≡ before ++ (if c then j ∷ [] else [])
    → after ++ gained_jobs after js bs ≡ before ++ (if c then j ∷ gained_jobs (before ++ j ∷ []) js bs else gained_jobs before js bs)
gained-then true before after j js bs e =
    ap (λ z. z ++ gained_jobs z js bs) e ∙ append_assoc before (j ∷ []) (gained_jobs (before ++ j ∷ []) js bs)
gained-then false before after j js bs e = ap (λ z. z ++ gained_jobs z js bs) (e ∙ append-nil before)

pub all-accepted : (limits : Limits) (k : Lists) (js : List Entry) (bs : List Account) (end : Lists) → JudgedInTurn limits k js bs end
    → accepted end ≡ accepted k ++ gained_jobs (accepted k) js bs
all-accepted limits k [] [] end r = ap accepted r ∙ sym (append-nil (accepted k))
all-accepted limits k [] (b ∷ bs) end r = absurd r
all-accepted limits k (j ∷ js) [] end r = absurd r
all-accepted limits k (j ∷ js) (b ∷ bs) end r =
    all-accepted limits r.0 js bs end r.2
    ∙ gained-then (is_accepted b.answer && not (is_sent (accepted k) j)) (accepted k) (accepted r.0) j js bs (judged-accepted limits k j b.answer r.0 r.1)

-- the books after a run, by what was judged
pub ran : (limits : Limits) (before after : RunState) (js : List Entry) (bs : List Account) → after.taken ≡ before.taken ++ js
    → after.accounts ≡ before.accounts ++ bs → Accounted after.taken after.accounts → JudgedInTurn limits before.lists js bs after.lists
    → Ran limits before after
ran limits before after js bs t a each judged = record {
  jobs = js;
  answers = bs;
  taken_is = t;
  accounts_are = a;
  each = each;
  in_turn = judged;
  gained = all-accepted limits before.lists js bs after.lists judged;
  answered = all-answered limits before.lists js bs after.lists judged;
}

pub ran-start : (limits : Limits) (before : RunState) → Accounted before.taken before.accounts → Ran limits before before
ran-start limits before each = ran limits before before [] [] (sym (append-nil before.taken)) (sym (append-nil before.accounts)) each refl

-- what the clerk has taken, with its accounts and these lists
abbrev pub run_of : ClerkValue → Lists → RunState
run_of c lists = run_state c.taken c.accounts lists

-- one more job was judged
pub ran-served : (limits : Limits) (before : RunState) (c d : ClerkValue) (m end : Lists) (id : JobId) → Ran limits before (run_of c m)
    → ServesJob limits (turn_state c m) (turn_state d end) id → Ran limits before (run_of d end)
ran-served limits before c d m end id h s =
    let j = s.0 in
    let a = account_of j s.1 in
    let t : d.taken ≡ c.taken ++ j ∷ [] = ap (λ (z : ClerkValue). z.taken) s.4 in
    let b : d.accounts ≡ c.accounts ++ a ∷ [] = ap (λ (z : ClerkValue). z.accounts) s.4 in
    let each : Accounted d.taken d.accounts =
    (let P : List Entry → Type 0 = λ z. Accounted z d.accounts in let Q : List Account → Type 0 = λ z. Accounted (c.taken ++ j ∷ []) z in
    subst P (sym t) (subst Q (sym b) (accounted-snoc c.taken c.accounts j a h.each refl refl))) in
    ran limits before (run_of d end) (h.jobs ++ j ∷ []) (h.answers ++ a ∷ [])
    (t ∙ (ap (λ z. z ++ j ∷ []) h.taken_is ∙ append_assoc before.taken h.jobs (j ∷ [])))
    (b ∙ (ap (λ z. z ++ a ∷ []) h.accounts_are ∙ append_assoc before.accounts h.answers (a ∷ [])))
    each
    (judged-snoc limits before.lists h.jobs h.answers m j a end h.in_turn s.5)

pub ran-unchanged : (limits : Limits) (before : RunState) (c d : ClerkValue) (m end : Lists) → Ran limits before (run_of c m) → d ≡ c → end ≡ m
    → Ran limits before (run_of d end) × (d.desk ≡ c.desk) × (d.ended ≡ c.ended)
ran-unchanged limits before c d m end h e k =
    let P : ClerkValue → Type 0 = λ z. Ran limits before (run_of z end) × (z.desk ≡ c.desk) × (z.ended ≡ c.ended) in
    let Q : Lists → Type 0 = λ z. Ran limits before (run_of c z) in
    subst P (sym e) (subst Q (sym k) h, refl, refl)

-- whatever the turn did
pub ran-on : (limits : Limits) (before : RunState) (c d : ClerkValue) (m end : Lists) (r : Result Turn Refusal) → Ran limits before (run_of c m)
    → IfServed r (ServesJob limits (turn_state c m) (turn_state d end)) → IfNotServed r ((d ≡ c) × (end ≡ m))
    → Ran limits before (run_of d end) × (d.desk ≡ c.desk) × (d.ended ≡ c.ended)
ran-on limits before c d m end (Ok (Served seat number)) h s u =
    (ran-served limits before c d m end (job_id seat number) h s, ap (λ (z : ClerkValue). z.desk) s.4, ap (λ (z : ClerkValue). z.ended) s.4)
ran-on limits before c d m end (Ok Idle) h s u = ran-unchanged limits before c d m end h u.0 u.1
ran-on limits before c d m end (Ok Ended) h s u = ran-unchanged limits before c d m end h u.0 u.1
ran-on limits before c d m end (Err why) h s u = ran-unchanged limits before c d m end h u.0 u.1

pub still-empty : (ended ended' : List EndedSeat) (taken taken' : List Entry) → ended' ≡ ended → taken' ≡ taken → WasEmpty ended taken → WasEmpty ended' taken'
still-empty ended ended' taken taken' e t h =
    let P : List EndedSeat → Type 0 = λ z. WasEmpty z taken' in
    let Q : List Entry → Type 0 = λ z. WasEmpty ended z in
    subst P (sym e) (subst Q (sym t) h)

pub no-job-left : (r : Result Turn Refusal) (P : Type 0) → r ≡ Ok Ended → IfNoJob r P → P
no-job-left r P is h = subst (λ (z : Result Turn Refusal). IfNoJob z P) is h
