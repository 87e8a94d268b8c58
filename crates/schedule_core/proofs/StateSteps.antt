-- The machine over two copies makes the steps of the machine.
use Rattle.std.proofs.Common.{◌≡◌, ℕ, suc, ◌+◌, ◌<◌, ◌≤◌, Bool, true, false, List, [], ◌∷◌, ◌++◌, length, map, take, Option, Some, None, inl, inr, refl, sym}
use Rattle.std.proofs.Common.{ap, ◌∙◌, subst, append_assoc, append-nil, arith}
use Rattle.std.specs.Prelude.{cond, get_or, not, if◌then◌else◌, nat_lt, option_map, IfSome, Result, Ok, Err, replicate, slice_index, slice_get, slice_set}
use Rattle.std.specs.List.{All, position, position_or_len}
use Rattle.std.specs.Option.{option_map_or}
use Rattle.std.proofs.lemmas.Bool.{ltb-false, lt-leb, lt-ltb, false≢true}
use Rattle.std.proofs.lemmas.List.{take-append-le, length-append, length-map, map-set}
use Rattle.std.proofs.lemmas.List.Elements.{All-nil, All-replicate, All-cons, All-head, All-tail, All-push, All-set, All-weaker, All-from_get_or}
use Rattle.std.proofs.lemmas.List.Sums.{fails_before_first}
use Rattle.std.proofs.lemmas.List.Recursion.{is_position_or_len}
use Rattle.trace_model.specs.declared.admission.Admission.{Admission}
use Rattle.trace_model.specs.declared.admission.Admission.TheVariants.{Added, Resent}
use Rattle.trace_model.specs.declared.entry.Entry.{Entry}
use Rattle.trace_model.specs.declared.entry.Work.{Work}
use Rattle.trace_model.specs.declared.limits.Limits.{Limits}
use Rattle.trace_model.specs.declared.refusal.Refusal.{Refusal}
use Rattle.trace_model.specs.declared.refusal.Refusal.TheVariants.{JournalFull, Stale, Conflict}
use Rattle.trace_model.specs.EntryWork.{same_work}
use Rattle.trace_model.specs.Histories.{last_number, span_count}
use Rattle.trace_model.specs.ResentBatches.{sent_before}
use Rattle.trace_model.specs.Refusals.{has_room, repeated, admitted_anew, admission}
use Rattle.trace_model.proofs.Admissions.{admission_repeated, admission_anew}
use Rattle.schedule_core.specs.declared.outcome.Outcome.{Outcome}
use Rattle.schedule_core.specs.declared.outcome.Outcome.TheVariants.{Held, Published}
use Rattle.schedule_core.specs.declared.readers.Inside.{Inside}
use Rattle.schedule_core.specs.declared.readers.ReaderState.{ReaderState}
use Rattle.schedule_core.specs.Machine.{Machine, Reader, Stepped, Visit, drops, outcome_by, judged_job, takes_by, takes, holds, published, publishes}
use Rattle.schedule_core.specs.Machine.{publishes_by, with_reader}
use Rattle.schedule_core.specs.JobNumbers.{IsNumbered}
use Rattle.schedule_core.specs.CopiedLists.{Copied, after_admission, swapped, with_pending}
use Rattle.schedule_core.specs.WaitingJobs.{Queued, number_after, next_number, queued}
use Rattle.schedule_core.specs.ReaderStates.{is_held, visit_at, reader_at, Visits, Stands}
use Rattle.schedule_core.specs.MachineStates.{IsState, Verdict, machine_of, verdict}
use Rattle.schedule_core.proofs.JobNumbers.{numbered_put, numbered_taken, numbered_dropped, numbered_above}

-- ---- jobs

-- a next number follows a last one
pub follows_last : (last : Option ℕ) (n : ℕ) → number_after last ≡ Some n → (k : ℕ) × (last ≡ Some k) × (n ≡ k + 1)
follows_last None n e = absurd cc
follows_last (Some k) n e =
    elim (nat_lt k 18446744073709551615) as (λ b. (if b then Some (k + 1) else None) ≡ Some n → (j : ℕ) × (Some k ≡ Some j) × (n ≡ j + 1)) [
      | true ↦ λ e. (k, refl, cc)
      | false ↦ λ e. absurd cc
    ] e

pub state_put : (c : Copied) (q : Queued) (fronts : List ℕ) (places : List ReaderState) (seat : ℕ) (work : Work) (number : ℕ)
    → IsState c q fronts places → next_number q.numbers seat ≡ Some number → IsState c (queued q seat work (Some number)) fronts places
state_put c q fronts places seat work number s e =
    let last = follows_last (slice_get q.numbers seat) number e in
    let job : Entry = record { seat = seat; number = number; work = work } in
    record {
      numbered = subst (λ n. IsNumbered (c.history ++ c.pending) (q.waiting ++ job ∷ []) (slice_set q.numbers seat n)) (sym last.2)
          (numbered_put (c.history ++ c.pending) q.waiting q.numbers job last.0 s.numbered last.1 last.2);
      within = s.within;
      standing = s.standing;
    }

pub state_submitted : (c : Copied) (q : Queued) (fronts : List ℕ) (places : List ReaderState) (seat : ℕ) (work : Work) (n : Option ℕ) (now : Queued)
    → IsState c q fronts places → n ≡ next_number q.numbers seat → now ≡ queued q seat work n → IsState c now fronts places
state_submitted c q fronts places seat work None now s e is = subst (λ x. IsState c x fronts places) (sym is) s
state_submitted c q fronts places seat work (Some n) now s e is =
    subst (λ x. IsState c x fronts places) (sym is) (state_put c q fronts places seat work n s (sym e))

pub state_taken : (c : Copied) (q : Queued) (fronts : List ℕ) (places : List ReaderState) (e : Entry)
    → IsState c (record q { waiting = e ∷ q.waiting }) fronts places → IsState (with_pending c e) q fronts places
state_taken c q fronts places e s = record {
  numbered = subst (λ a. IsNumbered a q.waiting q.numbers) (append_assoc c.history c.pending (e ∷ []))
      (numbered_taken (c.history ++ c.pending) q.waiting q.numbers e s.numbered);
  within = s.within;
  standing = s.standing;
}

pub state_dropped : (c : Copied) (q : Queued) (fronts : List ℕ) (places : List ReaderState) (e : Entry)
    → IsState c (record q { waiting = e ∷ q.waiting }) fronts places → IsState c q fronts places
state_dropped c q fronts places e s = record {
  numbered = numbered_dropped (c.history ++ c.pending) q.waiting q.numbers e s.numbered;
  within = s.within;
  standing = s.standing;
}

pub state_judged : (c : Copied) (q : Queued) (fronts : List ℕ) (places : List ReaderState) (e : Entry) (answer : Result Admission Refusal)
    → IsState c (record q { waiting = e ∷ q.waiting }) fronts places → IsState (after_admission c e answer) q fronts places
state_judged c q fronts places e (Ok Added) s = state_taken c q fronts places e s
state_judged c q fronts places e (Ok (Resent place)) s = state_dropped c q fronts places e s
state_judged c q fronts places e (Err why) s = state_dropped c q fronts places e s

pub state_after : (c now : Copied) (q next : Queued) (fronts : List ℕ) (places : List ReaderState) (e : Entry) (o : Outcome) (answer : Result Admission Refusal)
    → IsState c q fronts places → q ≡ record next { waiting = e ∷ next.waiting }
    → record { outcome = o; copies = now } ≡ verdict c e answer
    → IsState now next fronts places
state_after c now q next fronts places e o answer s is judged_job =
    subst (λ x. IsState x next fronts places) (sym (ap (λ (v : Verdict). v.copies) judged_job))
    (state_judged c next fronts places e answer (subst (λ x. IsState c x fronts places) is s))

-- ---- a job as the machine takes it

-- the job is judged, and the machine sees what has become of it
abbrev shown : Copied → Queued → List ℕ → List ReaderState → Entry → Result Admission Refusal → Stepped
shown c q fronts places e answer = record { outcome = outcome_by e answer; machine = machine_of (after_admission c e answer) q fronts places }

-- nothing is added for a batch that was sent before
repeat_alike : (c : Copied) (q : Queued) (fronts : List ℕ) (places : List ReaderState) (e : Entry) (before : ℕ)
    → shown c q fronts places e (repeated (c.history ++ c.pending) e before)
    ≡ drops (machine_of c (record q { waiting = e ∷ q.waiting }) fronts places) q.waiting (outcome_by e (repeated (c.history ++ c.pending) e before))
repeat_alike c q fronts places e before =
    elim (same_work e.work (get_or (c.history ++ c.pending) before e).work)
    as (λ b. shown c q fronts places e (if b then Ok (Resent (suc before)) else Err (Conflict (suc before)))
    ≡ drops (machine_of c (record q { waiting = e ∷ q.waiting }) fronts places) q.waiting
    (outcome_by e (if b then Ok (Resent (suc before)) else Err (Conflict (suc before))))) [
      | true ↦ refl
      | false ↦ refl
    ]

-- a number above those of its seat is not stale
above_anew : (limits : Limits) (h : List Entry) (e : Entry) → last_number e.seat h < e.number
    → admitted_anew limits h e ≡ (if has_room limits h e then Ok Added else Err (JournalFull (length h) (span_count h)))
above_anew limits h e above =
    ap (λ b. if b then Err (Stale (last_number e.seat h)) else if has_room limits h e then Ok Added else Err (JournalFull (length h) (span_count h)))
    (lt-leb e.number (last_number e.seat h) above)

anew_alike : (c : Copied) (q : Queued) (fronts : List ℕ) (places : List ReaderState) (e : Entry) → last_number e.seat (c.history ++ c.pending) < e.number
    → shown c q fronts places e (admitted_anew c.limits (c.history ++ c.pending) e)
    ≡ judged_job (machine_of c (record q { waiting = e ∷ q.waiting }) fronts places) e q.waiting (has_room c.limits (c.history ++ c.pending) e)
anew_alike c q fronts places e above =
    let h = c.history ++ c.pending in
    ap (λ answer. shown c q fronts places e answer) (above_anew c.limits h e above)
    ∙ elim (has_room c.limits h e) as (λ b. shown c q fronts places e (if b then Ok Added else Err (JournalFull (length h) (span_count h)))
    ≡ judged_job (machine_of c (record q { waiting = e ∷ q.waiting }) fronts places) e q.waiting b) [
      | true ↦ refl
      | false ↦ refl
    ]

judged_alike : (c : Copied) (q : Queued) (fronts : List ℕ) (places : List ReaderState) (e : Entry) (o : Option ℕ) → sent_before (c.history ++ c.pending) e ≡ o
    → last_number e.seat (c.history ++ c.pending) < e.number
    → shown c q fronts places e (admission c.limits (c.history ++ c.pending) e)
    ≡ takes_by (machine_of c (record q { waiting = e ∷ q.waiting }) fronts places) e q.waiting o
judged_alike c q fronts places e None at above =
    ap (λ answer. shown c q fronts places e answer) (admission_anew c.limits (c.history ++ c.pending) e at) ∙ anew_alike c q fronts places e above
judged_alike c q fronts places e (Some before) at above =
    ap (λ answer. shown c q fronts places e answer) (admission_repeated c.limits (c.history ++ c.pending) e before at)
    ∙ repeat_alike c q fronts places e before

-- its number is above those of its seat
front_above : (c : Copied) (q : Queued) (fronts : List ℕ) (places : List ReaderState) (e : Entry)
    → IsState c (record q { waiting = e ∷ q.waiting }) fronts places → last_number e.seat (c.history ++ c.pending) < e.number
front_above c q fronts places e s = numbered_above (c.history ++ c.pending) q.waiting q.numbers e s.numbered

pub taken_alike : (c now : Copied) (q next : Queued) (fronts : List ℕ) (places : List ReaderState) (e : Entry) (o : Outcome)
    → IsState c q fronts places → q ≡ record next { waiting = e ∷ next.waiting }
    → record { outcome = o; copies = now } ≡ verdict c e (admission c.limits (c.history ++ c.pending) e)
    → record { outcome = o; machine = machine_of now next fronts places } ≡ takes (machine_of c q fronts places) q.waiting
taken_alike c now q next fronts places e o s is judged_job =
    let front = subst (λ x. IsState c x fronts places) is s in
    ap (λ (v : Verdict). record { outcome = v.outcome; machine = machine_of v.copies next fronts places }) judged_job
    ∙ judged_alike c next fronts places e (sent_before (c.history ++ c.pending) e) refl (front_above c next fronts places e front)
    ∙ ap (λ (x : Queued). takes (machine_of c x fronts places) x.waiting) (sym is)

-- ---- readers

pub state_set : (c : Copied) (q : Queued) (fronts : List ℕ) (places : List ReaderState) (r : ℕ) (p : ReaderState)
    → IsState c q fronts places → Stands c.before c.history (length fronts) p → IsState c q fronts (slice_set places r p)
state_set c q fronts places r p s stands = record {
  numbered = s.numbered;
  within = s.within;
  standing = All-set (Stands c.before c.history (length fronts)) places r p stands s.standing;
}

-- the machine sees the place
pub view_set : (c : Copied) (q : Queued) (fronts : List ℕ) (places : List ReaderState) (r : ℕ) (p : ReaderState)
    → machine_of c q fronts (slice_set places r p) ≡ with_reader (machine_of c q fronts places) r (reader_at c.history p)
view_set c q fronts places r p = ap (λ (x : List Reader). record (machine_of c q fronts places) { readers = x }) (map-set (reader_at c.history) places r p)

-- ---- publishes

abbrev pub outside : ReaderState
outside = record { seen = 0; inside = None }

none_at : (b : Bool) (n : ℕ) → cond b (Some n) None ≡ None → b ≡ false
none_at true n e = absurd cc
none_at false n e = refl

-- if no reader is the first one held, none is
pub none_held : (publishes : ℕ) (places : List ReaderState) → position (is_held publishes) places ≡ None → All (λ p. is_held publishes p ≡ false) places
none_held publishes places e =
    let past = ltb-false (position_or_len (is_held publishes) places) (length places) (none_at _ _ e) in
    All-from_get_or (λ p. is_held publishes p ≡ false) places outside (λ i lt. fails_before_first (is_held publishes) places i outside (omega arith))

-- a visit to the history is then one to what was the history
visit_swapped : (before h pending : List Entry) (publishes : ℕ) (o : Option Inside)
    → IfSome o (Visits before h publishes) → option_map_or (λ (v : Inside). nat_lt v.publishes publishes) o false ≡ false
    → IfSome o (Visits h (h ++ pending) (publishes + 1))
visit_swapped before h pending publishes None s e = tt
visit_swapped before h pending publishes (Some v) s e =
    let stays = take-append-le v.front h pending s.0 in
    let fits : v.front ≤ length (h ++ pending) = omega (arith, length-append h pending, s.0) in
    elim s.1 [
      | inl now ↦ (fits, inr (ap (λ n. n + 1) now.0, stays ∙ now.1))
      | inr late ↦ absurd (false≢true (sym e ∙ lt-ltb v.publishes publishes (omega (arith, late.0))))
    ]

stands_swapped : (before h pending : List Entry) (publishes : ℕ) (p : ReaderState)
    → Stands before h publishes p → is_held publishes p ≡ false → Stands h (h ++ pending) (publishes + 1) p
stands_swapped before h pending publishes p s e = (omega (arith, length-append h pending, s.0), visit_swapped before h pending publishes p.inside s.1 e)

-- a visit to the history stays one, whatever the other copy holds
visit_kept : (before other h : List Entry) (publishes : ℕ) (o : Option Inside)
    → IfSome o (Visits before h publishes) → option_map_or (λ (v : Inside). nat_lt v.publishes publishes) o false ≡ false
    → IfSome o (Visits other h publishes)
visit_kept before other h publishes None s e = tt
visit_kept before other h publishes (Some v) s e = elim s.1 [
  | inl now ↦ (s.0, inl now)
  | inr late ↦ absurd (false≢true (sym e ∙ lt-ltb v.publishes publishes (omega (arith, late.0))))
]

both : {X : Type 0} (P Q R : X → Type 0) (f : (x : X) → P x → Q x → R x) (xs : List X) → All P xs → All Q xs → All R xs
both P Q R f [] p q = All-nil R
both P Q R f (x ∷ xs) p q =
    All-cons R x xs (f x (All-head P x xs p) (All-head Q x xs q)) (both P Q R f xs (All-tail P x xs p) (All-tail Q x xs q))

pub state_kept : (c : Copied) (other : List Entry) (q : Queued) (fronts : List ℕ) (places : List ReaderState)
    → IsState c q fronts places → position (is_held (length fronts)) places ≡ None → IsState (record c { before = other }) q fronts places
state_kept c other q fronts places s e = record {
  numbered = s.numbered;
  within = s.within;
  standing = both (Stands c.before c.history (length fronts)) (λ p. is_held (length fronts) p ≡ false) (Stands other c.history (length fronts))
      (λ p stands free. (stands.0, visit_kept c.before other c.history (length fronts) p.inside stands.1 free)) places s.standing
      (none_held (length fronts) places e);
}

pub state_published : (c : Copied) (q : Queued) (fronts : List ℕ) (places : List ReaderState)
    → IsState c q fronts places → position (is_held (length fronts)) places ≡ None
    → IsState (swapped c) q (fronts ++ length (swapped c).history ∷ []) places
state_published c q fronts places s e =
    let now = swapped c in
    record {
      numbered = subst (λ a. IsNumbered a q.waiting q.numbers) (sym (append-nil (c.history ++ c.pending))) s.numbered;
      within = All-push (λ f. f ≤ length now.history) fronts (length now.history)
          (All-weaker (λ f. f ≤ length c.history) (λ f. f ≤ length now.history) (λ f le. omega (arith, length-append c.history c.pending, le)) fronts s.within)
          (omega arith);
      standing = subst (λ n. All (Stands c.history now.history n) places) (sym (length-append fronts (length now.history ∷ [])))
          (both (Stands c.before c.history (length fronts)) (λ p. is_held (length fronts) p ≡ false) (Stands c.history now.history (length fronts + 1))
          (stands_swapped c.before c.history c.pending (length fronts)) places s.standing (none_held (length fronts) places e));
    }

-- ---- what the machine sees of the readers

abbrev pub visit_of : List Entry → ℕ → Visit
visit_of list publishes = record { list = list; publishes = publishes }

abbrev pub reader_of : List Entry → Option Visit → Reader
reader_of seen inside = record { seen = seen; inside = inside }

visit_same : (before h pending : List Entry) (publishes : ℕ) (o : Option Inside) → IfSome o (Visits before h publishes)
    → option_map (visit_at (h ++ pending)) o ≡ option_map (visit_at h) o
visit_same before h pending publishes None s = refl
visit_same before h pending publishes (Some v) s =
    ap (λ (x : List Entry). Some (visit_of x v.publishes)) (take-append-le v.front h pending s.0)

reader_same : (before h pending : List Entry) (publishes : ℕ) (p : ReaderState) → Stands before h publishes p → reader_at (h ++ pending) p ≡ reader_at h p
reader_same before h pending publishes p s =
    ap (λ (x : List Entry). reader_of x (option_map (visit_at (h ++ pending)) p.inside)) (take-append-le p.seen h pending s.0)
    ∙ ap (λ (x : Option Visit). reader_of (take p.seen h) x) (visit_same before h pending publishes p.inside s.1)

readers_same : (before h pending : List Entry) (publishes : ℕ) (places : List ReaderState)
    → All (Stands before h publishes) places → map (reader_at (h ++ pending)) places ≡ map (reader_at h) places
readers_same before h pending publishes [] s = refl
readers_same before h pending publishes (p ∷ ps) s =
    let P = Stands before h publishes in
    ap (λ x. x ∷ map (reader_at (h ++ pending)) ps) (reader_same before h pending publishes p (All-head P p ps s))
    ∙ ap (λ xs. reader_at h p ∷ xs) (readers_same before h pending publishes ps (All-tail P p ps s))

pub view_published : (c : Copied) (q : Queued) (fronts : List ℕ) (places : List ReaderState) → IsState c q fronts places
    → machine_of (swapped c) q (fronts ++ length (swapped c).history ∷ []) places ≡ published (machine_of c q fronts places)
view_published c q fronts places s =
    ap (λ (x : List Reader). record (published (machine_of c q fronts places)) { readers = x })
    (readers_same c.before c.history c.pending (length fronts) places s.standing)

held_same : (h : List Entry) (n : ℕ) (o : Option Inside) → option_map_or (λ (v : Inside). nat_lt v.publishes n) o false
    ≡ option_map_or (λ (v : Visit). nat_lt v.publishes n) (option_map (visit_at h) o) false
held_same h n None = refl
held_same h n (Some v) = refl

first_same : (h : List Entry) (n : ℕ) (places : List ReaderState) → position_or_len (holds n) (map (reader_at h) places) ≡ position_or_len (is_held n) places
first_same h n places = is_position_or_len (λ xs. position_or_len (holds n) (map (reader_at h) xs)) (is_held n) refl
    (λ p ps. elim (holds n (reader_at h p)) as (λ b. cond (not b) (1 + position_or_len (holds n) (map (reader_at h) ps)) 0
    ≡ cond b 0 (1 + position_or_len (holds n) (map (reader_at h) ps))) [ true ↦ refl | false ↦ refl ]
    ∙ ap (λ b. cond b 0 (1 + position_or_len (holds n) (map (reader_at h) ps))) (sym (held_same h n p.inside))) places

-- the machine finds the same first reader
pub held_first : (c : Copied) (q : Queued) (fronts : List ℕ) (places : List ReaderState)
    → position (holds (length fronts)) (machine_of c q fronts places).readers ≡ position (is_held (length fronts)) places
held_first c q fronts places =
    ap (λ k. cond (nat_lt k (length (map (reader_at c.history) places))) (Some k) None) (first_same c.history (length fronts) places)
    ∙ ap (λ n. cond (nat_lt (position_or_len (is_held (length fronts)) places) n) (Some (position_or_len (is_held (length fronts)) places)) None)
    (length-map places (reader_at c.history))

-- ---- a publish as the machine makes it

pub held_alike : (c : Copied) (q : Queued) (fronts : List ℕ) (places : List ReaderState) (first : ℕ)
    → position (is_held (length fronts)) places ≡ Some first
    → record { outcome = Held first; machine = machine_of c q fronts places } ≡ publishes (machine_of c q fronts places)
held_alike c q fronts places first e = ap (λ o. publishes_by (machine_of c q fronts places) o) (sym (held_first c q fronts places ∙ e))

abbrev pub after : Outcome → Machine → Stepped
after o m = record { outcome = o; machine = m }

pub published_alike : (c now : Copied) (q : Queued) (fronts fronts_now : List ℕ) (places : List ReaderState) (front : ℕ) → IsState c q fronts places
    → position (is_held (length fronts)) places ≡ None → now ≡ swapped c → front ≡ length now.history → fronts_now ≡ fronts ++ front ∷ []
    → record { outcome = Published front; machine = machine_of now q fronts_now places } ≡ publishes (machine_of c q fronts places)
published_alike c now q fronts fronts_now places front s e is f grown =
    let top = f ∙ ap (λ (k : Copied). length k.history) is in
    ap (λ fs. after (Published front) (machine_of now q fs places)) grown
    ∙ ap (λ k. after (Published front) (machine_of k q (fronts ++ front ∷ []) places)) is
    ∙ ap (λ n. after (Published n) (machine_of (swapped c) q (fronts ++ n ∷ []) places)) top
    ∙ ap (λ m. after (Published (length (c.history ++ c.pending))) m) (view_published c q fronts places s)
    ∙ ap (λ o. publishes_by (machine_of c q fronts places) o) (sym (held_first c q fronts places ∙ e))

pub state_swapped : (c now : Copied) (q : Queued) (fronts fronts_now : List ℕ) (places : List ReaderState) (front : ℕ) → IsState c q fronts places
    → position (is_held (length fronts)) places ≡ None → now ≡ swapped c → front ≡ length now.history → fronts_now ≡ fronts ++ front ∷ []
    → IsState now q fronts_now places
state_swapped c now q fronts fronts_now places front s e is f grown =
    let top = f ∙ ap (λ (k : Copied). length k.history) is in
    subst (λ fs. IsState now q fs places) (sym grown)
    (subst (λ n. IsState now q (fronts ++ n ∷ []) places) (sym top)
    (subst (λ k. IsState k q (fronts ++ length (swapped c).history ∷ []) places) (sym is) (state_published c q fronts places s e)))

-- ---- the first moment

pub state_first : (limits : Limits) (n : ℕ)
    → IsState (record { limits = limits; before = []; history = []; pending = [] }) (record { waiting = []; numbers = replicate n 0 }) [] (replicate n outside)
state_first limits n = record {
  numbered = record { rising = tt; below = All-nil (λ (e : Entry). e.number ≤ slice_index (replicate n 0) e.seat) };
  within = All-nil (λ f. f ≤ 0);
  standing = All-replicate (Stands [] [] 0) n outside (omega arith, tt);
}
