-- The cases of a step: what holds in each of them holds of every step.
use Rattle.std.proofs.Common.{◌≡◌, ℕ, suc, ◌+◌, Bool, true, false, List, [], ◌∷◌, length, take, Option, Some, None, refl}
use Rattle.std.specs.Prelude.{get_or, slice_get, nat_lt, if◌then◌else◌, nat_le, Ok, Err}
use Rattle.std.specs.Option.{option_map_or}
use Rattle.std.specs.List.{position}
use Rattle.jaeger_model.specs.declared.batch.Batch.{Batch}
use Rattle.trace_model.specs.declared.admission.Admission.TheVariants.{Resent}
use Rattle.trace_model.specs.declared.entry.Entry.{Entry}
use Rattle.trace_model.specs.declared.entry.Work.{Work}
use Rattle.trace_model.specs.declared.entry.Work.TheVariants as brings
use Rattle.trace_model.specs.declared.limits.Limits.{Limits}
use Rattle.trace_model.specs.declared.query.Query.{Query}
use Rattle.trace_model.specs.declared.refusal.Refusal.TheVariants.{Conflict}
use Rattle.trace_model.specs.EntryWork.{same_work}
use Rattle.trace_model.specs.ResentBatches.{sent_before}
use Rattle.trace_model.specs.Refusals.{has_room, repeated}
use Rattle.schedule_core.specs.declared.step.Step.{Step}
use Rattle.schedule_core.specs.declared.step.Step.TheVariants as ask
use Rattle.schedule_core.specs.declared.outcome.Outcome.{Outcome}
use Rattle.schedule_core.specs.declared.outcome.Outcome.TheVariants.{Again, Refused, Idle, Published, Held, Left, Inside, Outside, Unknown}
use Rattle.schedule_core.specs.Machine.{Machine, Reader, Visit, Stepped, stays, accepted, with_submitted, puts, full, drops, outcome_by, judged_job}
use Rattle.schedule_core.specs.Machine.{takes_by, takes}
use Rattle.schedule_core.specs.Machine.{holds, published, publishes_by, with_reader, enters, reads, longer, learns_list, learns, leaves, front_of, step}
use Rattle.schedule_core.specs.Runs.{job_of, verdict_of, reported_by, front_in, IsOf}

-- the outcome of the step reports these verdicts, and nothing else
pub record AtMost (s : Step) (o : Outcome) (verdicts : List Bool) : Type 0 where
  pub job : job_of s o ≡ []
  pub verdict : verdict_of s o ≡ verdicts
  pub name : reported_by s o ≡ []
  pub front : front_in o ≡ []
  pub answer : (limits : Limits) (h : List Entry) → IsOf limits h s o

at_most : {s : Step} {o : Outcome} {verdicts : List Bool} → job_of s o ≡ [] → verdict_of s o ≡ verdicts → reported_by s o ≡ [] → front_in o ≡ []
    → ((limits : Limits) (h : List Entry) → IsOf limits h s o)
    → AtMost s o verdicts
at_most job verdict name front answer = record { job = job; verdict = verdict; name = name; front = front; answer = answer }

pub record StepCases (m : Machine) (P : Step → Stepped → Type 0) : Type 0 where
  pub silent : (s : Step) (o : Outcome) → AtMost s o [] → P s (stays m o)
  pub put : (seat : ℕ) (batch : Batch) (last : ℕ) → slice_get m.numbers seat ≡ Some last
      → P (ask.Put seat batch) (with_submitted m seat (brings.Batch batch) (last + 1))
  pub limited : (seat n : ℕ) (last : ℕ) → slice_get m.numbers seat ≡ Some last
      → P (ask.Limit seat n) (with_submitted m seat (brings.TraceLimit n) (last + 1))
  pub taken : (job : Entry) (rest : List Entry) → m.waiting ≡ job ∷ rest → sent_before (accepted m) job ≡ None
      → has_room m.limits (accepted m) job ≡ true
      → P ask.Take (judged_job m job rest true)
  pub dropped : (job : Entry) (rest : List Entry) (o : Outcome) → m.waiting ≡ job ∷ rest → AtMost ask.Take o (false ∷ []) → P ask.Take (drops m rest o)
  pub shown : P ask.Publish (record { outcome = Published (length (accepted m)); machine = published m })
  pub entered : (r : ℕ) (reader : Reader) → slice_get m.readers r ≡ Some reader → P (ask.Enter r) (enters m r None)
  pub answered : (r : ℕ) (query : Query) (reader : Reader) (v : Visit) → slice_get m.readers r ≡ Some reader → reader.inside ≡ Some v
      → P (ask.Read r query) (reads m query (Some v))
  pub learnt : (r k : ℕ) (reader : Reader) (front : ℕ) → slice_get m.readers r ≡ Some reader
      → P (ask.Learn r k) (learns_list m r (longer reader.seen (take front m.history)))
  pub left : (r : ℕ) (reader : Reader) → slice_get m.readers r ≡ Some reader
      → P (ask.Leave r) (record { outcome = Left; machine = with_reader m r (record reader { inside = None }) })

module _ (m : Machine) (P : Step → Stepped → Type 0) (c : StepCases m P) where
  -- ---- jobs
  on_puts : (s : Step) (seat : ℕ) (work : Work) → AtMost s Unknown []
      → ((last : ℕ) → slice_get m.numbers seat ≡ Some last → P s (with_submitted m seat work (last + 1)))
      → (o : Option ℕ) → slice_get m.numbers seat ≡ o → P s (puts m seat work o)
  on_puts s seat work unknown put None e = c.silent s Unknown unknown
  on_puts s seat work unknown put (Some last) e =
      elim (nat_lt last 18446744073709551615) as (λ b. P s (if b then with_submitted m seat work (last + 1) else stays m Unknown)) [
        | true ↦ put last e
        | false ↦ c.silent s Unknown unknown
      ]

  on_limit : (seat n : ℕ) (b : Bool)
      → P (ask.Limit seat n) (if b then puts m seat (brings.TraceLimit n) (slice_get m.numbers seat) else stays m Unknown)
  on_limit seat n false = c.silent (ask.Limit seat n) Unknown (at_most refl refl refl refl (λ l h. tt))
  on_limit seat n true =
      on_puts (ask.Limit seat n) seat (brings.TraceLimit n) (at_most refl refl refl refl (λ l h. tt)) (c.limited seat n) (slice_get m.numbers seat) refl

  on_verdict : (job : Entry) (rest : List Entry) (b : Bool) → m.waiting ≡ job ∷ rest → sent_before (accepted m) job ≡ None
      → has_room m.limits (accepted m) job ≡ b
      → P ask.Take (judged_job m job rest b)
  on_verdict job rest true e unsent room = c.taken job rest e unsent room
  on_verdict job rest false e unsent room = c.dropped job rest (Refused (full m)) e (at_most refl refl refl refl (λ l h. tt))

  -- the job's batch was sent before, with the same spans or with others
  on_repeat : (job : Entry) (rest : List Entry) (before : ℕ) → m.waiting ≡ job ∷ rest
      → P ask.Take (drops m rest (outcome_by job (repeated (accepted m) job before)))
  on_repeat job rest before e =
      elim (same_work job.work (get_or (accepted m) before job).work)
      as (λ b. P ask.Take (drops m rest (outcome_by job (if b then Ok (Resent (suc before)) else Err (Conflict (suc before)))))) [
        | true ↦ c.dropped job rest (Again job.seat job.number (suc before)) e (at_most refl refl refl refl (λ l h. tt))
        | false ↦ c.dropped job rest (Refused (Conflict (suc before))) e (at_most refl refl refl refl (λ l h. tt))
      ]

  on_sent : (job : Entry) (rest : List Entry) (o : Option ℕ) → m.waiting ≡ job ∷ rest → sent_before (accepted m) job ≡ o
      → P ask.Take (takes_by m job rest o)
  on_sent job rest None e unsent = on_verdict job rest (has_room m.limits (accepted m) job) e unsent refl
  on_sent job rest (Some before) e sent = on_repeat job rest before e

  on_take : (w : List Entry) → m.waiting ≡ w → P ask.Take (takes m w)
  on_take [] e = c.silent ask.Take Idle (at_most refl refl refl refl (λ l h. tt))
  on_take (job ∷ rest) e = on_sent job rest (sent_before (accepted m) job) e refl

  -- ---- publishes
  on_publish : (first : Option ℕ) → P ask.Publish (publishes_by m first)
  on_publish None = c.shown
  on_publish (Some first) = c.silent ask.Publish (Held first) (at_most refl refl refl refl (λ l h. tt))

  -- ---- readers
  on_enter_inside : (r : ℕ) (reader : Reader) (i : Option Visit) → slice_get m.readers r ≡ Some reader → P (ask.Enter r) (enters m r i)
  on_enter_inside r reader None e = c.entered r reader e
  on_enter_inside r reader (Some v) e = c.silent (ask.Enter r) Inside (at_most refl refl refl refl (λ l h. tt))

  on_enter : (r : ℕ) (o : Option Reader) → slice_get m.readers r ≡ o
      → P (ask.Enter r) (option_map_or (λ reader. enters m r reader.inside) o (stays m Unknown))
  on_enter r None e = c.silent (ask.Enter r) Unknown (at_most refl refl refl refl (λ l h. tt))
  on_enter r (Some reader) e = on_enter_inside r reader reader.inside e

  on_read_inside : (r : ℕ) (query : Query) (reader : Reader) (i : Option Visit) → slice_get m.readers r ≡ Some reader → reader.inside ≡ i
      → P (ask.Read r query) (reads m query i)
  on_read_inside r query reader None e is = c.silent (ask.Read r query) Outside (at_most refl refl refl refl (λ l h. tt))
  on_read_inside r query reader (Some v) e is = c.answered r query reader v e is

  on_read : (r : ℕ) (query : Query) (o : Option Reader) → slice_get m.readers r ≡ o
      → P (ask.Read r query) (option_map_or (λ reader. reads m query reader.inside) o (stays m Unknown))
  on_read r query None e = c.silent (ask.Read r query) Unknown (at_most refl refl refl refl (λ l h. tt))
  on_read r query (Some reader) e = on_read_inside r query reader reader.inside e refl

  on_learn_inside : (r k : ℕ) (reader : Reader) (front : ℕ) (i : Option Visit) → slice_get m.readers r ≡ Some reader
      → P (ask.Learn r k) (option_map_or (λ v. stays m Inside) i (learns_list m r (longer reader.seen (take front m.history))))
  on_learn_inside r k reader front None e = c.learnt r k reader front e
  on_learn_inside r k reader front (Some v) e = c.silent (ask.Learn r k) Inside (at_most refl refl refl refl (λ l h. tt))

  on_learn_front : (r k : ℕ) (reader : Reader) (o : Option ℕ) → slice_get m.readers r ≡ Some reader
      → P (ask.Learn r k) (option_map_or (learns m r reader) o (stays m Unknown))
  on_learn_front r k reader None e = c.silent (ask.Learn r k) Unknown (at_most refl refl refl refl (λ l h. tt))
  on_learn_front r k reader (Some front) e = on_learn_inside r k reader front reader.inside e

  on_learn : (r k : ℕ) (o : Option Reader) → slice_get m.readers r ≡ o
      → P (ask.Learn r k) (option_map_or (λ reader. option_map_or (learns m r reader) (front_of m k) (stays m Unknown)) o (stays m Unknown))
  on_learn r k None e = c.silent (ask.Learn r k) Unknown (at_most refl refl refl refl (λ l h. tt))
  on_learn r k (Some reader) e = on_learn_front r k reader (front_of m k) e

  on_leave_inside : (r : ℕ) (reader : Reader) (i : Option Visit) → slice_get m.readers r ≡ Some reader
      → P (ask.Leave r) (option_map_or (λ v. record { outcome = Left; machine = with_reader m r (record reader { inside = None }) }) i (stays m Outside))
  on_leave_inside r reader None e = c.silent (ask.Leave r) Outside (at_most refl refl refl refl (λ l h. tt))
  on_leave_inside r reader (Some v) e = c.left r reader e

  on_leave : (r : ℕ) (o : Option Reader) → slice_get m.readers r ≡ o → P (ask.Leave r) (option_map_or (leaves m r) o (stays m Unknown))
  on_leave r None e = c.silent (ask.Leave r) Unknown (at_most refl refl refl refl (λ l h. tt))
  on_leave r (Some reader) e = on_leave_inside r reader reader.inside e

  -- ---- every step
  pub on_step : (s : Step) → P s (step m s)
  on_step (ask.Put seat batch) =
      on_puts (ask.Put seat batch) seat (brings.Batch batch) (at_most refl refl refl refl (λ l h. tt)) (c.put seat batch) (slice_get m.numbers seat) refl
  on_step (ask.Limit seat n) = on_limit seat n (nat_le n 1000000)
  on_step ask.Take = on_take m.waiting refl
  on_step ask.Publish = on_publish (position (holds (length m.fronts)) m.readers)
  on_step (ask.Enter r) = on_enter r (slice_get m.readers r) refl
  on_step (ask.Read r query) = on_read r query (slice_get m.readers r) refl
  on_step (ask.Learn r k) = on_learn r k (slice_get m.readers r) refl
  on_step (ask.Leave r) = on_leave r (slice_get m.readers r) refl
