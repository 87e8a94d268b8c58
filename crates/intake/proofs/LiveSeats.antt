-- What becomes of the seat in the calls of a store.
use Rattle.std.proofs.Common.{◌≡◌, ℕ, [], ◌∷◌, ⊎_elim, refl, sym, subst, ◌∙◌, Result, Ok, Err}
use Rattle.jaeger_model.specs.declared.batch.Batch.{Batch}
use Rattle.trace_model.specs.declared.entry.Work.TheVariants as brings
use Rattle.trace_model.specs.declared.limits.Limits.{Limits}
use Rattle.trace_model.specs.declared.query.Query.{Query}
use Rattle.trace_model.specs.declared.answer.Answer.{Answer}
use Rattle.trace_model.specs.declared.refusal.Refusal.{Refusal}
use Rattle.trace_model.proofs.Prefixes.{prefix_self, prefix_trans, prefix_append}
use Rattle.intake.specs.Seats.{SeatValue, next_job, with_job}
use Rattle.intake.specs.LiveStores.{LiveValue, SeatGoesOn, SubmitsAs, LiveSubmits, LiveReads}

pub stays : (s : SeatValue) → SeatGoesOn s s
stays s = record { desk_is = refl; seat_is = refl; may_submit_is = refl; more = prefix_self s.jobs }

pub stays_same : (s t : SeatValue) → t ≡ s → SeatGoesOn s t
stays_same s t same = subst (λ (z : SeatValue). SeatGoesOn s z) (sym same) (stays s)

pub goes_further : (s t u : SeatValue) → SeatGoesOn s t → SeatGoesOn t u → SeatGoesOn s u
goes_further s t u a b = record {
  desk_is = b.desk_is ∙ a.desk_is;
  seat_is = b.seat_is ∙ a.seat_is;
  may_submit_is = b.may_submit_is ∙ a.may_submit_is;
  more = prefix_trans s.jobs t.jobs u.jobs a.more b.more;
}

pub goes_by_a_job : (s : SeatValue) (b : Batch) (t : SeatValue) → SubmitsAs s b t → SeatGoesOn s t
goes_by_a_job s b t h =
    let one : SeatGoesOn s (with_job s (next_job s (brings.Batch b))) =
    record { desk_is = refl; seat_is = refl; may_submit_is = refl; more = prefix_append s.jobs (next_job s (brings.Batch b) ∷ []) } in
    subst (λ (z : SeatValue). SeatGoesOn s z) (sym h) one

-- whatever a batch is answered
pub submit_goes_on : (limits : Limits) (s : LiveValue) (b : Batch) (r : Result ℕ Refusal) (t : LiveValue) → LiveSubmits limits s b r t
    → SeatGoesOn s.seat t.seat
submit_goes_on limits s b (Ok place) t d = goes_by_a_job s.seat b t.seat d.1
submit_goes_on limits s b (Err why) t d = ⊎_elim (λ p. stays_same s.seat t.seat p.0) (λ q. goes_by_a_job s.seat b t.seat q.0) d.1

-- whatever a query is answered
pub read_goes_on : (limits : Limits) (s : LiveValue) (q : Query) (r : Result Answer Refusal) (t : LiveValue) → LiveReads limits s q r t
    → SeatGoesOn s.seat t.seat
read_goes_on limits s q (Ok a) t d = stays_same s.seat t.seat d.1
read_goes_on limits s q (Err why) t d = stays_same s.seat t.seat d.1
