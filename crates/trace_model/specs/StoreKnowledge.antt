-- What a store knows: lists of entries, what is in them, and by which it refused a batch.
use Rattle.std.specs.Prelude.{◌≡◌, ℕ, ◌+◌, List, ◌∷◌, ◌++◌, length, Some, Result, Ok, Err}
use Rattle.jaeger_model.specs.declared.batch.Batch.{Batch}
use Rattle.trace_model.specs.declared.entry.Entry.{Entry}
use Rattle.trace_model.specs.declared.entry.Work.TheVariants as brings
use Rattle.trace_model.specs.declared.limits.Limits.{Limits}
use Rattle.trace_model.specs.declared.query.Query.{Query}
use Rattle.trace_model.specs.declared.answer.Answer.{Answer}
use Rattle.trace_model.specs.declared.refusal.Refusal.{Refusal}
use Rattle.trace_model.specs.declared.refusal.Refusal.TheVariants.{JournalFull, Stale, NoMemory, Deferred, Busy}
use Rattle.trace_model.specs.declared.refusal.Refusal.TheVariants.{Closed, Stranger, NoReply, Behind, Conflict, Gone}
use Rattle.trace_model.specs.Histories.{IsLegal}
use Rattle.trace_model.specs.Refusals.{refusal_of}
use Rattle.trace_model.specs.Answers.{answer}

abbrev pub History : Type 0
History = List Entry

-- short is a prefix of long, or all of it
abbrev pub IsPrefixOf : History → History → Type 0
IsPrefixOf short long = (more : History) × (long ≡ short ++ more)

-- the entry at this place, counted from 1, has the batch
pub record HasAt (h : History) (place : ℕ) (batch : Batch) : Type 0 where
  pub before : History
  pub entry : Entry
  pub after : History
  pub whole : h ≡ before ++ entry ∷ after
  pub work_is : entry.work ≡ brings.Batch batch
  pub place_is : place ≡ length before + 1

-- What a store can know: that its history has reached this list; or that this list refused the batch for this reason, in
-- a sense that each store defines.
pub data KnownList : Type 0 where
  reached : History → KnownList
  refused : Batch → Refusal → History → KnownList

-- the lists that the store knows
abbrev pub lists_of : {S : Type 0} → (S → KnownList → Type 0) → S → History → Type 0
lists_of knows s h = knows s (reached h)

-- what is known stays known, under the same limits
pub record ForgetsNothing {S : Type 0} (limits : S → Limits) (knows : S → KnownList → Type 0) (s t : S) : Type 0 where
  pub same_limits : limits t ≡ limits s
  pub knowledge : (it : KnownList) → knows s it → knows t it

-- a legal list that has the batch at its place is known
pub record Places {S : Type 0} (limits : S → Limits) (knows : S → KnownList → Type 0) (batch : Batch) (place : ℕ) (t : S) : Type 0 where
  pub history : History
  pub legal : IsLegal (limits t) history
  pub has : HasAt history place batch
  pub known : knows t (reached history)

-- the answer is the plain store's for a legal list, which is known then and starts with every list known before
pub record AnswersAt {S : Type 0} (limits : S → Limits) (knows : S → KnownList → Type 0) (s : S) (q : Query) (a : Answer) (t : S) : Type 0 where
  pub history : History
  pub legal : IsLegal (limits t) history
  pub behind : (h : History) → knows s (reached h) → IsPrefixOf h history
  pub answer_is : a ≡ answer (limits t) history q
  pub known : knows t (reached history)

-- the list refuses an entry with the batch for this reason
abbrev pub RefusesBatch : Limits → History → Batch → Refusal → Type 0
RefusesBatch limits h batch why = (e : Entry) × (e.work ≡ brings.Batch batch) × (refusal_of limits h e ≡ Some why)

-- if a list is the reason of the refusal, one is known that refused the batch for it
abbrev pub KnowsRefusal : {S : Type 0} → (S → KnownList → Type 0) → Batch → Refusal → S → Type 0
KnowsRefusal knows b (JournalFull batches spans) t = (h : History) × knows t (refused b (JournalFull batches spans) h)
KnowsRefusal knows b (Stale last) t = (h : History) × knows t (refused b (Stale last) h)
KnowsRefusal knows b (Conflict place) t = (h : History) × knows t (refused b (Conflict place) h)
KnowsRefusal knows b NoMemory t = Unit {0}
KnowsRefusal knows b Deferred t = Unit {0}
KnowsRefusal knows b Busy t = Unit {0}
KnowsRefusal knows b Closed t = Unit {0}
KnowsRefusal knows b Stranger t = Unit {0}
KnowsRefusal knows b NoReply t = Unit {0}
KnowsRefusal knows b Gone t = Unit {0}
KnowsRefusal knows b (Behind front) t = Unit {0}

abbrev pub SubmitKnows : {S : Type 0} → (S → Limits) → (S → KnownList → Type 0) → S → Batch → Result ℕ Refusal → S → Type 0
SubmitKnows limits knows s b (Ok place) t = ForgetsNothing limits knows s t × Places limits knows b place t
SubmitKnows limits knows s b (Err why) t = ForgetsNothing limits knows s t × KnowsRefusal knows b why t

abbrev pub ReadKnows : {S : Type 0} → (S → Limits) → (S → KnownList → Type 0) → S → Query → Result Answer Refusal → S → Type 0
ReadKnows limits knows s q (Ok a) t = ForgetsNothing limits knows s t × AnswersAt limits knows s q a t
ReadKnows limits knows s q (Err _) t = ForgetsNothing limits knows s t
