-- What a store with one owner does, as functions of its entries.
use Rattle.std.specs.Prelude.{◌≡◌, ℕ, ◌⊎◌, Result, Ok, Err}
use Rattle.jaeger_model.specs.declared.batch.Batch.{Batch}
use Rattle.trace_model.specs.declared.admission.Admission.{Admission}
use Rattle.trace_model.specs.declared.query.Query.{Query}
use Rattle.trace_model.specs.declared.answer.Answer.{Answer}
use Rattle.trace_model.specs.declared.refusal.Refusal.{Refusal}
use Rattle.trace_model.specs.declared.refusal.Refusal.TheVariants.{NoMemory}
use Rattle.trace_model.specs.LimitedHistories.{LimitedHistory}
use Rattle.trace_model.specs.Histories.{IsLegal}
use Rattle.trace_model.specs.Refusals.{place_of, with_admitted}
use Rattle.trace_model.specs.Answers.{answer}
use Rattle.arrival_journal.specs.Journals.{admission_by, turned_away_by}
use Rattle.span_store.specs.NextEntry.{next_entry}
use Rattle.trace_model.specs.StoreKnowledge.{KnownList, reached, refused, IsPrefixOf, RefusesBatch}
use Rattle.http_session.specs.Sessions.{Store, store_of}

-- prefixes of the entries, and which of them refuse a batch
abbrev pub DirectKnows : LimitedHistory → KnownList → Type 0
DirectKnows s (reached h) = IsPrefixOf h s.entries
DirectKnows s (refused b why h) = IsPrefixOf h s.entries × RefusesBatch s.limits h b why

-- a batch is accepted if the entries admit it, or have it already: then they don't change, and its place is the old one
abbrev pub DirectSubmits : LimitedHistory → Batch → Result ℕ Refusal → LimitedHistory → Type 0
DirectSubmits s b (Ok place) t =
    (a : Admission) × (admission_by s (next_entry s b) ≡ Ok a) × (place ≡ place_of s.entries a)
    × (t ≡ with_admitted s (next_entry s b) (Ok a)) × IsLegal t.limits t.entries
DirectSubmits s b (Err why) t = (t ≡ s) × ((why ≡ NoMemory) ⊎ (why ≡ turned_away_by s (next_entry s b)))

abbrev pub DirectReads : LimitedHistory → Query → Result Answer Refusal → LimitedHistory → Type 0
DirectReads s q (Ok a) t = (t ≡ s) × (a ≡ answer s.limits s.entries q) × IsLegal s.limits s.entries
DirectReads s q (Err why) t = (t ≡ s) × (why ≡ NoMemory)

-- a store with one owner, as a session sees it
abbrev pub direct_store : Store LimitedHistory
direct_store = store_of DirectSubmits DirectReads DirectKnows (λ s. s.limits)
