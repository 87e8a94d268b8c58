-- Which batches were sent before, and which entries answer for them.
use Rattle.std.specs.Prelude.{◌≡◌, ◌⊎◌, ℕ, Bool, true, false, ◌&&◌, List, [], ◌∷◌, ◌++◌, Option, position}
use Rattle.std.specs.Option.{is_some}
use Rattle.std.specs.List.{list_any}
use Rattle.jaeger_model.specs.declared.batch.Batch.{Batch}
use Rattle.jaeger_model.specs.Sameness.{same_seq_no, same_process}
use Rattle.trace_model.specs.declared.entry.Entry.{Entry}
use Rattle.trace_model.specs.declared.entry.Work.{Work}
use Rattle.trace_model.specs.declared.entry.Work.TheVariants as brings

-- both have the same number and the same process
abbrev pub is_sent_as : Batch → Batch → Bool
is_sent_as a b = is_some a.seq_no && (same_seq_no a.seq_no b.seq_no && same_process a.process b.process)

-- a limit is never resent
abbrev pub resends : Work → Work → Bool
resends (brings.Batch a) (brings.Batch b) = is_sent_as a b
resends a b = false

-- an entry brings a batch of this one's process and number
abbrev pub is_sent : List Entry → Entry → Bool
is_sent h e = list_any (λ (d : Entry). resends e.work d.work) h

-- the number of entries before that one
abbrev pub sent_before : List Entry → Entry → Option ℕ
sent_before h e = position (λ (d : Entry). resends e.work d.work) h

-- no batch was sent twice, also counting those of `before`
abbrev pub SentOnceAfter : List Entry → List Entry → Type 0
SentOnceAfter before [] = Unit {0}
SentOnceAfter before (e ∷ rest) = (is_sent before e ≡ false) × SentOnceAfter (before ++ e ∷ []) rest

-- an entry answers for another: it is that one, or it brought the same batch, with its number, before
abbrev pub AnswersFor : Entry → Entry → Type 0
AnswersFor d e = (d ≡ e) ⊎ ((resends e.work d.work ≡ true) × (d.work ≡ e.work))
