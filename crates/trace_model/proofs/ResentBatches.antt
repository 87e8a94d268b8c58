-- Batches that were sent as one another, and work that never resends anything.
use Rattle.std.proofs.Common.{◌≡◌, ℕ, true, false, ◌&&◌, List, None, get_or, refl, ap, ◌∙◌}
use Rattle.std.specs.Option.{is_some}
use Rattle.std.proofs.lemmas.Bool.{false≢true, and_parts}
use Rattle.std.proofs.lemmas.List.Folds.{list_any_none}
use Rattle.jaeger_model.specs.declared.batch.Batch.{Batch}
use Rattle.jaeger_model.specs.Sameness.{same_seq_no, same_process}
use Rattle.jaeger_model.specs.SameLaws.{same_seq_no-decides, same_process-decides}
use Rattle.trace_model.specs.declared.entry.Entry.{Entry}
use Rattle.trace_model.specs.declared.entry.Work.{Work}
use Rattle.trace_model.specs.declared.entry.Work.TheVariants as brings
use Rattle.trace_model.specs.ResentBatches.{is_sent_as, resends, sent_before}
use Rattle.trace_model.proofs.Admissions.{sent_nowhere}

pub record IsSentAs (a b : Batch) : Type 0 where
  pub numbered : is_some a.seq_no ≡ true
  pub number : a.seq_no ≡ b.seq_no
  pub process : a.process ≡ b.process

pub sent_as : (a b : Batch) → is_sent_as a b ≡ true → IsSentAs a b
sent_as a b e =
    let first = and_parts (is_some a.seq_no) (same_seq_no a.seq_no b.seq_no && same_process a.process b.process) e in
    let second = and_parts (same_seq_no a.seq_no b.seq_no) (same_process a.process b.process) first.1 in
    record {
      numbered = first.0;
      number = (same_seq_no-decides a.seq_no b.seq_no).0 second.0;
      process = (same_process-decides a.process b.process).0 second.1;
    }

pub as_sent : (a b : Batch) → IsSentAs a b → is_sent_as a b ≡ true
as_sent a b s =
    ap (λ x. x && (same_seq_no a.seq_no b.seq_no && same_process a.process b.process)) s.numbered
    ∙ ap (λ x. x && same_process a.process b.process) ((same_seq_no-decides a.seq_no b.seq_no).1 s.number)
    ∙ (same_process-decides a.process b.process).1 s.process

-- another batch was sent as the one exactly if it was sent as the other
pub alike : (v w : Work) → resends v w ≡ true → (x : Work) → resends v x ≡ resends w x
alike (brings.Batch a) (brings.Batch b) e (brings.Batch c) =
    let o = sent_as a b e in
    ap (λ n. is_some n && (same_seq_no n c.seq_no && same_process a.process c.process)) o.number
    ∙ ap (λ p. is_some b.seq_no && (same_seq_no b.seq_no c.seq_no && same_process p c.process)) o.process
alike (brings.Batch a) (brings.Batch b) e (brings.TraceLimit n) = refl
alike (brings.Batch a) (brings.TraceLimit n) e x = absurd (false≢true e)
alike (brings.TraceLimit m) (brings.Batch b) e x = absurd (false≢true e)
alike (brings.TraceLimit m) (brings.TraceLimit n) e x = absurd (false≢true e)

-- a limit resends nothing, and so does a batch without a number
pub limit_not_sent : (n : ℕ) (u : Work) → resends (brings.TraceLimit n) u ≡ false
limit_not_sent n (brings.Batch b) = refl
limit_not_sent n (brings.TraceLimit m) = refl

pub unnumbered_not_sent : (a : Batch) → a.seq_no ≡ None → (u : Work) → resends (brings.Batch a) u ≡ false
unnumbered_not_sent a none (brings.TraceLimit m) = refl
unnumbered_not_sent a none (brings.Batch c) = ap (λ n. is_some n && (same_seq_no a.seq_no c.seq_no && same_process a.process c.process)) none

pub nothing_sent : (h : List Entry) (e : Entry) → ((u : Work) → resends e.work u ≡ false) → sent_before h e ≡ None
nothing_sent h e none = sent_nowhere h e (list_any_none (λ (d : Entry). resends e.work d.work) h (λ k d l. none (get_or h k d).work))
