-- Laws that the impls of this crate name. A clause can name nothing of its own crate's proofs/, so they are in
-- specs/.
use Rattle.std.specs.Prelude.{◌≡◌, ◌==◌}
use Rattle.std.specs.Bool.{Decides}
use Rattle.std.proofs.Common.{ap}
use Rattle.std.proofs.lemmas.Bool.Decides.{Decides-eqb, Decides-like}
use Rattle.jaeger_model.specs.Sameness.{same_batch}
use Rattle.jaeger_model.specs.SameLaws.{same_batch-decides}
use Rattle.trace_model.specs.declared.entry.Work.{Work}
use Rattle.trace_model.specs.declared.entry.Work.TheVariants as brings
use Rattle.trace_model.specs.EntryWork.{same_work}

pub same_work-decides : (a b : Work) → Decides (same_work a b) (a ≡ b)
same_work-decides (brings.Batch a) (brings.Batch b) = Decides-like (same_batch a b) (λ e. ap (λ x. brings.Batch x) e) (λ e. cc) (same_batch-decides a b)
same_work-decides (brings.TraceLimit m) (brings.TraceLimit n) = Decides-like (m == n) (λ e. ap (λ x. brings.TraceLimit x) e) (λ e. cc) (Decides-eqb m n)
same_work-decides (brings.Batch a) (brings.TraceLimit n) = (λ e. absurd cc, λ e. absurd cc)
same_work-decides (brings.TraceLimit m) (brings.Batch b) = (λ e. absurd cc, λ e. absurd cc)
