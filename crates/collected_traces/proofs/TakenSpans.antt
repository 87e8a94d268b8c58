-- Taken spans, as they are read.
use Rattle.std.proofs.Common.{◌≡◌, ℕ, ◌+◌, ◌<◌, Bool, true, false, ◌||◌, List, [], ◌∷◌, ◌++◌, map, length, take, get_or, zero, suc, refl, sym, ap}
use Rattle.std.proofs.Common.{subst, ◌∙◌, arith, Some, Option}
use Rattle.std.specs.Prelude.{IfSome, slice_index_or}
use Rattle.std.specs.List.{list_any, cons_option, All}
use Rattle.jaeger_model.specs.declared.batch.Process.{Process}
use Rattle.jaeger_model.specs.declared.placed.Placed.{Placed}
use Rattle.jaeger_model.specs.declared.placed.Seen.{Seen}
use Rattle.trace_model.specs.declared.query.Find.{Find}
use Rattle.trace_model.specs.Searching.{matches}
use Rattle.trace_model.specs.SharedProcesses.{ShareProcesses}
use Rattle.trace_model.proofs.TakenSpans.{one_more, some_next}
use Rattle.trace_model.specs.BorrowedSpans.{seen, placed_by_its_entry}
use Rattle.trace_model.specs.TakenSpans.{Taken, placed_taken, numbers_taken}
use Rattle.collected_traces.specs.declared.process_classes.ProcessClasses.{ProcessClasses}
use Rattle.collected_traces.specs.ProcessClasses.{Leads}
use Rattle.collected_traces.specs.TakenTraces.{HasProcess, HaveProcesses}
use Rattle.collected_traces.proofs.ParentReferences.{matches-adopted}
use Rattle.collected_traces.proofs.Processes.{LeadToEach, leads_more, one_process}

pub or_same : (b : Bool) → b ≡ (b || false)
or_same true = refl
or_same false = refl

-- the process of a span is the one to which its number leads
pub own_process : (process_of : ℕ → Option Process) (x : Taken) (p : Placed) → Some p ≡ x.span → HasProcess process_of x
    → Some p.process ≡ process_of x.number
own_process process_of x p there has = subst (λ (o : Option Placed). IfSome o (λ (q : Placed). Some q.process ≡ process_of x.number)) (sym there) has

-- the process of a span that is read is the one to which its number leads
pub process_seen : (process_of : ℕ → Option Process) (x : Taken) (s : Seen) (n : ℕ) → Some (placed_by_its_entry s) ≡ x.span → n ≡ x.number
    → HasProcess process_of x → Some s.process.now ≡ process_of n
process_seen process_of x s n at number has = own_process process_of x (placed_by_its_entry s) at has ∙ ap process_of (sym number)

pub match_seen : (q : Find) (x : Taken) (s : Seen) → Some (placed_by_its_entry s) ≡ x.span → matches q (seen s) ≡ list_any (matches q) (placed_taken (x ∷ []))
match_seen q x s at = sym (matches-adopted q (seen s)) ∙ or_same (matches q (placed_by_its_entry s)) ∙ ap (λ o. list_any (matches q) (cons_option o [])) at

-- ---- span by span
module _ (xs : List Taken) (i : ℕ) (x : Taken) (le : i < length xs) (is : x ≡ get_or xs i x) where
  pub has_process : (process_of : ℕ → Option Process) → HaveProcesses process_of xs → HasProcess process_of x
  has_process process_of all = subst (HasProcess process_of) (sym is) (all i x le)

-- ---- the trace at a place
pub placed_got : (ts : List (List Taken)) (k : ℕ) → placed_taken (slice_index_or ts k []) ≡ slice_index_or (map placed_taken ts) k []
placed_got [] k = refl
placed_got (t ∷ ts) zero = refl
placed_got (t ∷ ts) (suc k) = placed_got ts k

pub all_got : (P : Taken → Type 0) (ts : List (List Taken)) (k : ℕ) → All (All P) ts → All P (slice_index_or ts k [])
all_got P [] k all = λ j d le. absurd (omega arith)
all_got P (t ∷ ts) zero all = all 0 t (omega arith)
all_got P (t ∷ ts) (suc k) all = all_got P ts k (λ j d le. all (suc j) d (omega arith))

pub processes_got : (process_of : ℕ → Option Process) (ts : List (List Taken)) (k : ℕ) → All (HaveProcesses process_of) ts
    → HaveProcesses process_of (slice_index_or ts k [])
processes_got process_of ts k all = all_got (HasProcess process_of) ts k all

-- ---- the trace of an answer, span by span
-- the spans up to the index are kept, and if the classes lead to their processes, so do the numbers
pub record IsKeptUpto (old : ProcessClasses) (xs : List Taken) (i : ℕ) (kept : List Taken) : Type 0 where
  pub spans : placed_taken kept ≡ placed_taken (take i xs)
  pub processes : (process_of : ℕ → Option Process) → HaveProcesses process_of xs → Leads process_of old
      → LeadToEach process_of (placed_taken kept) (numbers_taken kept)

pub kept_more : (old : ProcessClasses) (xs : List Taken) (i : ℕ) (x : Taken) → i < length xs → x ≡ get_or xs i x
    → (kept more : List Taken) (t : Taken) (p : Placed)
    → IsKeptUpto old xs i kept → more ≡ kept ++ t ∷ [] → Some p ≡ x.span → t.span ≡ x.span
    → ((process_of : ℕ → Option Process) → HaveProcesses process_of xs → Leads process_of old → process_of t.number ≡ process_of x.number)
    → IsKeptUpto old xs (i + 1) more
kept_more old xs i x le is kept more t p before put there same key =
    let own : t.span ≡ Some p = same ∙ sym there in
    record {
      spans = ap placed_taken put ∙ one_more kept t p own ∙ ap (λ l. l ++ p ∷ []) before.spans ∙ some_next xs i x p le is (sym there);
      processes = λ process_of has known.
          let here = own_process process_of x p there (has_process xs i x le is process_of has) ∙ sym (key process_of has known) in
          subst (λ (l : List Taken). LeadToEach process_of (placed_taken l) (numbers_taken l)) (sym put)
          (leads_more process_of kept t p own here (before.processes process_of has known));
    }

pub kept_share : (spans : List Placed) (numbers : List ℕ) (process_of : ℕ → Option Process) → LeadToEach process_of spans numbers
    → ShareProcesses spans numbers
kept_share spans numbers process_of at j k d one = one_process process_of spans numbers at j k d one.0 one.1 one.2
