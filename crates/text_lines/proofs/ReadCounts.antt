-- Reads are counted.
use Rattle.std.proofs.Common.{◌≡◌, ℕ, ◌+◌, Bool, false, true, List, [], ◌∷◌, ◌++◌, refl, sym, subst, arith, length-append, ◌∙◌}
use Rattle.text_lines.specs.declared.exit_status.ExitStatus.{ExitStatus}
use Rattle.text_lines.specs.declared.run_error.RunError.{RunError}
use Rattle.text_lines.specs.declared.run_error.RunError.TheVariants.{Device, Memory}
use Rattle.session_devices.specs.ByteTransfers.{ByteTransfer}
use Rattle.session_devices.specs.declared.limits.TheConstants.{MAX_READS}
use Rattle.text_lines.specs.RunErrors.{BothWork, IsWhyOf, status_by}
use Rattle.text_lines.specs.ReadCounts.{GivesEach, CountsReads, LimitIsReads, StatusIsReads, reads_of}

gives_on : {R : Type 0} (gives : ByteTransfer R) (s t u : R) (ps qs : List (List ℕ)) → GivesEach (reads_of gives s t) ps → GivesEach (reads_of gives t u) qs
    → GivesEach (reads_of gives s u) (ps ++ qs)
gives_on gives s t u [] qs e f = subst (λ r. GivesEach (reads_of gives r u) qs) (sym e) f
gives_on gives s t u (p ∷ ps) qs e f = (e.0, e.1, gives_on gives e.0 t u ps qs e.2 f)

pub no_read : {R : Type 0} (gives : ByteTransfer R) (s : R) (left : ℕ) → CountsReads (reads_of gives s s) left left
no_read gives s left = (0, ([], refl, refl), omega arith)

pub one_read : {R : Type 0} (gives : ByteTransfer R) (s t : R) (piece : List ℕ) (before after : ℕ) → gives s piece t → after + 1 ≡ before
    → CountsReads (reads_of gives s t) before after
one_read gives s t piece before after given less = (1, (piece ∷ [], (t, given, refl), refl), omega (arith, less))

pub reads_on : {R : Type 0} (gives : ByteTransfer R) (s t u : R) (a b c : ℕ) → CountsReads (reads_of gives s t) a b → CountsReads (reads_of gives t u) b c
    → CountsReads (reads_of gives s u) a c
reads_on gives s t u a b c e f = (
  e.0 + f.0,
  (e.1.0 ++ f.1.0, gives_on gives s t u e.1.0 f.1.0 e.1.1 f.1.1, omega (arith, length-append e.1.0 f.1.0, e.1.2, f.1.2)),
  omega (arith, e.2, f.2),
)

-- none is left of those that a run may make
pub limit_is_reads : {R : Type 0} (gives : ByteTransfer R) (s t : R) (i o : Bool) (h : RunError) (left : ℕ) → CountsReads (reads_of gives s t) MAX_READS left
    → (h ≡ Device → i ≡ false → o ≡ false → left ≡ 0) → LimitIsReads (reads_of gives s t) (BothWork i o) h
limit_is_reads gives s t i o Device left e spent =
    λ work. let none = spent refl work.0 work.1 in (e.1.0, e.1.1, omega (arith, e.1.2, e.2, none))
limit_is_reads gives s t i o Memory left e spent = tt

pub never_met : {R : Type 0} (gives : ByteTransfer R) (s t : R) (i o : Bool) (h : RunError) → o ≡ true → LimitIsReads (reads_of gives s t) (BothWork i o) h
never_met gives s t i o Device failed = λ work. absurd (let both : true ≡ false = sym failed ∙ work.1 in cc)
never_met gives s t i o Memory failed = tt

-- only a write stopped the run
pub written_limit : {R : Type 0} (gives : ByteTransfer R) (s t : R) (i o : Bool) (h : RunError) → IsWhyOf h o
    → LimitIsReads (reads_of gives s t) (BothWork i o) h
written_limit gives s t i o Device failed = never_met gives s t i o Device failed
written_limit gives s t i o Memory failed = tt

pub status_is_reads : {R : Type 0} (gives : ByteTransfer R) (s t : R) (Work : Type 0) (h : RunError) (status : ExitStatus)
    → LimitIsReads (reads_of gives s t) Work h
    → status ≡ status_by h → StatusIsReads (reads_of gives s t) Work status
status_is_reads gives s t Work Device status limit is = λ failed. limit
status_is_reads gives s t Work Memory status limit is = λ failed. absurd cc
