-- Complete runs, from the results of their lines.
use Rattle.std.proofs.Common.{◌≡◌, ℕ, Bool, false, inl, inr, List, [], ◌++◌, Option, refl, sym, ap, ◌∙◌, subst, append-nil, append_assoc}
use Rattle.std.specs.Io.KnownBytes.{Appends}
use Rattle.std.proofs.KnownBytes.{Appends-nil, Appends-trans, Consumes-nil}
use Rattle.text_lines.specs.declared.exit_status.ExitStatus.TheVariants.{OutOfMemory}
use Rattle.text_lines.specs.declared.run_error.RunError.{RunError}
use Rattle.text_lines.specs.declared.run_error.RunError.TheVariants.{Device, Memory}
use Rattle.text_lines.specs.RunErrors.{Expected, IsWhy, IsWhyOf, RunsUpTo, WritesSome, status_by}
use Rattle.text_lines.specs.HandledLines.{AnswersAll, AnswersSome, LineRun}
use Rattle.text_lines.proofs.HandledLines.{holds_all, holds_nothing_read, nothing_read}

-- a prefix of a text is a prefix of each longer text
pub some_more : (a b : Option (List ℕ)) (text more whole : List ℕ) → whole ≡ text ++ more → WritesSome a b text → WritesSome a b whole
some_more a b text more whole is w =
    (w.0, w.1, (w.2.0 ++ more, sym (append_assoc w.0 w.2.0 more) ∙ ap (λ x. x ++ more) w.2.1 ∙ sym is))

-- a text, and then a prefix of another
pub some_after : (a b c : Option (List ℕ)) (text other : List ℕ) → Appends a b text → WritesSome b c other → WritesSome a c (text ++ other)
some_after a b c text other first w =
    (text ++ w.0, Appends-trans a b c text w.0 first w.1, (w.2.0, append_assoc text w.0 w.2.0 ∙ ap (λ x. text ++ x) w.2.1))

why_by : (h : RunError) (i o : Bool) (Met : Type 0) → IsWhyOf h o → i ≡ false → IsWhy h i o Met
why_by Device i o Met e ie = inr (inl e)
why_by Memory i o Met e ie = (ie, e)

-- all lines were taken, and then something stopped the run
pub stops_all : {S : Type 0} (run : LineRun S) (out2 : Option (List ℕ)) (faulty o2 : Bool) (h : RunError) (expected : Expected)
    → (a : AnswersAll run faulty) → WritesSome run.output.before out2 (expected.output a.all.bytes) → IsWhyOf h o2 → run.input.failed ≡ false
    → RunsUpTo run.input (record { before = run.output.before; after = out2; failed = o2 }) expected (status_by h)
stops_all run out2 faulty o2 h expected a some why works = record {
  error = h;
  taken = a.all.bytes;
  rest = [];
  read = a.all.read;
  held = holds_all run.input.before run.input.after a.all.bytes a.all.read a.all.whole;
  written = subst (λ x. WritesSome run.output.before out2 (expected.output x)) (sym (append-nil a.all.bytes)) some;
  why = why_by h run.input.failed o2 _ why works;
  status_is = refl;
}

-- not all lines were taken
pub stops_some : {S : Type 0} (run : LineRun S) (h : RunError) (expected : Expected) → (a : AnswersSome run h)
    → WritesSome run.output.before run.output.after (expected.output (a.first.taken ++ a.first.rest))
    → RunsUpTo run.input run.output expected (status_by h)
stops_some run h expected a some = record {
  error = h;
  taken = a.first.taken;
  rest = a.first.rest;
  read = a.first.read;
  held = a.first.held;
  written = some;
  why = a.first.why;
  status_is = refl;
}

-- memory ran out before anything was read
pub stops_at_once : (in0 out0 : Option (List ℕ)) (i o : Bool) (expected : Expected) → i ≡ false → o ≡ false
    → RunsUpTo (record { before = in0; after = in0; failed = i }) (record { before = out0; after = out0; failed = o }) expected OutOfMemory
stops_at_once in0 out0 i o expected ie oe = record {
  error = Memory;
  taken = [];
  rest = nothing_read in0;
  read = Consumes-nil in0;
  held = holds_nothing_read in0;
  written = ([], Appends-nil out0, (expected.output (nothing_read in0), refl));
  why = (ie, oe);
  status_is = refl;
}
