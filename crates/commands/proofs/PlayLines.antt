-- What one line of `play` comes to.
use Rattle.std.proofs.Common.{◌≡◌, ℕ, ◌==◌, ◌++◌, Bool, true, false, List, [], length, Option, Some, None, Result, Ok, Err, inl, inr, refl, sym, ap, ◌∙◌, subst}
use Rattle.std.proofs.Common.{codes}
use Rattle.std.specs.Prelude.{◌≢◌, if◌then◌else◌}
use Rattle.text_lines.specs.HandledLines.{LineReply, LineResult}
use Rattle.trace_model.specs.declared.refusal.Refusal.TheVariants.{NoMemory}
use Rattle.schedule_core.specs.declared.step.Step.{Step}
use Rattle.schedule_core.specs.declared.outcome.Outcome.{Outcome}
use Rattle.schedule_core.specs.declared.outcome.Outcome.TheVariants.{Refused}
use Rattle.schedule_core.specs.Machine.{Machine}
use Rattle.schedule_core.specs.Machine.{step as stepped}
use Rattle.schedule_core.specs.BoundedMachines.{Steps}
use Rattle.step_lines.specs.declared.fault.StepFault.{StepFault}
use Rattle.step_lines.specs.OutcomeLines.{outcome_line}
use Rattle.step_lines.specs.Steps.{step_in}
use Rattle.commands.specs.PlayRuns.{IsMade, MakesStep, IsMachineAt, TakesStep, play_moment, played, played_as, skipped, step_fault_line}

pub is_made : (w0 : Option Machine) (s : Step) (o : Outcome) (w1 : Option Machine) → Steps w0 s o w1 → o ≢ Refused NoMemory → IsMade w0 s o w1
is_made None s o w1 e other = absurd (other e.0)
is_made (Some m) s o w1 (inl e) other = (m, refl, e.0, e.1)
is_made (Some m) s o w1 (inr e) other = absurd (other e.0)

pub made_and_said : (said0 said1 : List ℕ) (w0 w1 : Option Machine) (s : Step) (o : Outcome)
    → IsMade w0 s o w1 → said1 ≡ said0 ++ (outcome_line o ++ codes "\n") → MakesStep (play_moment said0 w0) (play_moment said1 w1) s
made_and_said said0 said1 w0 w1 s o made reply = record {
  machine = made.0;
  was = made.1;
  is = made.3;
  says = reply ∙ ap (λ x. said0 ++ (outcome_line x ++ codes "\n")) made.2;
}

-- ---- lines

abbrev said_by : List ℕ → Bool → LineReply
said_by text faulty = record { text = text; faulty = faulty }

played_empty : (n : ℕ) (m : Machine) (line : List ℕ) → (length line == 0) ≡ true → played n m line ≡ skipped m
unfolding played
played_empty n m line e = ap (λ b. if b then skipped m else played_as n m (step_in line)) e

played_step : (n : ℕ) (m : Machine) (line : List ℕ) (r : Result Step StepFault) → (length line == 0) ≡ false → r ≡ step_in line
    → played n m line ≡ played_as n m r
unfolding played
played_step n m line r e is =
    ap (λ b. if b then skipped m else played_as n m (step_in line)) e ∙ ap (λ x. played_as n m x) (sym is)

takes_as : (w1 : Option Machine) (n : ℕ) (line : List ℕ) (m : Machine) (reply : LineReply) (p : LineResult Machine) → played n m line ≡ p
    → IsMachineAt w1 p.held
    → reply ≡ p.reply
    → IsMachineAt w1 (played n m line).held × (reply ≡ (played n m line).reply)
takes_as w1 n line m reply p e stands says =
    (subst (λ (x : LineResult Machine). IsMachineAt w1 x.held) (sym e) stands, subst (λ (x : LineResult Machine). reply ≡ x.reply) (sym e) says)

said_as : (text : List ℕ) (faulty : Bool) (reply : List ℕ) → reply ≡ text → record { text = reply; faulty = faulty } ≡ said_by text faulty
said_as text faulty reply e = ap (λ t. said_by t faulty) e

-- said into an empty text
said_first : (said0 said1 text : List ℕ) → said0 ≡ [] → said1 ≡ said0 ++ text → said1 ≡ text
said_first said0 said1 text none says = says ∙ ap (λ t. t ++ text) none

pub line_skipped : (w : Option Machine) (n : ℕ) (line said0 : List ℕ) → said0 ≡ [] → (length line == 0) ≡ true
    → TakesStep w n line (record { text = said0; faulty = false }) w
line_skipped w n line said0 none e m stands =
    takes_as w n line m (record { text = said0; faulty = false }) (skipped m) (played_empty n m line e) stands (said_as [] false said0 none)

some_none : (k : Machine) → Some k ≡ None → ⊥
some_none k e = cc

some_is : (m k : Machine) → Some m ≡ Some k → m ≡ k
some_is m k e = cc

-- a world at this machine that was another one is that one
same_machine : (w : Option Machine) (m k : Machine) → w ≡ Some k → IsMachineAt w m → m ≡ k
same_machine w m k is (inl e) = some_is m k (sym e ∙ is)
same_machine w m k is (inr e) = absurd (some_none k (sym is ∙ e))

pub line_played : (w0 w1 : Option Machine) (n : ℕ) (line said0 said1 : List ℕ) (s : Step) → said0 ≡ [] → (length line == 0) ≡ false → Ok s ≡ step_in line
    → MakesStep (play_moment said0 w0) (play_moment said1 w1) s → TakesStep w0 n line (record { text = said1; faulty = false }) w1
line_played w0 w1 n line said0 said1 s none e is made m stands =
    let same : made.machine ≡ m = sym (same_machine w0 m made.machine made.was stands) in
    takes_as w1 n line m (record { text = said1; faulty = false }) (played_as n m (Ok s)) (played_step n m line (Ok s) e is)
    (inl (made.is ∙ ap (λ k. Some (stepped k s).machine) same))
    (said_as (played_as n m (Ok s)).reply.text false said1
    (said_first said0 said1 _ none made.says ∙ ap (λ k. outcome_line (stepped k s).outcome ++ codes "\n") same))

pub line_faulty : (w : Option Machine) (n : ℕ) (line said0 said1 : List ℕ) (fault : StepFault) → said0 ≡ [] → (length line == 0) ≡ false
    → Err fault ≡ step_in line
    → said1 ≡ said0 ++ step_fault_line n fault → TakesStep w n line (record { text = said1; faulty = true }) w
line_faulty w n line said0 said1 fault none e is says m stands =
    takes_as w n line m (record { text = said1; faulty = true }) (played_as n m (Err fault)) (played_step n m line (Err fault) e is) stands
    (said_as (step_fault_line n fault) true said1 (said_first said0 said1 (step_fault_line n fault) none says))
