-- The step that a line names.
use Rattle.std.specs.Prelude.{ℕ, ◌==◌, ◌&&◌, not, List, [], ◌∷◌, length, Result, Ok, Err, if◌then◌else◌, codes}
use Rattle.std.specs.List.{concat}
use Rattle.std.specs.Str.{is_utf8}
use Rattle.query_http.specs.Queries.{◌>>=◌}
use Rattle.jaeger_model.specs.declared.batch.Batch.{Batch}
use Rattle.jaeger_model.specs.Texts.{same_text}
use Rattle.batch_codec.specs.declared.hex_fault.HexFault.{HexFault}
use Rattle.batch_codec.specs.HexSpelling.{batch_in}
use Rattle.schedule_core.specs.declared.step.Step.{Step}
use Rattle.schedule_core.specs.declared.step.Step.TheVariants.{Put, Limit, Take, Publish, Enter, Read, Learn, Leave}
use Rattle.step_lines.specs.declared.fault.StepFault.{StepFault}
use Rattle.step_lines.specs.declared.fault.StepFault.TheVariants.{BadStep, NoBatch}
use Rattle.step_lines.specs.declared.verb.Verb.{Verb}
use Rattle.step_lines.specs.declared.verb.Verb.TheVariants as verb
use Rattle.step_lines.specs.Words.{words_of, number_in}
use Rattle.step_lines.specs.Targets.{query_in}

-- the text, unless it is empty
abbrev pub nonempty : List ℕ → Result (List ℕ) StepFault
nonempty text = if not (length text == 0) then Ok text else Err BadStep

-- a target isn't empty, and is UTF-8
abbrev pub target_in : List ℕ → Result (List ℕ) StepFault
target_in word = if not (length word == 0) && is_utf8 word then Ok word else Err BadStep

-- a batch as a part of a step
abbrev pub as_batch : Result Batch HexFault → Result Batch StepFault
as_batch (Ok batch) = Ok batch
as_batch (Err fault) = Err (NoBatch fault)

-- a seat and hexadecimal text
unfoldable pub put_by : List ℕ → List ℕ → Result Step StepFault
put_by seat hex = do
  s ← number_in seat
  text ← nonempty hex
  batch ← as_batch (batch_in text)
  Ok (Put s batch)

-- all words after the seat are one text: its spaces don't count
abbrev pub put_of : List (List ℕ) → Result Step StepFault
put_of [] = Err BadStep
put_of (seat ∷ hex) = put_by seat (concat hex)

-- the step, if no word follows
abbrev pub alone : Step → List (List ℕ) → Result Step StepFault
alone step [] = Ok step
alone step (word ∷ words) = Err BadStep

-- the number, if one word follows
abbrev pub one_number : List (List ℕ) → Result ℕ StepFault
one_number (word ∷ []) = number_in word
one_number words = Err BadStep

-- both words, if two follow
abbrev pub two_words : List (List ℕ) → Result (List ℕ × List ℕ) StepFault
two_words (first ∷ second ∷ []) = Ok (first, second)
two_words words = Err BadStep

-- a reader and a target
unfoldable pub read_of : List (List ℕ) → Result Step StepFault
read_of words = do
  both ← two_words words
  r ← number_in both.0
  target ← target_in both.1
  query ← query_in target
  Ok (Read r query)

-- both numbers, if two words follow
unfoldable pub two_numbers : List (List ℕ) → Result (ℕ × ℕ) StepFault
two_numbers words = do
  both ← two_words words
  first ← number_in both.0
  second ← number_in both.1
  Ok (first, second)

-- the step of a number
abbrev pub with_number : (ℕ → Step) → Result ℕ StepFault → Result Step StepFault
with_number step number = number >>= λ n. Ok (step n)

-- the step of two numbers
abbrev pub with_both : (ℕ → ℕ → Step) → Result (ℕ × ℕ) StepFault → Result Step StepFault
with_both step numbers = numbers >>= λ both. Ok (step both.0 both.1)

-- the first word of a step
abbrev pub verb_in : List ℕ → Result Verb StepFault
verb_in word =
    if same_text word (codes "put") then Ok verb.Put
    else if same_text word (codes "limit") then Ok verb.Limit
    else if same_text word (codes "take") then Ok verb.Take
    else if same_text word (codes "publish") then Ok verb.Publish
    else if same_text word (codes "enter") then Ok verb.Enter
    else if same_text word (codes "read") then Ok verb.Read
    else if same_text word (codes "learn") then Ok verb.Learn
    else if same_text word (codes "leave") then Ok verb.Leave
    else Err BadStep

-- the step of a first word and the words after it
abbrev pub step_by : Verb → List (List ℕ) → Result Step StepFault
step_by verb.Put words = put_of words
step_by verb.Limit words = with_both Limit (two_numbers words)
step_by verb.Take words = alone Take words
step_by verb.Publish words = alone Publish words
step_by verb.Enter words = with_number Enter (one_number words)
step_by verb.Read words = read_of words
step_by verb.Learn words = with_both Learn (two_numbers words)
step_by verb.Leave words = with_number Leave (one_number words)

abbrev pub step_of : List (List ℕ) → Result Step StepFault
step_of [] = Err BadStep
step_of (first ∷ words) = verb_in first >>= λ v. step_by v words

-- bytes that are no UTF-8 are a bad step, whatever the first word is
abbrev pub step_in : List ℕ → Result Step StepFault
step_in line = if is_utf8 line then step_of (words_of line) else Err BadStep
