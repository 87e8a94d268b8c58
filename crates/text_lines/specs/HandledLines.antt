-- Lines that are handled one after the other, and the replies to them.
use Rattle.std.specs.Prelude.{◌≡◌, ℕ, ◌+◌, ◌*◌, ◌≤◌, ◌||◌, Bool, false, List, [], ◌∷◌, ◌++◌, length}
use Rattle.std.specs.Io.KnownBytes.{Appends, Consumes, IsAtEnd}
use Rattle.session_devices.specs.Traffic.{Traffic}
use Rattle.text_lines.specs.Lines.{lines_of}
use Rattle.text_lines.specs.LineReads.{Feed, KnowsEnd, MayCome, most_bytes_left}
use Rattle.text_lines.specs.RunErrors.{Holds, IsWhy, Moves, WritesSome}
use Rattle.text_lines.specs.declared.line_buffer.TheConstants.{READ_BYTES}
use Rattle.text_lines.specs.declared.run_error.RunError.{RunError}
use Rattle.session_devices.specs.declared.limits.TheConstants.{MAX_READS}

-- the reply to a line, and whether the line is a fault
pub record LineReply : Type 0 where
  pub text : List ℕ
  pub faulty : Bool

abbrev pub nothing_said : LineReply
nothing_said = record { text = []; faulty = false }

abbrev pub joined : LineReply → LineReply → LineReply
joined a b = record { text = a.text ++ b.text; faulty = a.faulty || b.faulty }

-- the reply to one or more lines, and the state after them
pub record LineResult (S : Type 0) : Type 0 where
  pub reply : LineReply
  pub held : S

-- relates the states before and after handling a line with its number, and the reply
abbrev pub HandlesLine : Type 0 → Type 1
HandlesLine S = S → ℕ → List ℕ → LineReply → S → Type 0

-- a line of an input, and its number
pub record NumberedLine : Type 0 where
  pub number : ℕ
  pub line : List ℕ

-- the lines with their numbers, of which the first is n
abbrev pub numbered : ℕ → List (List ℕ) → List NumberedLine
numbered n [] = []
numbered n (line ∷ lines) = record { number = n; line = line } ∷ numbered (n + 1) lines

-- the lines were handled one after the other, from the state s to this result
abbrev pub TakesEach : {S : Type 0} → HandlesLine S → S → List NumberedLine → LineResult S → Type 0
TakesEach takes s [] result = result ≡ record { reply = nothing_said; held = s }
TakesEach {S = S} takes s (here ∷ lines) result =
    (first : LineResult S) × (others : LineResult S) × takes s here.number here.line first.reply first.held
    × TakesEach takes first.held lines others × (result ≡ record { reply = joined first.reply others.reply; held = others.held })

-- what handling a line does, and the states of a handler before and after a call
pub record Handling (S : Type 0) : Type 1 where
  pub takes : HandlesLine S
  pub before : S
  pub after : S

abbrev pub handling_of : {S : Type 0} → HandlesLine S → S → S → Handling S
handling_of takes before after = record { takes = takes; before = before; after = after }

-- what a call that handles lines did with its handler, its input and its output
pub record LineRun (S : Type 0) : Type 1 where
  pub handling : Handling S
  pub input : Traffic
  pub output : Traffic

abbrev pub run_of : {S : Type 0} → Handling S → Traffic → Traffic → LineRun S
run_of handling input output = record { handling = handling; input = input; output = output }

-- all lines of the input were handled
pub record AllLines {S : Type 0} (handling : Handling S) (input : Traffic) (faulty : Bool) : Type 0 where
  pub bytes : List ℕ
  pub reply : LineReply
  pub read : Consumes input.before input.after bytes
  pub whole : IsAtEnd input.after
  pub each : TakesEach handling.takes handling.before (numbered 1 (lines_of bytes)) (record { reply = reply; held = handling.after })
  pub faulty_is : faulty ≡ reply.faulty

-- all lines of the input were handled, and the replies were written
pub record AnswersAll {S : Type 0} (run : LineRun S) (faulty : Bool) : Type 0 where
  pub all : AllLines run.handling run.input faulty
  pub written : Appends run.output.before run.output.after all.reply.text

-- The first lines of the input were handled, and no more for this reason. The state after the call may be any.
pub record FirstLines {S : Type 0} (run : LineRun S) (error : RunError) : Type 0 where
  pub taken : List ℕ
  pub rest : List ℕ
  pub lines : List (List ℕ)
  pub others : List (List ℕ)
  pub reply : LineReply
  pub last : S
  pub read : Consumes run.input.before run.input.after taken
  pub held : Holds run.input.before (taken ++ rest)
  pub split : lines_of (taken ++ rest) ≡ lines ++ others
  pub each : TakesEach run.handling.takes run.handling.before (numbered 1 lines) (record { reply = reply; held = last })
  pub why : IsWhy error run.input.failed run.output.failed (MAX_READS ≤ length taken)

-- the first lines of the input were handled, and a prefix of the replies was written
pub record AnswersSome {S : Type 0} (run : LineRun S) (error : RunError) : Type 0 where
  pub first : FirstLines run error
  pub written : WritesSome run.output.before run.output.after first.reply.text

-- ---- on the way, with a buffer of text that waits to be written

-- a loop that handles lines: the bytes not yet handled, the text not yet written, the number of lines, and whether one was a fault
pub record LoopState : Type 0 where
  pub feed : Feed
  pub waits : List ℕ
  pub number : ℕ
  pub faulty : Bool

-- these lines were removed from the bytes read, and the replies were written or wait
pub record SoFar {S : Type 0} (run : LineRun S) (now : LoopState) : Type 0 where
  pub taken : List ℕ
  pub lines : List (List ℕ)
  pub reply : LineReply
  pub read : Consumes run.input.before run.input.after taken
  pub end : KnowsEnd run.input.after now.feed
  pub split : (more : List ℕ) → MayCome now.feed more → lines_of (taken ++ more) ≡ lines ++ lines_of (now.feed.waiting ++ more)
  pub count : now.number ≡ length lines
  pub few : now.number + most_bytes_left now.feed ≤ READ_BYTES * MAX_READS
  pub least : now.feed.ended ≡ false → MAX_READS ≤ length taken + now.feed.reads_left
  pub each : TakesEach run.handling.takes run.handling.before (numbered 1 lines) (record { reply = reply; held = run.handling.after })
  pub wrote : Moves run.output.before run.output.after reply.text now.waits
  pub faulty_is : now.faulty ≡ reply.faulty

-- all lines of the input were handled, and the replies were written or wait
pub record TookAll {S : Type 0} (run : LineRun S) (waits : List ℕ) (faulty : Bool) : Type 0 where
  pub all : AllLines run.handling run.input faulty
  pub wrote : Moves run.output.before run.output.after all.reply.text waits

-- the first lines of the input were handled, and a prefix of the replies was written or waits
pub record TookSome {S : Type 0} (run : LineRun S) (waits : List ℕ) (error : RunError) : Type 0 where
  pub first : FirstLines run error
  pub wrote : Moves run.output.before run.output.after first.reply.text waits
