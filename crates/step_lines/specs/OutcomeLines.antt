-- The outcome of a step, as the text of a line.
use Rattle.std.specs.Prelude.{ℕ, List, ◌++◌, codes}
use Rattle.std.specs.Fmt.{decimal}
use Rattle.serde_json.specs.Written.{compact_text}
use Rattle.trace_model.specs.declared.answer.Answer.{Answer}
use Rattle.trace_model.specs.RefusalTexts.{refusal_text}
use Rattle.answer_trees.specs.Trees.{answer_tree}
use Rattle.schedule_core.specs.declared.outcome.Outcome.{Outcome}
use Rattle.schedule_core.specs.declared.outcome.Outcome.TheVariants.{Put, Taken, Again, Refused, Idle, Published, Held, Entered, Answered, Learnt, Left, Inside}
use Rattle.schedule_core.specs.declared.outcome.Outcome.TheVariants.{Outside, Unknown}

-- the body of the answer's HTTP response: for a trace that isn't found, that of the error
abbrev pub json_of : Answer → List ℕ
json_of answer = compact_text (answer_tree answer)

abbrev pub outcome_line : Outcome → List ℕ
outcome_line (Put number) = codes "put " ++ decimal number
outcome_line (Taken seat number) = codes "taken " ++ (decimal seat ++ (codes " " ++ decimal number))
outcome_line (Again seat number place) = codes "again " ++ (decimal seat ++ (codes " " ++ (decimal number ++ (codes " " ++ decimal place))))
outcome_line (Refused refusal) = codes "refused " ++ refusal_text refusal
outcome_line Idle = codes "idle"
outcome_line (Published front) = codes "published " ++ decimal front
outcome_line (Held reader) = codes "held " ++ decimal reader
outcome_line (Entered front) = codes "entered " ++ decimal front
outcome_line (Answered front answer) = codes "read " ++ (decimal front ++ (codes " " ++ json_of answer))
outcome_line (Learnt front) = codes "learnt " ++ decimal front
outcome_line Left = codes "left"
outcome_line Inside = codes "inside"
outcome_line Outside = codes "outside"
outcome_line Unknown = codes "unknown"
