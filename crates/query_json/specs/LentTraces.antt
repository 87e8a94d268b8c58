-- Traces of an answer with their processes, or with their text.
use Rattle.std.specs.Prelude.{◌≡◌, ◌+◌, ◌<◌, ◌^◌, ℕ, List, [], ◌∷◌, get_or, length, string_bytes}
use Rattle.serde_json.specs.Written.{compact_text}
use Rattle.trace_model.specs.declared.answer.Shown.{Shown}
use Rattle.query_json.specs.declared.writing.processes.NamedProcess.{NamedProcess}
use Rattle.query_json.specs.declared.writing.trace.TraceItem.{TraceItem}
use Rattle.query_json.specs.declared.writing.trace.TraceItem.TheVariants.{Copied, Lent, OneProcess}
use Rattle.query_json.specs.NamedProcesses.{AreNamed, first_named}
use Rattle.answer_trees.specs.Trees.{processes_of, trace_tree}
use Rattle.answer_trees.specs.TraceProcesses.{process_place}

-- the places are those of the spans' processes, 0 for those after the last place; the processes are in the order of
-- their names, and both can be counted
pub record IsNumbered (ss : List Shown) (stand : List ℕ) (ps : List NamedProcess) : Type 0 where
  pub places : (k : ℕ) (s : Shown) → k < length ss → s ≡ get_or ss k s → get_or stand k 0 ≡ process_place (processes_of ss) s
  pub named : AreNamed ss (processes_of ss) ps
  pub few : length ps + length ss < 2 ^ 62

-- borrowed spans have such places and processes; the text of a trace with spans of its own is that of its tree
abbrev pub IsWritable : TraceItem → Type 0
IsWritable (OneProcess spans) = IsNumbered spans [] (first_named ∷ [])
IsWritable (Lent t) = IsNumbered t.value.spans t.value.places.items t.value.processes.items
IsWritable (Copied t) = string_bytes t.text ≡ compact_text (trace_tree t.spans.value)
