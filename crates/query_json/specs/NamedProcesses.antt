-- Processes with their numbers, which are in their names.
use Rattle.std.specs.Prelude.{◌≡◌, ◌+◌, ◌<◌, ℕ, List, [], ◌∷◌, ◌++◌, All, get_or, length, map}
use Rattle.std.specs.Fmt.{decimal}
use Rattle.json.specs.Print.{quoted}
use Rattle.serde_json.specs.Data.{Data, Members, no_members, member, null}
use Rattle.serde_json.specs.Written.{compact_text}
use Rattle.jaeger_model.specs.declared.batch.Process.{Process}
use Rattle.trace_model.specs.declared.answer.Shown.{Shown}
use Rattle.query_json.specs.declared.writing.processes.NamedProcess.{NamedProcess}
use Rattle.answer_trees.specs.Trees.{process_of, process_tree, processes_by_name}

abbrev pub name_of : NamedProcess → List ℕ
name_of p = 112 ∷ decimal p.number

-- the process of the first span
abbrev pub first_named : NamedProcess
first_named = record { number = 1; span = 0 }

-- the tree of the process of a span
abbrev pub shown_process_tree : Shown → Data
shown_process_tree s = process_tree (process_of s)

-- the tree of the process of the span at the index
abbrev pub process_tree_at : List Shown → ℕ → Data
process_tree_at spans k = get_or (map shown_process_tree spans) k null

-- the members of an object of these, in their order
abbrev pub named_members : List Shown → List NamedProcess → Members
named_members spans [] = no_members
named_members spans (p ∷ ps) = member (name_of p) (process_tree_at spans p.span) (named_members spans ps)

-- one of them as the member of an object
abbrev pub named_text : List Shown → NamedProcess → List ℕ
named_text spans p = quoted (name_of p) ++ 58 ∷ compact_text (process_tree_at spans p.span)

-- the process at a place, which the span at an index has
abbrev pub named_at : ℕ → ℕ → NamedProcess
named_at place span = record { number = place + 1; span = span }

-- one of the spans has it
abbrev pub HasSpan : List Shown → NamedProcess → Type 0
HasSpan spans p = p.span < length spans

-- the processes, each once, in the order of their names
pub record AreNamed (spans : List Shown) (processes : List Process) (ps : List NamedProcess) : Type 0 where
  pub have_spans : All (HasSpan spans) ps
  pub members : named_members spans ps ≡ processes_by_name 0 processes no_members
