-- The members of a span's tree in the groups in which they are added to an object.
use Rattle.std.specs.Prelude.{ℕ, List, map, codes}
use Rattle.serde_json.specs.Data.{string, number, unsigned, Members, put}
use Rattle.serde_json.specs.Find.{of_integer}
use Rattle.jaeger_model.specs.Ids.{span_text, trace_text}
use Rattle.trace_model.specs.declared.answer.Shown.{Shown}
use Rattle.answer_trees.specs.Trees.{flags_number, list, log_tree, reference_tree, tag_tree, warnings_tree}

-- the numbers of a span
abbrev pub with_numbers : Shown → Members → Members
with_numbers s ms =
    put (codes "startTime") (number (of_integer s.placed.span.start)) (
    put (codes "flags") (number (unsigned (flags_number s.placed.span.flags))) (
    put (codes "duration") (number (of_integer s.placed.span.duration)) ms))

-- the texts and ids of a span whose process has this name
abbrev pub with_texts : List ℕ → Shown → Members → Members
with_texts process s ms =
    put (codes "traceID") (string (trace_text s.placed.span.trace)) (
    put (codes "spanID") (string (span_text s.placed.span.id)) (
    put (codes "processID") (string process) (
    put (codes "operationName") (string s.placed.span.operation) ms)))

-- the lists of a span
abbrev pub with_lists : Shown → Members → Members
with_lists s ms =
    put (codes "warnings") (warnings_tree s.warnings) (
    put (codes "tags") (list (map tag_tree s.placed.span.tags)) (
    put (codes "references") (list (map reference_tree s.placed.span.references)) (
    put (codes "logs") (list (map log_tree s.placed.span.logs)) ms)))
