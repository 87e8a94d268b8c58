-- The text of a trace, piece by piece: each process and each span is one, and so are the texts around them.
use Rattle.std.specs.Prelude.{ℕ, List, [], ◌∷◌, ◌++◌, codes, map, string_bytes}
use Rattle.serde_json.specs.Data.{Data, string}
use Rattle.serde_json.specs.Written.{compact_text}
use Rattle.trace_model.specs.declared.answer.Shown.{Shown}
use Rattle.query_json.specs.declared.writing.processes.NamedProcess.{NamedProcess}
use Rattle.query_json.specs.declared.writing.trace.TraceItem.{TraceItem}
use Rattle.query_json.specs.declared.writing.trace.TraceItem.TheVariants.{Copied, Lent, OneProcess}
use Rattle.query_json.specs.NamedProcesses.{first_named, named_text}
use Rattle.answer_trees.specs.Trees.{processes_of, span_tree, trace_id_text, trace_tree}

abbrev pub item_spans : TraceItem → List Shown
item_spans (OneProcess spans) = spans
item_spans (Lent t) = t.value.spans
item_spans (Copied t) = t.spans.value

abbrev pub item_tree : TraceItem → Data
item_tree t = trace_tree (item_spans t)

-- each but the first with a comma before it
abbrev pub with_commas : List (List ℕ) → List (List ℕ)
with_commas [] = []
with_commas (t ∷ ts) = t ∷ map (λ u. 44 ∷ u) ts

-- before the processes, between them and the spans, and after the spans
abbrev pub open_text : List ℕ
open_text = 123 ∷ 34 ∷ (codes "processes" ++ 34 ∷ 58 ∷ 123 ∷ [])

abbrev pub between_text : List ℕ
between_text = 125 ∷ 44 ∷ 34 ∷ (codes "spans" ++ 34 ∷ 58 ∷ 91 ∷ [])

abbrev pub close_text : List Shown → List ℕ
close_text ss =
    ((((93 ∷ 44 ∷ 34 ∷ (codes "traceID" ++ 34 ∷ 58 ∷ [])) ++ compact_text (string (trace_id_text ss))) ++ (44 ∷ 34 ∷ (codes "warnings" ++ 34 ∷ 58 ∷ [])))
    ++ codes "null") ++ 125 ∷ []

abbrev pub span_text_in : List Shown → Shown → List ℕ
span_text_in ss s = compact_text (span_tree (processes_of ss) s)

-- the text after the processes
abbrev pub span_pieces : List Shown → List (List ℕ)
span_pieces ss = between_text ∷ (with_commas (map (span_text_in ss) ss) ++ close_text ss ∷ [])

abbrev pub pieces_of : List NamedProcess → List Shown → List (List ℕ)
pieces_of ps ss = open_text ∷ (with_commas (map (named_text ss) ps) ++ span_pieces ss)

abbrev pub trace_pieces : TraceItem → List (List ℕ)
trace_pieces (OneProcess spans) = pieces_of (first_named ∷ []) spans
trace_pieces (Lent t) = pieces_of t.value.processes.items t.value.spans
trace_pieces (Copied t) = string_bytes t.text ∷ []
