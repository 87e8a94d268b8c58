-- The text of an answer's items, piece by piece.
use Rattle.std.proofs.Common.{◌≡◌, ◌<◌, ◌∙◌, ℕ, List, [], ◌∷◌, ◌++◌, length, get_or, map, refl, sym, ap, append-nil, arith, string_bytes}
use Rattle.std.specs.Prelude.{All}
use Rattle.std.proofs.lemmas.List.{get_or-map, length-map}
use Rattle.std.proofs.lemmas.List.Elements.{All-head, All-tail}
use Rattle.serde_json.specs.Data.{Data, null, string}
use Rattle.serde_json.specs.Written.{compact_text}
use Rattle.query_json.specs.declared.items.Items.{Items}
use Rattle.query_json.specs.declared.items.Items.TheVariants.{Names, Operations, Ids, Links, Traces}
use Rattle.query_json.specs.declared.writing.trace.TraceItem.{TraceItem}
use Rattle.query_json.specs.declared.writing.trace.TraceItem.TheVariants.{Copied, Lent, OneProcess}
use Rattle.query_json.specs.LentTraces.{IsWritable}
use Rattle.query_json.specs.NamedProcesses.{first_named}
use Rattle.query_json.specs.Pieces.{AreWritable, item_pieces, item_trees, one_piece, runs_of}
use Rattle.query_json.specs.Runs.{front_text, joined, runs_text}
use Rattle.query_json.specs.TracePieces.{item_spans, item_tree, trace_pieces}
use Rattle.answer_trees.specs.Trees.{id_tree, items_tree, link_tree, operation_tree, trace_tree}
use Rattle.query_json.proofs.Runs.{Run, body, body_is, body_whole}
use Rattle.query_json.proofs.TracePieces.{trace_text}

-- ---- the whole

one_texts : (ds : List Data) → map joined (map one_piece ds) ≡ map compact_text ds
one_texts [] = refl
one_texts (d ∷ ds) =
    ap (λ (l : List ℕ). l ∷ map joined (map one_piece ds)) (append-nil (compact_text d)) ∙ ap (λ (ls : List (List ℕ)). compact_text d ∷ ls) (one_texts ds)

trace_text_of : (t : TraceItem) → IsWritable t → joined (trace_pieces t) ≡ compact_text (item_tree t)
trace_text_of (OneProcess spans) known = trace_text spans (first_named ∷ []) known.named
trace_text_of (Lent t) known = trace_text t.value.spans t.value.processes.items known.named
trace_text_of (Copied t) known = append-nil (string_bytes t.text) ∙ known

trace_texts : (ts : List TraceItem) → All IsWritable ts → map joined (map trace_pieces ts) ≡ map compact_text (map item_tree ts)
trace_texts [] all = refl
trace_texts (t ∷ ts) all =
    ap (λ (l : List ℕ). l ∷ map joined (map trace_pieces ts)) (trace_text_of t (All-head IsWritable t ts all))
    ∙ ap (λ (ls : List (List ℕ)). compact_text (item_tree t) ∷ ls) (trace_texts ts (All-tail IsWritable t ts all))

item_texts : (items : Items) → AreWritable items → map joined (item_pieces items) ≡ map compact_text (item_trees items)
item_texts (Names names) known = one_texts (map string names)
item_texts (Operations operations) known = one_texts (map operation_tree operations)
item_texts (Ids ids) known = one_texts (map id_tree ids)
item_texts (Links links) known = one_texts (map link_tree links)
item_texts (Traces traces) known = trace_texts traces.items known

pub whole_text : (items : Items) → AreWritable items → front_text ++ runs_text (runs_of items) ≡ compact_text (items_tree (item_trees items))
whole_text items known =
    ap (λ (l : List ℕ). front_text ++ l) (body_is (item_pieces items))
    ∙ ap (λ (ts : List (List ℕ)). front_text ++ body ts) (item_texts items known)
    ∙ body_whole (item_trees items)

pub trees_of : (ts : List TraceItem) → map item_tree ts ≡ map trace_tree (map item_spans ts)
trees_of [] = refl
trees_of (t ∷ ts) = ap (λ (ds : List Data). item_tree t ∷ ds) (trees_of ts)

-- ---- the pieces of an item

one_at : (ds : List Data) (k : ℕ) → k < length (map one_piece ds) → get_or (map one_piece ds) k [] ≡ one_piece (get_or ds k null)
one_at ds k h = get_or-map one_piece ds k null [] (omega (arith, h, length-map ds one_piece))

pub one_there : (ds : List Data) (k : ℕ) → k < length (map one_piece ds) → length (get_or (map one_piece ds) k []) ≡ 1
one_there ds k h = ap length (one_at ds k h)

pub piece_is : (ds : List Data) (k piece : ℕ) → k < length (map one_piece ds) → piece < length (get_or (map one_piece ds) k [])
    → compact_text (get_or ds k null) ≡ get_or (get_or (map one_piece ds) k []) piece []
piece_is ds k piece h within =
    let only : piece ≡ 0 = omega (arith, within, one_there ds k h) in
    sym (ap (λ n. get_or (get_or (map one_piece ds) k []) n []) only ∙ ap (λ (r : Run). get_or r 0 []) (one_at ds k h))

pub ones : (i j : Items) (ds : List Data) (k : ℕ) → i ≡ j → item_pieces j ≡ map one_piece ds → k < length (item_pieces i)
    → 1 ≡ length (get_or (item_pieces i) k [])
ones i j ds k is one h =
    let here : item_pieces i ≡ map one_piece ds = ap item_pieces is ∙ one in
    sym (ap (λ (rs : List Run). length (get_or rs k [])) here ∙ one_there ds k (omega (arith, h, ap length here)))
