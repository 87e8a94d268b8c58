-- The text of an answer's items, piece by piece.
use Rattle.std.specs.Prelude.{ℕ, List, [], ◌∷◌, Option, Some, None, All, map}
use Rattle.serde_json.specs.Data.{Data, string}
use Rattle.serde_json.specs.Written.{compact_text}
use Rattle.query_json.specs.declared.items.Items.{Items}
use Rattle.query_json.specs.declared.items.Items.TheVariants.{Names, Operations, Ids, Links, Traces}
use Rattle.query_json.specs.LentTraces.{IsWritable}
use Rattle.query_json.specs.Runs.{runs}
use Rattle.query_json.specs.TracePieces.{item_tree, trace_pieces}
use Rattle.answer_trees.specs.Trees.{found_tree, id_tree, items_tree, link_tree, operation_tree}

abbrev pub item_trees : Items → List Data
item_trees (Names names) = map string names
item_trees (Operations operations) = map operation_tree operations
item_trees (Ids ids) = map id_tree ids
item_trees (Links links) = map link_tree links
item_trees (Traces traces) = map item_tree traces.items

-- their text, or that of the answer for a trace that was not found
abbrev pub items_text : Option Items → List ℕ
items_text None = compact_text (found_tree None)
items_text (Some items) = compact_text (items_tree (item_trees items))

-- a tree whose text is one piece
abbrev pub one_piece : Data → List (List ℕ)
one_piece d = compact_text d ∷ []

-- the pieces of each item
abbrev pub item_pieces : Items → List (List (List ℕ))
item_pieces (Names names) = map one_piece (map string names)
item_pieces (Operations operations) = map one_piece (map operation_tree operations)
item_pieces (Ids ids) = map one_piece (map id_tree ids)
item_pieces (Links links) = map one_piece (map link_tree links)
item_pieces (Traces traces) = map trace_pieces traces.items

-- the state of each trace
abbrev pub AreWritable : Items → Type 0
AreWritable (Names names) = Unit {0}
AreWritable (Operations operations) = Unit {0}
AreWritable (Ids ids) = Unit {0}
AreWritable (Links links) = Unit {0}
AreWritable (Traces traces) = All IsWritable traces.items

-- the pieces with the separators between items, and the end
abbrev pub runs_of : Items → List (List (List ℕ))
runs_of items = runs (item_pieces items)
