-- No tree has a float.
use Rattle.std.proofs.Common.{◌≡◌, ℕ, suc, ℤ, pos, negsuc, false, List, [], ◌∷◌, map, Some, None, refl}
use Rattle.std.specs.declared.cmp.Ordering.{Ordering}
use Rattle.std.specs.declared.cmp.Ordering.TheVariants.{Less, Equal, Greater}
use Rattle.std.specs.Ordering.{nat_cmp, match_ordering}
use Rattle.std.specs.Cmp.Lexicographic.{slice_cmp}
use Rattle.std.proofs.lemmas.Bool.{or_parts}
use Rattle.serde_json.specs.Data.{Data, string, Members, member, no_members, put}
use Rattle.serde_json.specs.Find.{is_float, of_integer}
use Rattle.serde_json.specs.View.{items_of}
use Rattle.serde_json.specs.Written.{has_float, items_have_float, members_have_float}
use Rattle.jaeger_model.specs.declared.batch.Process.{Process}
use Rattle.jaeger_model.specs.declared.span.Log.{Log}
use Rattle.jaeger_model.specs.declared.span.SpanRef.{SpanRef}
use Rattle.jaeger_model.specs.declared.tag.Tag.{Tag}
use Rattle.jaeger_model.specs.declared.tag.Value.{Value}
use Rattle.jaeger_model.specs.declared.tag.Value.TheVariants as tagged
use Rattle.trace_model.specs.declared.answer.Shown.{Shown}
use Rattle.trace_model.specs.declared.answer.Operation.{Operation}
use Rattle.trace_model.specs.declared.answer.Link.{Link}
use Rattle.trace_model.specs.declared.answer.Answer.{Answer}
use Rattle.trace_model.specs.declared.answer.Answer.TheVariants as say
use Rattle.answer_trees.specs.ProcessNames.{process_name}
use Rattle.answer_trees.specs.Trees.{answer_tree, id_tree, link_tree, log_tree, operation_tree, process_tree, processes_by_name, processes_of}
use Rattle.answer_trees.specs.Trees.{reference_tree, span_tree}
use Rattle.answer_trees.specs.Trees.{tag_tree, trace_tree, value_tree, warnings_tree}

integer_no : (z : ℤ) → is_float (of_integer z) ≡ false
integer_no (pos n) = refl
integer_no (negsuc n) = refl

items_no : {X : Type 0} (f : X → Data) → ((x : X) → has_float (f x) ≡ false) → (xs : List X) → items_have_float (items_of (map f xs)) ≡ false
items_no f h [] = refl
items_no f h (x ∷ xs) = rw (h x) (items_no f h xs)

value_no : (v : Value) → has_float (value_tree v) ≡ false
value_no (tagged.Text t) = refl
value_no (tagged.Double bytes) = refl
value_no (tagged.Bool b) = refl
value_no (tagged.Long z) = integer_no z
value_no (tagged.Bytes bytes) = refl

tag_no : (t : Tag) → has_float (tag_tree t) ≡ false
tag_no t = rw (value_no t.value) refl

log_no : (l : Log) → has_float (log_tree l) ≡ false
log_no l = rw (items_no tag_tree tag_no l.fields, integer_no l.at) refl

reference_no : (r : SpanRef) → has_float (reference_tree r) ≡ false
reference_no r = refl

process_no : (p : Process) → has_float (process_tree p) ≡ false
process_no p = rw (items_no tag_tree tag_no p.tags) refl

warnings_no : (ws : List (List ℕ)) → has_float (warnings_tree ws) ≡ false
warnings_no [] = refl
warnings_no (w ∷ ws) = items_no string (λ t. refl) ws

span_no : (ps : List Process) (s : Shown) → has_float (span_tree ps s) ≡ false
span_no ps s =
    rw (
      integer_no s.placed.span.duration,
      items_no log_tree log_no s.placed.span.logs,
      items_no reference_tree reference_no s.placed.span.references,
      integer_no s.placed.span.start,
      items_no tag_tree tag_no s.placed.span.tags,
      warnings_no s.warnings,
    ) refl

put_no : (k : List ℕ) (d : Data) (ms : Members) → has_float d ≡ false → members_have_float ms ≡ false → members_have_float (put k d ms) ≡ false
put_no k d no_members h rest = rw h refl
put_no k d (member l e ms) h rest = by (slice_cmp nat_cmp k l) (put_no k d ms h (or_parts (has_float e) (members_have_float ms) rest).1)
  where
    by : (o : Ordering) → members_have_float (put k d ms) ≡ false
        → members_have_float (match_ordering o (member k d (member l e ms)) (member l d ms) (member l e (put k d ms))) ≡ false
    by Less below = rw h rest
    by Equal below = rw h (or_parts (has_float e) (members_have_float ms) rest).1
    by Greater below = rw (or_parts (has_float e) (members_have_float ms) rest).0 below

named_no : (k : ℕ) (ps : List Process) (ms : Members) → members_have_float ms ≡ false → members_have_float (processes_by_name k ps ms) ≡ false
named_no k [] ms h = h
named_no k (p ∷ ps) ms h = named_no (suc k) ps (put (process_name k) (process_tree p) ms) (put_no (process_name k) (process_tree p) ms (process_no p) h)

pub trace_no : (ss : List Shown) → has_float (trace_tree ss) ≡ false
trace_no ss = rw (named_no 0 (processes_of ss) no_members refl, items_no (span_tree (processes_of ss)) (span_no (processes_of ss)) ss) refl

operation_no : (o : Operation) → has_float (operation_tree o) ≡ false
operation_no o = refl

link_no : (l : Link) → has_float (link_tree l) ≡ false
link_no l = refl

pub answer_no : (a : Answer) → has_float (answer_tree a) ≡ false
answer_no (say.Trace None) = refl
answer_no (say.Trace (Some ss)) = rw (trace_no ss) refl
answer_no (say.Names ns) = rw (items_no string (λ t. refl) ns) refl
answer_no (say.Operations os) = rw (items_no operation_tree operation_no os) refl
answer_no (say.Traces ts) = rw (items_no trace_tree trace_no ts) refl
answer_no (say.Ids ts) = rw (items_no id_tree (λ t. refl) ts) refl
answer_no (say.Links ls) = rw (items_no link_tree link_no ls) refl
