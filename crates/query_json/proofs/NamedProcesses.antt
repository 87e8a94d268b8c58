-- Processes in a map by their names.
use Rattle.std.proofs.Common.{◌≡◌, ◌<◌, ℕ, List, [], ◌∷◌, length, map, Ordering, Less, Equal, Greater, Bor, refl, sym, ap, ◌∙◌}
use Rattle.std.specs.Prelude.{All, Option, Some, None, option_map, slice_get}
use Rattle.std.specs.Ordering.{match_ordering, nat_cmp}
use Rattle.std.specs.Cmp.Lexicographic.{slice_cmp}
use Rattle.std.specs.BTreeMap.{insert_entry}
use Rattle.std.proofs.lemmas.List.{get_or-map}
use Rattle.std.proofs.lemmas.List.Elements.{All-cons, All-nil}
use Rattle.std.proofs.lemmas.Map.Lookups.{exact_bytes}
use Rattle.std.proofs.lemmas.Option.{get_or_from_slice_get, slice_get_within}
use Rattle.serde_json.specs.Data.{Members, member, null, put}
use Rattle.trace_model.specs.declared.answer.Shown.{Shown}
use Rattle.answer_trees.specs.declared.naming.FirstSpan.{FirstSpan}
use Rattle.query_json.specs.declared.writing.processes.NamedProcess.{NamedProcess}
use Rattle.query_json.specs.NamedProcesses.{HasSpan, name_of, named_members, process_tree_at, shown_process_tree}
use Rattle.answer_trees.specs.ProcessNumbers.{IsFirst}
use Rattle.answer_trees.specs.Trees.{process_of, process_tree}

abbrev pub Entry : Type 0
Entry = Bor (List ℕ) × NamedProcess

-- the key of each is its name
abbrev pub AreKeyed : List Entry → Type 0
AreKeyed [] = Unit {0}
AreKeyed (e ∷ es) = (e.0.now ≡ name_of e.1) × AreKeyed es

abbrev cmp : Bor (List ℕ) → Bor (List ℕ) → Ordering
cmp a b = slice_cmp nat_cmp a.now b.now

abbrev members_of : List Shown → List Entry → Members
members_of ss es = named_members ss (map (λ e. e.1) es)

-- one of the spans has each
abbrev pub HaveSpans : List Shown → List Entry → Type 0
HaveSpans ss [] = Unit {0}
HaveSpans ss (e ∷ es) = HasSpan ss e.1 × HaveSpans ss es

pub have_insert : (ss : List Shown) (es : List Entry) (k : Bor (List ℕ)) (p : NamedProcess) → HasSpan ss p → HaveSpans ss es
    → HaveSpans ss (insert_entry cmp es k p)
have_insert ss [] k p own h = (own, tt)
have_insert ss (x ∷ es) k p own h = by (cmp k x.0) (have_insert ss es k p own h.1)
  where
    by : (o : Ordering) → HaveSpans ss (insert_entry cmp es k p)
        → HaveSpans ss (match_ordering o ((k, p) ∷ x ∷ es) ((x.0, p) ∷ es) (x ∷ insert_entry cmp es k p))
    by Less rest = (own, h)
    by Equal rest = (own, h.1)
    by Greater rest = (h.0, rest)

pub have_all : (ss : List Shown) (es : List Entry) → HaveSpans ss es → All (HasSpan ss) (map (λ e. e.1) es)
have_all ss [] h = All-nil (HasSpan ss)
have_all ss (e ∷ es) h = All-cons (HasSpan ss) e.1 (map (λ x. x.1) es) h.0 (have_all ss es h.1)

-- the first span that has a process
pub first_within : (ss : List Shown) (f : FirstSpan) → IsFirst ss f → f.span < length ss
first_within ss f is = by (slice_get ss f.span) refl is
  where
    by : (o : Option Shown) → slice_get ss f.span ≡ o → option_map process_of o ≡ Some f.process.now → f.span < length ss
    by None at e = absurd (cc (e))
    by (Some s) at e = slice_get_within ss f.span s at

pub first_tree : (ss : List Shown) (f : FirstSpan) → IsFirst ss f → process_tree_at ss f.span ≡ process_tree f.process.now
first_tree ss f is = by (slice_get ss f.span) refl is
  where
    by : (o : Option Shown) → slice_get ss f.span ≡ o → option_map process_of o ≡ Some f.process.now → process_tree_at ss f.span ≡ process_tree f.process.now
    by None at e = absurd (cc (e))
    by (Some s) at e =
        let own : process_of s ≡ f.process.now = cc (e) in
        get_or-map shown_process_tree ss f.span s null (slice_get_within ss f.span s at) ∙ ap shown_process_tree (get_or_from_slice_get ss f.span s s at)
        ∙ ap process_tree own

pub keyed_insert : (es : List Entry) (k : Bor (List ℕ)) (p : NamedProcess) → k.now ≡ name_of p → AreKeyed es → AreKeyed (insert_entry cmp es k p)
keyed_insert [] k p e h = (e, tt)
keyed_insert (x ∷ es) k p e h = by (cmp k x.0) refl (keyed_insert es k p e h.1)
  where
    by : (o : Ordering) → cmp k x.0 ≡ o → AreKeyed (insert_entry cmp es k p)
        → AreKeyed (match_ordering o ((k, p) ∷ x ∷ es) ((x.0, p) ∷ es) (x ∷ insert_entry cmp es k p))
    by Less is rest = (e, h)
    by Equal is rest = (sym (exact_bytes k.now x.0.now is) ∙ e, h.1)
    by Greater is rest = (h.0, rest)

-- the map's insert is the object's
pub named_insert : (ss : List Shown) (es : List Entry) (k : Bor (List ℕ)) (p : NamedProcess) → k.now ≡ name_of p → AreKeyed es
    → members_of ss (insert_entry cmp es k p) ≡ put (name_of p) (process_tree_at ss p.span) (members_of ss es)
named_insert ss [] k p e h = refl
named_insert ss (x ∷ es) k p e h =
    by (cmp k x.0) refl (named_insert ss es k p e h.1)
    ∙ ap (λ o. match_ordering o (member (name_of p) (process_tree_at ss p.span) (members_of ss (x ∷ es)))
    (member (name_of x.1) (process_tree_at ss p.span) (members_of ss es))
    (member (name_of x.1) (process_tree_at ss x.1.span) (put (name_of p) (process_tree_at ss p.span) (members_of ss es)))) same
  where
    same : cmp k x.0 ≡ slice_cmp nat_cmp (name_of p) (name_of x.1)
    same = ap (λ n. slice_cmp nat_cmp n x.0.now) e ∙ ap (slice_cmp nat_cmp (name_of p)) h.0

    by : (o : Ordering) → cmp k x.0 ≡ o → members_of ss (insert_entry cmp es k p) ≡ put (name_of p) (process_tree_at ss p.span) (members_of ss es)
        → members_of ss (match_ordering o ((k, p) ∷ x ∷ es) ((x.0, p) ∷ es) (x ∷ insert_entry cmp es k p))
        ≡ match_ordering o (member (name_of p) (process_tree_at ss p.span) (members_of ss (x ∷ es)))
        (member (name_of x.1) (process_tree_at ss p.span) (members_of ss es))
        (member (name_of x.1) (process_tree_at ss x.1.span) (put (name_of p) (process_tree_at ss p.span) (members_of ss es)))
    by Less is rest = refl
    by Equal is rest = ap (λ n. member n (process_tree_at ss p.span) (members_of ss es)) (sym e ∙ exact_bytes k.now x.0.now is ∙ h.0)
    by Greater is rest = ap (λ ms. member (name_of x.1) (process_tree_at ss x.1.span) ms) rest
