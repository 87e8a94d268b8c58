-- Calls by a table of services, and the table as it grows.
use Rattle.std.proofs.Common.{◌≡◌, ℕ, ◌+◌, ◌<◌, Bool, true, false, cond, List, [], ◌∷◌, ◌++◌, take, length, get_or, refl, sym, ap, ◌∙◌, eqb-true}
use Rattle.std.specs.Prelude.{Option, Some, None, IsSome, option_map, is_some, find, slice_get, ◌==◌, if◌then◌else◌}
use Rattle.std.specs.Option.{option_or}
use Rattle.std.specs.List.{filter_map, cons_option}
use Rattle.std.specs.Ordering.{nat_cmp, is_eq}
use Rattle.std.specs.Cmp.{unsigned_ties}
use Rattle.std.proofs.lemmas.List.{take_more}
use Rattle.std.proofs.lemmas.List.Folds.{find-append}
use denote.Ref.{Bor}
use Rattle.jaeger_model.specs.declared.ids.SpanId.{SpanId}
use Rattle.jaeger_model.specs.declared.placed.Placed.{Placed}
use Rattle.jaeger_model.specs.declared.placed.Seen.{Seen}
use Rattle.jaeger_model.specs.declared.span.Span.{Span}
use Rattle.jaeger_model.specs.declared.batch.Batch.{Batch}
use Rattle.jaeger_model.specs.Parents.{domain, parent, with_parent, needs_no_reference, parent_reference}
use Rattle.jaeger_model.proofs.ParentReferences.{same_parent}
use Rattle.trace_model.specs.declared.entry.Work.{Work}
use Rattle.trace_model.specs.declared.entry.Work.TheVariants as brings
use Rattle.trace_model.specs.EntryWork.{batch_brought, placed_brought, service_brought}
use Rattle.trace_model.specs.BorrowedSpans.{placed_by_its_entry}
use Rattle.trace_model.specs.TakenSpans.{Taken}
use Rattle.trace_model.proofs.ParentChains.{is_some-map}
use Rattle.trace_model.proofs.Tables.{entered, kept, entry_map}
use Rattle.trace_model.proofs.TakenSpans as taken_spans
use Rattle.call_links.specs.NumberedCalls.{NumberedService, service_in, service_seen, service_of, has_span_id, text_in, call_by, calls_in_trace}

-- ---- a span as its entry keeps it
id_stays : (s : Span) → (with_parent s).id ≡ s.id
id_stays s =
    elim (needs_no_reference s) as (λ b. (if b then s else record s { references = parent_reference s ∷ s.references }).id ≡ s.id) [
      | true ↦ refl
      | false ↦
          refl
    ]

pub id_kept : (s : Seen) (o : Option Placed) → Some (placed_by_its_entry s) ≡ o → Some s.span.now.id.0 ≡ option_map (λ (p : Placed). p.span.id.0) o
id_kept s o e = ap (λ (id : SpanId). Some id.0) (sym (id_stays s.span.now)) ∙ ap (option_map (λ (p : Placed). p.span.id.0)) e

pub parent_kept : (s : Seen) (o : Option Placed) → Some (placed_by_its_entry s) ≡ o
    → Some (parent s.span.now).0 ≡ option_map (λ (p : Placed). (parent p.span).0) o
parent_kept s o e = ap (λ (id : SpanId). Some id.0) (sym (same_parent s.span.now)) ∙ ap (option_map (λ (p : Placed). (parent p.span).0)) e

pub name_kept : (s : Seen) (o : Option Placed) → Some (placed_by_its_entry s) ≡ o → s.process.now.service ≡ text_in o
name_kept s o e = ap text_in e

-- ---- the span of an entry at an index
pub brought_there : (w : Work) (i : ℕ) (b : Batch) → Some b ≡ batch_brought w → slice_get (domain b) i ≡ slice_get (placed_brought w) i
brought_there (brings.Batch x) i b is = let same : b ≡ x = cc is in ap (λ (y : Batch). slice_get (domain y) i) same
brought_there (brings.TraceLimit n) i b is = absurd (cc is)

pub not_brought : (w : Work) (i : ℕ) → None ≡ batch_brought w → None ≡ slice_get (placed_brought w) i
not_brought (brings.Batch x) i is = absurd (cc is)
not_brought (brings.TraceLimit n) i is = refl

-- ---- the table
own_id : (q id : ℕ) (o : Option Placed) → Some id ≡ option_map (λ (p : Placed). p.span.id.0) o → has_span_id q o ≡ (id == q)
own_id q id None e = absurd cc
own_id q id (Some p) e = let same : p.span.id.0 ≡ id = cc e in ap (λ n. n == q) same

service_push : (q : ℕ) (ss : List Taken) (s : Taken)
    → service_of q (ss ++ s ∷ []) ≡ option_or (service_of q ss) (cond (has_span_id q s.span) (Some (service_in s)) None)
service_push q ss s =
    ap (option_map service_in) (find-append (λ (t : Taken). has_span_id q t.span) ss (s ∷ []))
    ∙ entry_map service_in (find (λ (t : Taken). has_span_id q t.span) ss) (has_span_id q s.span) s

one_more : (xs : List Taken) (i : ℕ) (x : Taken) → i < length xs → x ≡ get_or xs i x → take (i + 1) xs ≡ take i xs ++ x ∷ []
one_more xs i x l e = take_more xs i x l ∙ ap (λ y. take i xs ++ y ∷ []) (sym e)

service_more : (q id : ℕ) (xs : List Taken) (i : ℕ) (x : Taken) (before : Option NumberedService) → i < length xs → x ≡ get_or xs i x
    → Some id ≡ option_map (λ (p : Placed). p.span.id.0) x.span
    → before ≡ service_of q (take i xs) → option_or before (cond (id == q) (Some (service_in x)) None) ≡ service_of q (take (i + 1) xs)
service_more q id xs i x before l e own inv =
    (λ k. option_or (inv k) (cond (sym (own_id q id x.span own) k) (Some (service_in x)) None))
    ∙ sym (ap (service_of q) (one_more xs i x l e) ∙ service_push q (take i xs) x)

-- the services of a table, by the ids
abbrev services_by : (ℕ → Option (Bor Taken)) → ℕ → Option NumberedService
services_by g id = option_map service_seen (g id)

-- the table with one more span, whose id it did not have
pub services_entered : (q id : ℕ) (g : ℕ → Option (Bor Taken)) (o : Option (Bor Taken)) (v : Bor Taken) (xs : List Taken) (i : ℕ) (x : Taken) → i < length xs
    → x ≡ get_or xs i x
    → Some id ≡ option_map (λ (p : Placed). p.span.id.0) x.span → ((id : ℕ) → services_by g id ≡ service_of id (take i xs)) → is_some (g id) ≡ false
    → o ≡ cond (is_eq (nat_cmp id q)) (Some v) (g q) → v.now ≡ x → option_map service_seen o ≡ service_of q (take (i + 1) xs)
services_entered q id g o v xs i x l e own inv none put same =
    ap (option_map service_seen) (put ∙ ap (λ b. cond b (Some v) (g q)) (sym (unsigned_ties id q)) ∙ entered g id q v (id == q) (eqb-true id q) none)
    ∙ entry_map service_seen (g q) (id == q) v
    ∙ ap (λ s. option_or (services_by g q) (cond (id == q) (Some (service_in s)) None)) same
    ∙ service_more q id xs i x (services_by g q) l e own (inv q)

-- and one whose id it has
pub services_kept : (q id : ℕ) (g : ℕ → Option (Bor Taken)) (xs : List Taken) (i : ℕ) (x : Taken) → i < length xs → x ≡ get_or xs i x
    → Some id ≡ option_map (λ (p : Placed). p.span.id.0) x.span → ((id : ℕ) → services_by g id ≡ service_of id (take i xs)) → is_some (g id) ≡ true
    → services_by g q ≡ service_of q (take (i + 1) xs)
services_kept q id g xs i x l e own inv some =
    kept (services_by g) id q (service_in x) (id == q) (eqb-true id q) (is_some-map service_seen (g id) ∙ some)
    ∙ service_more q id xs i x (services_by g q) l e own (inv q)

-- the first span with an id that is put back leaves the table as it was
pub put_back : (q id : ℕ) (g : ℕ → Option (Bor Taken)) (o p : Option (Bor Taken)) (v before : Bor Taken) → o ≡ cond (is_eq (nat_cmp id q)) (Some v) (g q)
    → p ≡ cond (is_eq (nat_cmp id q)) (Some before) o
    → Some before ≡ g id → p ≡ g q
put_back q id g o p v before put again had =
    again ∙ ap (cond (is_eq (nat_cmp id q)) (Some before)) put
    ∙ ap (λ b. cond b (Some before) (cond b (Some v) (g q))) (sym (unsigned_ties id q))
    ∙ by (id == q) (eqb-true id q)
  where
    by : (b : Bool) → (b ≡ true → id ≡ q) → cond b (Some before) (cond b (Some v) (g q)) ≡ g q
    by true same = had ∙ ap g (same refl)
    by false same = refl

-- ---- calls by a table
same_filter_map : {X Y : Type 0} (f g : X → Option Y) → ((x : X) → f x ≡ g x) → (xs : List X) → filter_map f xs ≡ filter_map g xs
same_filter_map f g h [] = refl
same_filter_map f g h (x ∷ xs) = λ i. cons_option (h x i) (same_filter_map f g h xs i)

-- a table of the services of the first spans yields the calls of the trace
pub gathered_calls : (t : ℕ → Option NumberedService) (xs : List Taken) → ((id : ℕ) → t id ≡ service_of id xs) → filter_map (call_by t) xs ≡ calls_in_trace xs
gathered_calls t xs h = same_filter_map (call_by t) (call_by (λ id. service_of id xs)) (λ x. λ i. call_by (λ id. h id i) x) xs

-- ---- the service of a span that its entry has
pub name_there : (w : Work) (i : ℕ) → IsSome (slice_get (placed_brought w) i)
    → Some (service_brought w) ≡ option_map (λ (p : Placed). p.process.service) (slice_get (placed_brought w) i)
name_there = taken_spans.name_there
