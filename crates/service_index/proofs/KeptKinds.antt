-- The kinds of arrivals, in a byte each.
use Rattle.std.proofs.Common.{◌≡◌, ℕ, ◌<◌, ◌≤◌, List, [], ◌∷◌, ◌++◌, map, length, take, drop, min, get_or, refl, sym, ap, ◌∙◌, arith}
use Rattle.std.proofs.lemmas.List.{length-map, length-take, get_or-map, map-append, append_assoc, take_min, take-append-drop}
use Rattle.jaeger_model.specs.declared.batch.Batch.{Batch}
use Rattle.jaeger_model.specs.declared.span.Span.{Span}
use Rattle.jaeger_model.specs.Parents.{placed}
use Rattle.jaeger_model.specs.Tags.{kind_of}
use Rattle.trace_model.specs.declared.entry.Entry.{Entry}
use Rattle.trace_model.specs.declared.entry.Work.{Work}
use Rattle.trace_model.specs.declared.entry.Work.TheVariants as brings
use Rattle.trace_model.specs.EntryWork.{spans_brought, placed_brought}
use Rattle.trace_model.specs.Histories.{arrivals}
use Rattle.service_index.specs.ListedNames.{Listed, listed}
use Rattle.service_index.specs.Labels.{service_alone}
use Rattle.jaeger_model.specs.declared.kind.Kind.{Kind}
use Rattle.jaeger_model.specs.Kinds.{kind_text}
use Rattle.service_index.specs.KeptNames.{reports, AreKinds}
use Rattle.service_index.proofs.ArrivalReports.{listed-placed, reports_push}

kinds_of_spans : (b : Batch) (ss : List Span) → map (λ (l : Listed). l.operation.kind) (map listed (map (placed b) ss)) ≡ map kind_of ss
kinds_of_spans b [] = refl
kinds_of_spans b (s ∷ ss) = λ i. ap (λ (l : Listed). l.operation.kind) (listed-placed b s) i ∷ kinds_of_spans b ss i

kinds_brought : (w : Work) → map (λ (l : Listed). l.operation.kind) (map listed (placed_brought w)) ≡ map kind_of (spans_brought w)
kinds_brought (brings.Batch b) = kinds_of_spans b b.spans
kinds_brought (brings.TraceLimit n) = refl

-- one more entry, and the kinds of its spans
pub kinds_more : (h : List Entry) (e : Entry) (before now : List Kind) → AreKinds h before
    → map kind_text now ≡ map kind_text before ++ map kind_of (spans_brought e.work) → AreKinds (h ++ e ∷ []) now
kinds_more h e before now are is =
    is ∙ (λ i. are i ++ sym (kinds_brought e.work) i) ∙ sym (map-append (λ (l : Listed). l.operation.kind) (reports h) (map listed (placed_brought e.work)))
    ∙ ap (map (λ (l : Listed). l.operation.kind)) (sym (reports_push h e))

pub as_many_kinds : (h : List Entry) (kinds : List Kind) → AreKinds h kinds → length kinds ≡ length (arrivals h)
as_many_kinds h kinds are =
    sym (length-map kinds kind_text) ∙ ap (λ (ts : List (List ℕ)). length ts) are ∙ length-map (reports h) (λ (l : Listed). l.operation.kind)
    ∙ length-map (arrivals h) listed

-- the kind of an arrival
pub kind_is : (h : List Entry) (kinds : List Kind) (n : ℕ) (k : Kind) → AreKinds h kinds → n < length kinds
    → kind_text (get_or kinds n k) ≡ (get_or (reports h) n (service_alone [])).operation.kind
kind_is h kinds n k are below =
    let many = as_many_kinds h kinds are in
    let all = length-map (arrivals h) listed in
    sym (get_or-map kind_text kinds n k [] below) ∙ ap (λ (ts : List (List ℕ)). get_or ts n []) are
    ∙ get_or-map (λ (l : Listed). l.operation.kind) (reports h) n (service_alone []) [] (omega arith)

-- ---- the kinds of the first spans are known, and those of the others are found
pub fewer_kinds : (known : List Kind) (ss : List Span) → map kind_text known ≡ map kind_of (take 32 ss) → length known ≤ length ss
fewer_kinds known ss are =
    let many : length known ≡ length (take 32 ss) =
    sym (length-map known kind_text) ∙ ap (λ (ts : List (List ℕ)). length ts) are ∙ length-map (take 32 ss) kind_of in
    omega (arith, length-take 32 ss)

pub first_and_rest : (old known : List Kind) (ss : List Span) → map kind_text known ≡ map kind_of (take 32 ss)
    → (map kind_text old ++ map kind_text known) ++ map kind_of (drop (length known) ss) ≡ map kind_text old ++ map kind_of ss
first_and_rest old known ss are =
    let many : length known ≡ min 32 (length ss) =
    sym (length-map known kind_text) ∙ ap (λ (ts : List (List ℕ)). length ts) are ∙ length-map (take 32 ss) kind_of ∙ length-take 32 ss in
    let first : map kind_text known ≡ map kind_of (take (length known) ss) = are ∙ ap (map kind_of) (sym (take_min 32 ss) ∙ ap (λ n. take n ss) (sym many)) in
    append_assoc (map kind_text old) (map kind_text known) (map kind_of (drop (length known) ss))
    ∙ ap (λ ts. map kind_text old ++ ts)
    (ap (λ ts. ts ++ map kind_of (drop (length known) ss)) first ∙ sym (map-append kind_of (take (length known) ss) (drop (length known) ss))
    ∙ ap (map kind_of) (take-append-drop (length known) ss))
