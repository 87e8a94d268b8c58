-- What the arrivals report, by their numbers.
use Rattle.std.proofs.Common.{◌≡◌, ℕ, zero, suc, ◌-◌, ◌<◌, true, false, List, [], ◌∷◌, ◌++◌, map, length, get_or, take, refl, sym, ap, subst, ◌∙◌, arith}
use Rattle.std.proofs.Common.{length-append}
use Rattle.std.specs.Prelude.{if◌then◌else◌, cond, nat_lt, Some, None, slice_get, option_map, unwrap_or}
use Rattle.std.specs.Arc.{arc_value}
use Rattle.std.specs.declared.sync.Arc.{Arc}
use Rattle.std.specs.Global.{Global}
use Rattle.std.proofs.lemmas.Bool.{false≢true, ltb-true, lt-ltb}
use Rattle.std.proofs.lemmas.List.{length-map, get_or-map, map-append, take_at, get_or_append_left, get_or_default}
use Rattle.jaeger_model.specs.declared.placed.Placed.{Placed}
use Rattle.jaeger_model.specs.declared.batch.Batch.{Batch}
use Rattle.jaeger_model.specs.declared.span.Span.{Span}
use Rattle.jaeger_model.specs.Parents.{placed, needs_no_reference, parent_reference}
use Rattle.jaeger_model.specs.Tags.{kind_of}
use Rattle.jaeger_model.specs.Texts.{same_text, sorted_set}
use Rattle.trace_model.specs.declared.entry.Entry.{Entry}
use Rattle.trace_model.specs.declared.entry.Work.{Work}
use Rattle.trace_model.specs.declared.entry.Work.TheVariants as brings
use Rattle.trace_model.specs.EntryWork.{spans_brought, placed_brought, service_brought, operation_brought}
use Rattle.trace_model.specs.Histories.{arrivals}
use Rattle.service_index.specs.ListedNames.{Listed, listed, listed_in, listed_cmp}
use Rattle.service_index.specs.Labels.{Extends, IsServiceNumberOf, service_alone}
use Rattle.service_index.specs.Indexes.{Index, IsIndexed, listing_by, has_service}
use Rattle.service_index.proofs.MoreNames.{listing_extends}
use Rattle.service_index.proofs.ListedSets.{listed_exact}
use Rattle.trace_model.proofs.SortedSets.{any_set}
use Rattle.trace_model.proofs.NameLaws.{any_map, text_apart}
use Rattle.trace_model.specs.Histories.{before_last}
use Rattle.service_index.specs.ServicePlaces.{reporters, service_at, service_number_in, service_number_of}
use Rattle.trace_model.proofs.LastEntries.{last_of}
use Rattle.service_index.proofs.ServiceNumbers.{as_many_reporters, service_number_known}
use Rattle.service_index.specs.ArrivalNumbers.{AreOf}
use Rattle.service_index.specs.KeptNames.{reports, reported_at, names_of_arrivals, reports_service}
use Rattle.service_index.specs.ArrivalServiceLaws.{arrival_number, numbers_keyed}
use Rattle.service_index.proofs.NumbersOfEntry.{arrivals_push}

-- what a span of a batch reports
abbrev pub reported : Batch → Span → Listed
reported b s = record { service = b.process.service; operation = record { name = s.operation; kind = kind_of s } }

pub listed-placed : (b : Batch) (s : Span) → listed (placed b s) ≡ reported b s
listed-placed b s =
    elim (needs_no_reference s) as (λ c.
    listed (record { process = b.process; span = if c then s else record s { references = parent_reference s ∷ s.references } }) ≡ reported b s) [
      | true ↦ refl
      | false ↦ refl
    ]

-- the entry that the arrival of a number came in, which has the span
pub came_in : (entries : List (Arc Entry Global)) (entry_of firsts : List ℕ) (n : ℕ) (a : Arc Entry Global) (e : Entry)
    → AreOf (map arc_value entries) entry_of firsts → n < length (arrivals (map arc_value entries))
    → e ≡ arc_value (get_or entries (get_or entry_of n 0) a)
    → (n < length entry_of) × (e ≡ get_or (map arc_value entries) (get_or entry_of n 0) e)
    × ((w : Work) → e.work ≡ w → n - get_or firsts (get_or entry_of n 0) 0 < length (spans_brought w))
came_in entries entry_of firsts n a e kept asked value =
    let many = kept.as_many in
    let below : n < length entry_of = omega arith in
    let at = kept.at n below in
    let entry = at.entry in
    let l = length-map entries arc_value in
    let there : e ≡ get_or (map arc_value entries) (get_or entry_of n 0) e =
    value ∙ sym (get_or-map arc_value entries (get_or entry_of n 0) a e (omega arith)) in
    (below, there, λ w is. subst (λ (v : Work). n - get_or firsts (get_or entry_of n 0) 0 < length (spans_brought v)) is (at.within e there))

-- one more entry
pub reports_push : (h : List Entry) (e : Entry) → reports (h ++ e ∷ []) ≡ reports h ++ map listed (placed_brought e.work)
reports_push h e = ap (map listed) (arrivals_push h e) ∙ map-append listed (arrivals h) (placed_brought e.work)

reported_still : (h : List Entry) (e : Entry) (n : ℕ) → n < length (arrivals h) → reported_at (h ++ e ∷ []) n ≡ reported_at h n
reported_still h e n below =
    let m = length-map (arrivals h) listed in
    ap (λ ls. get_or ls n (service_alone [])) (reports_push h e)
    ∙ get_or_append_left (reports h) (map listed (placed_brought e.work)) (service_alone []) n (omega arith)

pub names_more : (h : List Entry) (e : Entry) → Extends (names_of_arrivals h) (names_of_arrivals (h ++ e ∷ []))
names_more h e =
    let l = length-append (arrivals h) (placed_brought e.work) in
    let a = ap (λ (ps : List Placed). length ps) (arrivals_push h e) in
    record {
      count = omega arith;
      same = λ n below. reported_still h e n below;
      service_number = λ n below.
          let r = as_many_reporters h in
          let w = arrival_number h n below in
          ap (λ (l : Listed). service_number_in (h ++ e ∷ []) l.service) (reported_still h e n below)
          ∙ service_number_known h (h ++ e ∷ []) e (reported_at h n).service refl (omega arith);
    }

-- ---- the service of an arrival is that of its entry
service_placed : (b : Batch) (ss : List Span) (i : ℕ) (d : Placed) → i < length ss → (get_or (map (placed b) ss) i d).process.service ≡ b.process.service
service_placed b [] i d below = absurd (omega arith)
service_placed b (s ∷ ss) zero d below = refl
service_placed b (s ∷ ss) (suc i) d below = service_placed b ss i d (omega arith)

service_came : (w : Work) (i : ℕ) (d : Placed) → i < length (spans_brought w) → (get_or (placed_brought w) i d).process.service ≡ service_brought w
service_came (brings.Batch b) i d below = service_placed b b.spans i d below
service_came (brings.TraceLimit n) i d below = absurd (omega arith)

name_placed : (b : Batch) (ss : List Span) (i : ℕ) (d : Placed) → i < length ss
    → (listed (get_or (map (placed b) ss) i d)).operation.name ≡ unwrap_or (option_map (λ (s : Span). s.operation) (slice_get ss i)) []
name_placed b [] i d below = absurd (omega arith)
name_placed b (s ∷ ss) zero d below = ap (λ (l : Listed). l.operation.name) (listed-placed b s)
name_placed b (s ∷ ss) (suc i) d below = name_placed b ss i d (omega arith)

name_came : (w : Work) (i : ℕ) (d : Placed) → i < length (spans_brought w) → (listed (get_or (placed_brought w) i d)).operation.name ≡ operation_brought w i
name_came (brings.Batch b) i d below = name_placed b b.spans i d below
name_came (brings.TraceLimit n) i d below = absurd (omega arith)

pub some_of : {X : Type 0} (xs : List X) (n : ℕ) → n < length xs → X
some_of [] n below = absurd (omega arith)
some_of (x ∷ xs) n below = x

pub service_reported : (h : List Entry) (entry_of firsts : List ℕ) (n : ℕ) → AreOf h entry_of firsts → n < length entry_of
    → (reported_at h n).service ≡ service_at h (get_or entry_of n 0)
service_reported h entry_of firsts n a below =
    let many = a.as_many in
    let k = get_or entry_of n 0 in
    let i = n - get_or firsts k 0 in
    let at = a.at n below in
    let e = get_or h k (some_of h k at.entry) in
    let there : e ≡ get_or h k e = get_or_default h k (some_of h k at.entry) e at.entry in
    let d = some_of (arrivals h) n (omega arith) in
    ap (λ (l : Listed). l.service) (get_or-map listed (arrivals h) n d (service_alone []) (omega arith))
    ∙ ap (λ (p : Placed). p.process.service) (at.is e there d)
    ∙ service_came e.work i d (at.within e there) ∙ ap (λ (x : Entry). service_brought x.work) there
    ∙ sym (get_or-map (λ (x : Entry). service_brought x.work) h k e [] at.entry)

-- ---- what an entry implies for the arrival that came in it
module _ (h : List Entry) (entry_of firsts : List ℕ) (n : ℕ) (a : AreOf h entry_of firsts) (below : n < length entry_of) (e : Entry)
    (there : e ≡ get_or h (get_or entry_of n 0) e) where
  abbrev index : ℕ
  index = n - get_or firsts (get_or entry_of n 0) 0

  abbrev arrival : Placed
  arrival = some_of (arrivals h) n (let many = a.as_many in omega arith)

  reported_is : reported_at h n ≡ listed (get_or (placed_brought e.work) index arrival)
  reported_is =
      let many = a.as_many in
      get_or-map listed (arrivals h) n arrival (service_alone []) (omega arith) ∙ ap listed ((a.at n below).is e there arrival)

  pub service_named : (reported_at h n).service ≡ service_brought e.work
  service_named = ap (λ (l : Listed). l.service) reported_is ∙ service_came e.work index arrival ((a.at n below).within e there)

  pub name_named : (reported_at h n).operation.name ≡ operation_brought e.work index
  name_named = ap (λ (l : Listed). l.operation.name) reported_is ∙ name_came e.work index arrival ((a.at n below).within e there)

-- ---- a list and its last entry
pub extends_last : (h : List Entry) → 0 < length h → Extends (names_of_arrivals (before_last h)) (names_of_arrivals h)
extends_last h some =
    let last = last_of h some in
    subst (λ (x : List Entry). Extends (names_of_arrivals (before_last h)) (names_of_arrivals x)) last.1 (names_more (before_last h) last.0)

pub listed_before : (h : List Entry) (index : Index) (first : ℕ) → 0 < length h → IsIndexed (names_of_arrivals (before_last h)) index
    → listing_by (names_of_arrivals (before_last h)) index ≡ listed_in (arrivals (before_last h))
    → first ≡ length (arrivals (before_last h)) → listing_by (names_of_arrivals h) index ≡ sorted_set listed_cmp (take first (reports h))
listed_before h index first some indexed so_far is =
    let last = last_of h some in
    let before = before_last h in
    let l = length-map (arrivals before) listed in
    listing_extends (names_of_arrivals before) (names_of_arrivals h) index (extends_last h some) indexed ∙ so_far
    ∙ ap (sorted_set listed_cmp) (sym
    (ap (take first) (ap reports (sym last.1) ∙ reports_push before last.0)
    ∙ take_at (reports before) (map listed (placed_brought last.0.work)) first (omega arith)))

pub services_reported : (s : List ℕ) (ps : List Placed) → has_service s (listed_in ps) ≡ reports_service s ps
services_reported s ps =
    any_set listed_exact (λ (l : Listed). same_text s l.service) (map listed ps) ∙ any_map (λ (l : Listed). same_text s l.service) listed ps

-- ---- the number of a requested service
pub service_numbers_asked : (h : List Entry) (s : List ℕ) → IsServiceNumberOf (names_of_arrivals h) s (service_number_of h s)
service_numbers_asked h s =
    elim (nat_lt (service_number_in h s) (length (reporters h))) as (λ b. nat_lt (service_number_in h s) (length (reporters h)) ≡ b
    → IsServiceNumberOf (names_of_arrivals h) s (cond b (Some (service_number_in h s)) None)) [
      | true ↦ λ e n below. numbers_keyed h s (reported_at h n).service (ltb-true (service_number_in h s) (length (reporters h)) e) (arrival_number h n below)
      | false ↦ λ e n below. text_apart s (reported_at h n).service (λ one.
          let w = arrival_number h n below in
          let same = ap (service_number_in h) one in
          false≢true (sym e ∙ lt-ltb (service_number_in h s) (length (reporters h)) (omega arith)))
    ] refl
