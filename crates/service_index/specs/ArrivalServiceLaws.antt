-- Laws that the impls of this crate name, and their lemmas. A clause can't name its own crate's proofs/, so they are in
-- specs/.
-- The arrivals of one service have one number of a service, and no others have it.
use Rattle.std.proofs.Common.{◌≡◌, ℕ, Bool, true, false, ◌||◌, ◌<◌, List, [], ◌∷◌, map, length, refl, sym, ap, ◌∙◌, arith}
use Rattle.std.specs.Prelude.{◌==◌}
use Rattle.std.specs.List.{list_any}
use Rattle.std.proofs.lemmas.Bool.{false≢true, ltb-true}
use Rattle.std.proofs.lemmas.List.{length-map}
use Rattle.std.proofs.lemmas.List.Sums.{passes_at_first}
use Rattle.std.proofs.lemmas.List.Folds.{list_any-append, list_any_at}
use Rattle.std.proofs.lemmas.List.Concat.{flat_map-cons}
use Rattle.jaeger_model.specs.declared.batch.Batch.{Batch}
use Rattle.jaeger_model.specs.declared.placed.Placed.{Placed}
use Rattle.jaeger_model.specs.declared.span.Span.{Span}
use Rattle.jaeger_model.specs.Parents.{placed}
use Rattle.jaeger_model.specs.Texts.{same_text}
use Rattle.trace_model.specs.declared.entry.Entry.{Entry}
use Rattle.trace_model.specs.declared.entry.Work.{Work}
use Rattle.trace_model.specs.declared.entry.Work.TheVariants as brings
use Rattle.trace_model.specs.EntryWork.{placed_brought, service_brought}
use Rattle.trace_model.specs.Histories.{arrivals}
use Rattle.trace_model.proofs.NameLaws.{any_map, same_where, text_is, text_self}
use Rattle.service_index.specs.ListedNames.{Listed, listed}
use Rattle.service_index.specs.Labels.{IsNumberedByService, service_alone}
use Rattle.trace_model.proofs.Lists.{is_position}
use Rattle.service_index.specs.ServicePlaces.{reporters, service_at, service_number_in}
use Rattle.service_index.specs.KeptNames.{reports, reported_at, names_of_arrivals}

-- ---- the service of an arrival is one of those of the entries
any_placed : (p : List ℕ → Bool) (b : Batch) (ss : List Span) → list_any (λ (d : Placed). p d.process.service) (map (placed b) ss) ≡ true
    → p b.process.service ≡ true
any_placed p b [] e = absurd (false≢true e)
any_placed p b (s ∷ ss) e =
    elim (p b.process.service) as (λ v. p b.process.service ≡ v → (v || list_any (λ (d : Placed). p d.process.service) (map (placed b) ss)) ≡ true
    → p b.process.service ≡ true) [
      | true ↦ λ f _. f
      | false ↦ λ _ r. any_placed p b ss r
    ] refl e

any_brought : (p : List ℕ → Bool) (w : Work) → list_any (λ (d : Placed). p d.process.service) (placed_brought w) ≡ true → p (service_brought w) ≡ true
any_brought p (brings.Batch b) e = any_placed p b b.spans e
any_brought p (brings.TraceLimit n) e = absurd (false≢true e)

or_more : (a b c d : Bool) → (a ≡ true → c ≡ true) → (b ≡ true → d ≡ true) → (a || b) ≡ true → (c || d) ≡ true
or_more true b c d f g e = ap (λ x. x || d) (f refl)
or_more false b true d f g e = refl
or_more false b false d f g e = g e

any_arrived : (p : List ℕ → Bool) (h : List Entry) → list_any (λ (d : Placed). p d.process.service) (arrivals h) ≡ true → list_any p (reporters h) ≡ true
any_arrived p [] e = absurd (false≢true e)
any_arrived p (x ∷ h) e =
    let test : Placed → Bool = λ d. p d.process.service in
    or_more (list_any test (placed_brought x.work)) (list_any test (arrivals h)) (p (service_brought x.work)) (list_any p (reporters h)) (any_brought p x.work)
    (any_arrived p h)
    (sym (list_any-append test (placed_brought x.work) (arrivals h)) ∙ sym (ap (list_any test) (flat_map-cons (λ (y : Entry). placed_brought y.work) x h)) ∙ e)

-- ---- the number of a service that some entry has
pub service_has_number : (h : List Entry) (s : List ℕ) → list_any (same_text s) (reporters h) ≡ true → service_number_in h s < length (reporters h)
service_has_number h s e = ltb-true (service_number_in h s) (length (reporters h)) (is_position (same_text s) (reporters h) [] ∙ e)

pub service_of_number : (h : List Entry) (s : List ℕ) → service_number_in h s < length (reporters h) → s ≡ service_at h (service_number_in h s)
service_of_number h s below = text_is s (service_at h (service_number_in h s)) (passes_at_first (same_text s) (reporters h) [] below)

pub arrival_number : (h : List Entry) (n : ℕ) → n < length (arrivals h) → service_number_in h (reported_at h n).service < length (reporters h)
arrival_number h n below =
    let s = (reported_at h n).service in
    let m = length-map (arrivals h) listed in
    service_has_number h s (any_arrived (same_text s) h (sym (any_map (λ (l : Listed). same_text s l.service) listed (arrivals h))
    ∙ list_any_at (λ (l : Listed). same_text s l.service) (reports h) n (service_alone []) (omega arith) (text_self s)))

-- services that entries have are equal if their numbers are
pub numbers_keyed : (h : List Entry) (s t : List ℕ) → service_number_in h s < length (reporters h) → service_number_in h t < length (reporters h)
    → (service_number_in h s == service_number_in h t) ≡ same_text s t
numbers_keyed h s t a b =
    same_where (service_number_in h s) (service_number_in h t) s t
    (λ one. service_of_number h s a ∙ ap (service_at h) one ∙ sym (service_of_number h t b)) (ap (service_number_in h))

pub names_numbered : (h : List Entry) → IsNumberedByService (names_of_arrivals h)
names_numbered h = record {
  same = λ n m below within. numbers_keyed h (reported_at h n).service (reported_at h m).service (arrival_number h n below) (arrival_number h m within);
}
