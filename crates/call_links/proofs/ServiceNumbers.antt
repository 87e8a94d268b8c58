-- Numbers tell services apart, so calls by numbers are calls by texts.
use Rattle.std.proofs.Common.{◌≡◌, ℕ, true, false, cond, List, [], ◌∷◌, ◌++◌, map, refl, sym, ap, ◌∙◌}
use Rattle.std.specs.Prelude.{Option, Some, None, IfSome, option_map, find, filter_map, flat_map, ◌==◌, if◌then◌else◌}
use Rattle.std.specs.List.{All, AllByRecursion, cons_option}
use Rattle.std.proofs.lemmas.List.{map-append}
use Rattle.std.proofs.lemmas.List.Elements.{recursion_from_All}
use Rattle.jaeger_model.specs.declared.placed.Placed.{Placed}
use Rattle.jaeger_model.specs.Parents.{parent}
use Rattle.jaeger_model.specs.Texts.{same_text}
use Rattle.trace_model.specs.ServiceLinks.{has_id, parent_in, call_from, calls_of}
use Rattle.trace_model.specs.TakenSpans.{Taken, placed_taken}
use Rattle.call_links.specs.NumberedCalls.{NumberedService, NumberedCall, service_in, service_of, has_span_id}
use Rattle.call_links.specs.NumberedCalls.{call_between, call_by, calls_in_trace, calls_in_traces}
use Rattle.call_links.specs.NumberedCalls.{texts_called, StandsFor, AreCallsNumberedBy, AreNumberedBy, IsNumberedBy}
use Rattle.trace_model.proofs.Lists.{each_append}
use Rattle.trace_model.proofs.NameLaws.{same_where}

abbrev taken : ℕ → Option Placed → Taken
taken n o = record { span = o; number = n }

module _ (text : ℕ → List ℕ) (number : List ℕ → ℕ) where
  abbrev Stands : NumberedService → Type 0
  Stands t = StandsFor text number t

  -- two services have the same number if they have the same text
  pub same_by_number : (a b : NumberedService) → Stands a → Stands b → (a.0 == b.0) ≡ same_text a.1 b.1
  same_by_number a b p q = same_where a.0 b.0 a.1 b.1 (λ one. sym p.1 ∙ ap text one ∙ q.1) (λ one. p.0 ∙ ap number one ∙ sym q.0)

  abbrev Named : Taken → Type 0
  Named s = IsNumberedBy text number s

  abbrev CallStands : NumberedCall → Type 0
  CallStands c = Stands c.0 × Stands c.1

  found_next : (id n : ℕ) (o : Option Placed) (ss : List Taken) → Named (taken n o) → IfSome (service_of id ss) Stands
      → IfSome (service_of id (taken n o ∷ ss)) Stands
  found_next id n None ss p rest = rest
  found_next id n (Some q) ss p rest =
      elim (q.span.id.0 == id) as (λ b.
      IfSome (option_map service_in (cond b (Some (taken n (Some q))) (find (λ (s : Taken). has_span_id id s.span) ss))) Stands) [ true ↦ p | false ↦ rest ]

  found_stands : (id : ℕ) (ss : List Taken) → AllByRecursion Named ss → IfSome (service_of id ss) Stands
  found_stands id [] a = tt
  found_stands id (s ∷ ss) a = found_next id s.number s.span ss a.0 (found_stands id ss a.1)

  between_stands : (o : Option NumberedService) (callee : NumberedService) → IfSome o Stands → Stands callee → IfSome (call_between o callee) CallStands
  between_stands None callee p q = tt
  between_stands (Some caller) callee p q =
      elim (caller.0 == callee.0) as (λ b. IfSome (if b then None else Some (caller, callee)) CallStands) [ true ↦ tt | false ↦ (p, q) ]

  call_stands : (t : List Taken) (n : ℕ) (o : Option Placed) → AllByRecursion Named t → Named (taken n o)
      → IfSome (call_by (λ id. service_of id t) (taken n o)) CallStands
  call_stands t n None a p = tt
  call_stands t n (Some q) a p =
      let id = (parent q.span).0 in
      elim (id == 0) as (λ b. IfSome (if b then None else call_between (service_of id t) (n, q.process.service)) CallStands) [
        | true ↦ tt
        | false ↦ between_stands (service_of id t) (n, q.process.service) (found_stands id t a) p
      ]

  cons_stands : (o : Option NumberedCall) (cs : List NumberedCall) → IfSome o CallStands → AllByRecursion CallStands cs
      → AllByRecursion CallStands (cons_option o cs)
  cons_stands None cs p a = a
  cons_stands (Some c) cs p a = (p, a)

  gathered_stand : (t ss : List Taken) → AllByRecursion Named t → AllByRecursion Named ss
      → AllByRecursion CallStands (filter_map (call_by (λ id. service_of id t)) ss)
  gathered_stand t [] a p = tt
  gathered_stand t (s ∷ ss) a p =
      cons_stands (call_by (λ id. service_of id t) s) (filter_map (call_by (λ id. service_of id t)) ss) (call_stands t s.number s.span a p.0)
      (gathered_stand t ss a p.1)

  -- ---- by their texts
  text_found : (id n : ℕ) (o : Option Placed) (ss : List Taken)
      → option_map (λ (s : NumberedService). s.1) (service_of id ss) ≡ option_map
      (λ (p : Placed). p.process.service) (find (has_id (record { 0 = id })) (placed_taken ss))
      → option_map (λ (s : NumberedService). s.1) (service_of id (taken n o ∷ ss)) ≡ option_map
      (λ (p : Placed). p.process.service) (find (has_id (record { 0 = id })) (placed_taken (taken n o ∷ ss)))
  text_found id n None ss rest = rest
  text_found id n (Some q) ss rest =
      elim (q.span.id.0 == id) as (λ b. option_map
      (λ (s : NumberedService). s.1) (option_map service_in (cond b (Some (taken n (Some q))) (find (λ (s : Taken). has_span_id id s.span) ss))) ≡ option_map
      (λ (p : Placed). p.process.service) (cond b (Some q) (find (has_id (record { 0 = id })) (placed_taken ss)))) [
        | true ↦ refl
        | false ↦ rest
      ]

  texts_found : (id : ℕ) (ss : List Taken)
      → option_map (λ (s : NumberedService). s.1) (service_of id ss) ≡ option_map
      (λ (p : Placed). p.process.service) (find (has_id (record { 0 = id })) (placed_taken ss))
  texts_found id [] = refl
  texts_found id (s ∷ ss) = text_found id s.number s.span ss (texts_found id ss)

  texts_between : (a : Option NumberedService) (o : Option Placed) (n : ℕ) (p : Placed)
      → option_map (λ (s : NumberedService). s.1) a ≡ option_map (λ (q : Placed). q.process.service) o → IfSome a Stands → Stands (n, p.process.service)
      → option_map texts_called (call_between a (n, p.process.service)) ≡ call_from p o
  texts_between None None n p e s t = refl
  texts_between None (Some q) n p e s t = absurd cc
  texts_between (Some a) None n p e s t = absurd cc
  texts_between (Some a) (Some q) n p e s t =
      let b : NumberedService = (n, p.process.service) in
      let same : a.1 ≡ q.process.service = cc e in
      ap (λ v. option_map texts_called (if v then None else Some (a, b))) (same_by_number a b s t)
      ∙ elim (same_text a.1 p.process.service) as (λ v. option_map texts_called (if v then None else Some (a, b))
      ≡ (if v then None else Some (a.1, p.process.service))) [ true ↦ refl | false ↦ refl ]
      ∙ ap (λ x. if same_text x p.process.service then None else Some (x, p.process.service)) same

  texts_by : (t : List Taken) (n : ℕ) (p : Placed) → AllByRecursion Named t → Stands (n, p.process.service)
      → option_map texts_called (call_by (λ id. service_of id t) (taken n (Some p))) ≡ call_from p (parent_in (placed_taken t) p)
  texts_by t n p a s =
      let id = parent p.span in
      elim (id.0 == 0) as (λ b. option_map texts_called (if b then None else call_between (service_of id.0 t) (n, p.process.service))
      ≡ call_from p (if b then None else find (has_id id) (placed_taken t))) [
        | true ↦ refl
        | false ↦ texts_between (service_of id.0 t) (find (has_id id) (placed_taken t)) n p (texts_found id.0 t) (found_stands id.0 t a) s
      ]

  cons_texts : (o : Option NumberedCall) (cs : List NumberedCall)
      → map texts_called (cons_option o cs) ≡ cons_option (option_map texts_called o) (map texts_called cs)
  cons_texts None cs = refl
  cons_texts (Some c) cs = refl

  gathered_next : (t : List Taken) (n : ℕ) (o : Option Placed) (ss : List Taken) → AllByRecursion Named t → Named (taken n o)
      → map texts_called (filter_map (call_by (λ id. service_of id t)) ss) ≡ filter_map (λ p. call_from p (parent_in (placed_taken t) p)) (placed_taken ss)
      → map texts_called (filter_map (call_by (λ id. service_of id t)) (taken n o ∷ ss)) ≡ filter_map
      (λ p. call_from p (parent_in (placed_taken t) p)) (placed_taken (taken n o ∷ ss))
  gathered_next t n None ss a p rest = rest
  gathered_next t n (Some q) ss a p rest =
      cons_texts (call_by (λ id. service_of id t) (taken n (Some q))) (filter_map (call_by (λ id. service_of id t)) ss)
      ∙ (λ i. cons_option (texts_by t n q a p i) (rest i))

  gathered_texts : (t ss : List Taken) → AllByRecursion Named t → AllByRecursion Named ss
      → map texts_called (filter_map (call_by (λ id. service_of id t)) ss) ≡ filter_map (λ p. call_from p (parent_in (placed_taken t) p)) (placed_taken ss)
  gathered_texts t [] a p = refl
  gathered_texts t (s ∷ ss) a p = gathered_next t s.number s.span ss a p.0 (gathered_texts t ss a p.1)

  abbrev NamedAll : List Taken → Type 0
  NamedAll t = All Named t

  all_texts : (ts : List (List Taken)) → AllByRecursion NamedAll ts → map texts_called (calls_in_traces ts) ≡ flat_map calls_of (map placed_taken ts)
  all_texts [] a = refl
  all_texts (t ∷ ts) a =
      let named = recursion_from_All Named t a.0 in
      map-append texts_called (calls_in_trace t) (calls_in_traces ts)
      ∙ (λ i. gathered_texts t t named named i ++ all_texts ts a.1 i)

  all_stand : (ts : List (List Taken)) → AllByRecursion NamedAll ts → AllByRecursion CallStands (calls_in_traces ts)
  all_stand [] a = tt
  all_stand (t ∷ ts) a =
      let named = recursion_from_All Named t a.0 in
      each_append CallStands (calls_in_trace t) (calls_in_traces ts) (gathered_stand t t named named) (all_stand ts a.1)

  -- the calls of all traces
  pub calls_stand : (ts : List (List Taken)) → AreNumberedBy text number ts → AreCallsNumberedBy text number (calls_in_traces ts)
  calls_stand ts a = all_stand ts (recursion_from_All NamedAll ts a)

  pub calls_by_texts : (ts : List (List Taken)) → AreNumberedBy text number ts → map texts_called (calls_in_traces ts) ≡ flat_map calls_of (map placed_taken ts)
  calls_by_texts ts a = all_texts ts (recursion_from_All NamedAll ts a)
