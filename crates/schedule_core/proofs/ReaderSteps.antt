-- What a reader does in its state is what the machine makes it do.
use Rattle.std.proofs.Common.{◌≡◌, ℕ, ◌-◌, ◌≤◌, true, false, List, length, take, max, Option, Some, None, inl, refl, sym, ap, ◌∙◌, subst, arith}
use Rattle.std.specs.Prelude.{if◌then◌else◌, nat_lt, nat_le, is_some, option_map, slice_get, slice_set}
use Rattle.std.specs.List.{All}
use Rattle.std.specs.Option.{option_map_or}
use Rattle.std.proofs.lemmas.Bool.{leb-true, leb-false}
use Rattle.std.proofs.Math.Seq.{take-length}
use Rattle.std.proofs.lemmas.List.{length-take-le}
use Rattle.std.proofs.lemmas.List.Elements.{All-get_or}
use Rattle.std.proofs.lemmas.Option.{slice_get-map, slice_get_within, get_or_from_slice_get}
use Rattle.trace_model.specs.declared.entry.Entry.{Entry}
use Rattle.schedule_core.specs.declared.outcome.Outcome.{Outcome}
use Rattle.schedule_core.specs.declared.outcome.Outcome.TheVariants.{Entered, Learnt, Left, Unknown}
use Rattle.schedule_core.specs.declared.readers.Inside.{Inside}
use Rattle.schedule_core.specs.declared.readers.ReaderState.{ReaderState}
use Rattle.schedule_core.specs.Machine.{Machine, Reader, Stepped, by_reader, enters, front_of, leaves, learns, learns_list, longer, stays, with_reader}
use Rattle.schedule_core.specs.CopiedLists.{Copied}
use Rattle.schedule_core.specs.WaitingJobs.{Queued}
use Rattle.schedule_core.specs.ReaderStates.{visit_at, reader_at, Stands}
use Rattle.schedule_core.specs.MachineStates.{IsState, machine_of}
use Rattle.schedule_core.proofs.StateSteps.{after, reader_of, view_set, visit_of}
use Rattle.trace_model.proofs.Lists.{none_is}

-- the element at the place meets what all do
at_place : {A : Type 0} (P : A → Type 0) (xs : List A) (i : ℕ) (x : A) → slice_get xs i ≡ Some x → All P xs → P x
at_place P xs i x e all = subst P (get_or_from_slice_get xs i x x e) (All-get_or P xs i x (slice_get_within xs i x e) all)

some_is : {A : Type 0} (o : Option A) → is_some o ≡ true → (x : A) × (o ≡ Some x)
some_is None e = absurd cc
some_is (Some x) e = (x, refl)

-- of two prefixes the longer one has more entries
longest : (h : List Entry) (a b : ℕ) → a ≤ length h → b ≤ length h → longer (take a h) (take b h) ≡ take (max a b) h
longest h a b la lb =
    ap (λ k. if nat_le k (length (take b h)) then take b h else take a h) (length-take-le a h la)
    ∙ ap (λ k. if nat_le a k then take b h else take a h) (length-take-le b h lb)
    ∙ elim (nat_le a b) as (λ t. nat_le a b ≡ t → (if t then take b h else take a h) ≡ take (max a b) h) [
      | true ↦ λ e. let le = leb-true a b e in ap (λ k. take k h) (omega (arith, le))
      | false ↦ λ e. let lt = leb-false a b e in ap (λ k. take k h) (omega (arith, lt))
    ] refl

-- a front is within what each is within
front_within : (fronts : List ℕ) (bound k front : ℕ) → (if nat_lt 0 k then slice_get fronts (k - 1) else None) ≡ Some front → All (λ f. f ≤ bound) fronts
    → front ≤ bound
front_within fronts bound k front e all =
    elim (nat_lt 0 k) as (λ b. (if b then slice_get fronts (k - 1) else None) ≡ Some front → front ≤ bound) [
      | true ↦ λ e. at_place (λ f. f ≤ bound) fronts (k - 1) front e all
      | false ↦ λ e. absurd cc
    ] e

module _ (c : Copied) (q : Queued) (fronts : List ℕ) (places : List ReaderState) (r : ℕ) (p : ReaderState) (here : slice_get places r ≡ Some p) where
  abbrev m : Machine
  m = machine_of c q fronts places

  pub stands_there : IsState c q fronts places → Stands c.before c.history (length fronts) p
  stands_there s = at_place (Stands c.before c.history (length fronts)) places r p here s.standing

  by_place : (f : Reader → Stepped) → by_reader m r f ≡ f (reader_at c.history p)
  by_place f = ap (λ o. option_map_or f o (stays m Unknown)) (slice_get-map (reader_at c.history) places r ∙ ap (option_map (reader_at c.history)) here)

  -- ---- it enters
  pub stands_entered : (front publishes : ℕ) → front ≡ length c.history → publishes ≡ length fronts
      → Stands c.before c.history (length fronts) (record { seen = front; inside = Some (record { front = front; publishes = publishes }) })
  stands_entered front publishes f n = (omega (arith, f), (omega (arith, f), inl (n, ap (λ k. take k c.history) f ∙ take-length c.history)))

  entered_reader : (front publishes : ℕ) → front ≡ length c.history → publishes ≡ length fronts
      → reader_at c.history (record { seen = front; inside = Some (record { front = front; publishes = publishes }) })
      ≡ reader_of c.history (Some (visit_of c.history (length fronts)))
  entered_reader front publishes f n =
      ap (λ (x : List Entry). reader_of x (Some (visit_of x publishes))) (ap (λ k. take k c.history) f ∙ take-length c.history)
      ∙ ap (λ k. reader_of c.history (Some (visit_of c.history k))) n

  pub entered_alike : (front publishes : ℕ) → is_some p.inside ≡ false → front ≡ length c.history → publishes ≡ length fronts
      → after (Entered front) (machine_of c q fronts
      (slice_set places r (record { seen = front; inside = Some (record { front = front; publishes = publishes }) })))
      ≡ by_reader m r (λ reader. enters m r reader.inside)
  entered_alike front publishes out f n =
      ap (λ k. after (Entered k) (machine_of c q fronts
      (slice_set places r (record { seen = front; inside = Some (record { front = front; publishes = publishes }) })))) f
      ∙ ap (λ x. after (Entered (length c.history)) x) (view_set c q fronts places r _ ∙ ap (λ x. with_reader m r x) (entered_reader front publishes f n))
      ∙ sym (by_place (λ reader. enters m r reader.inside) ∙ ap (λ o. enters m r (option_map (visit_at c.history) o)) (none_is p.inside out))

  -- ---- it learns
  pub learnt_alike : (k front seen : ℕ) → IsState c q fronts places → front_of m k ≡ Some front → is_some p.inside ≡ false → seen ≡ max p.seen front
      → after (Learnt seen) (machine_of c q fronts (slice_set places r (record { seen = seen; inside = None })))
      ≡ by_reader m r (λ reader. option_map_or (learns m r reader) (front_of m k) (stays m Unknown))
  learnt_alike k front seen s at out is =
      let within = front_within fronts (length c.history) k front at s.within in
      let fits : max p.seen front ≤ length c.history = omega (arith, (stands_there s).0, within) in
      ap (λ n. after (Learnt n) (machine_of c q fronts (slice_set places r (record { seen = n; inside = None })))) is
      ∙ ap (λ x. after (Learnt (max p.seen front)) x) (view_set c q fronts places r _)
      ∙ ap (λ n. after (Learnt n) (with_reader m r (reader_of (take (max p.seen front) c.history) None)))
      (sym (length-take-le (max p.seen front) c.history fits))
      ∙ ap (λ list. learns_list m r list) (sym (longest c.history p.seen front (stands_there s).0 within))
      ∙ sym (by_place (λ reader. option_map_or (learns m r reader) (front_of m k) (stays m Unknown))
      ∙ ap (λ o. option_map_or (learns m r (reader_at c.history p)) o (stays m Unknown)) at
      ∙ ap (λ (o : Option Inside). learns m r (reader_of (take p.seen c.history) (option_map (visit_at c.history) o)) front) (none_is p.inside out))

  -- ---- it leaves
  pub left_alike : is_some p.inside ≡ true
      → after Left (machine_of c q fronts (slice_set places r (record { seen = p.seen; inside = None }))) ≡ by_reader m r (leaves m r)
  left_alike inside =
      let v = some_is p.inside inside in
      ap (λ x. after Left x) (view_set c q fronts places r _)
      ∙ sym (by_place (leaves m r) ∙ ap (λ (o : Option Inside). leaves m r (reader_of (take p.seen c.history) (option_map (visit_at c.history) o))) v.1)
