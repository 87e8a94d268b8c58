-- The faults of skipped values have places.
use Rattle.std.proofs.Common.{◌≡◌, ℕ, zero, suc, ◌<◌, cond, eqb, ltb, List, [], length, Ok, Err, refl, ap, arith, length-append}
use Rattle.thrift_binary.specs.declared.fault.WireError.{WireError}
use Rattle.thrift_binary.specs.declared.fault.WireError.TheVariants.{Truncated, BadType, TooDeep}
use Rattle.thrift_binary.specs.Reading.{string_at, list_at, map_at}
use Rattle.thrift_binary.specs.Skipping.{Skip, past, both, times, text, struct, items, pairs, container, width, leaf, is_container, value_at, skip_at}
use Rattle.thrift_binary.specs.Cuts.{IsCutSafe}
use Rattle.thrift_binary.proofs.SkippedAreValues.{value_found}
use Rattle.thrift_binary.proofs.ValuesAreSkipped.{value_some}
use Rattle.thrift_binary.proofs.Cuts.{cut_ok, cut_err, cut_beginning, cut_then, cut_if, cut_map, cut_unless_empty}
use Rattle.thrift_binary.proofs.CutReadings.{string_cut, list_head_cut, map_head_cut}
use Rattle.thrift_binary.proofs.CutFields.{fields_cut}

abbrev refused : WireError → Skip
refused e v = Err e

refused_cut : (e : WireError) → IsCutSafe Truncated (refused e)
refused_cut e = cut_err Truncated (refused e) e (λ v. refl)

pub past_cut : (n : ℕ) → IsCutSafe Truncated (past n)
past_cut n = cut_beginning Truncated n (λ w. tt) (λ w le. refl)

both_cut : (a b : Skip) → IsCutSafe Truncated a → IsCutSafe Truncated b → IsCutSafe Truncated (both a b)
both_cut a b one two = cut_then Truncated a (λ x. b) one (λ x. two)

times_cut : (one : Skip) → IsCutSafe Truncated one → (n : ℕ) → IsCutSafe Truncated (times n one)
unfolding times
times_cut one safe zero = cut_ok Truncated (times zero one) tt (λ v. refl)
times_cut one safe (suc n) = cut_then Truncated one (λ x. times n one) safe (λ x. times_cut one safe n)

text_cut : IsCutSafe Truncated text
unfolding text
text_cut = cut_map Truncated string_at (λ x. tt) string_cut

leaf_cut : (c : ℕ) → IsCutSafe Truncated (leaf c)
leaf_cut c w =
    let wide : Skip = λ v. cond (ltb 0 (width c)) (past (width c) v) (Err BadType) in
    cut_if Truncated (eqb c 11) text wide w (text_cut w)
    (cut_if Truncated (ltb 0 (width c)) (past (width c)) (refused BadType) w (past_cut (width c) w) (refused_cut BadType w))

module _ (value : ℕ → Skip) (safe : (c : ℕ) → IsCutSafe Truncated (value c)) where
  struct_cut : IsCutSafe Truncated (struct value)
  unfolding struct
  struct_cut = fields_cut (λ e. e) (λ s c i. value c) (λ s c i. safe c) tt

  items_cut : IsCutSafe Truncated (items value)
  unfolding items
  items_cut = cut_then Truncated list_at (λ h. times h.1 (value h.0)) list_head_cut (λ h. times_cut (value h.0) (safe h.0) h.1)

  pairs_cut : IsCutSafe Truncated (pairs value)
  unfolding pairs
  pairs_cut =
      cut_then Truncated map_at (λ h. times h.1 (both (value h.0.0) (value h.0.1))) map_head_cut
      (λ h. times_cut (both (value h.0.0) (value h.0.1)) (both_cut (value h.0.0) (value h.0.1) (safe h.0.0) (safe h.0.1)) h.1)

  container_cut : (c : ℕ) → IsCutSafe Truncated (container value c)
  container_cut c w =
      let others : Skip = λ v. cond (eqb c 13) (pairs value v) (items value v) in
      cut_if Truncated (eqb c 12) (struct value) others w (struct_cut w) (cut_if Truncated (eqb c 13) (pairs value) (items value) w (pairs_cut w) (items_cut w))

pub value_cut : (levels c : ℕ) → IsCutSafe Truncated (value_at levels c)
unfolding value_at
value_cut zero c w = cut_if Truncated (is_container c) (refused TooDeep) (leaf c) w (refused_cut TooDeep w) (leaf_cut c w)
value_cut (suc levels) c w =
    cut_if Truncated (is_container c) (container (value_at levels) c) (leaf c) w (container_cut (value_at levels) (λ d. value_cut levels d) c w) (leaf_cut c w)

no_value_of_nothing : (levels c : ℕ) (x : Unit {0}) (r : List ℕ) → value_at levels c [] ≡ Ok (x, r) → ⊥
no_value_of_nothing levels c x r e =
    let f = value_found levels c [] r e in
    let some : 0 < length f.text = value_some levels c f.text f.spells in
    absurd (omega (arith, ap length f.parts, length-append f.text r))

-- a skipped value's faults have places
pub skip_cut : (c : ℕ) → IsCutSafe Truncated (skip_at c)
unfolding skip_at
skip_cut c = cut_unless_empty Truncated (value_at 64 c) (no_value_of_nothing 64 c) (value_cut 64 c)
