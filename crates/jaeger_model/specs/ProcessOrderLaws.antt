-- Laws that the impls of this crate name, and their lemmas. A clause can name nothing of its own crate's proofs/,
-- so they are in specs/. The order of processes is a total order, and two compare as equal exactly if they are
-- equal.
use Rattle.std.specs.Prelude.{◌≡◌, ℕ, zero, suc, ℤ, pos, true, false, List, Some, refl}
use Rattle.std.specs.declared.cmp.Ordering.TheVariants.{Equal}
use Rattle.std.specs.Ordering.{nat_cmp, int_cmp, int_eq, ordering_then, eq_by_cmp}
use Rattle.std.specs.Bool.{one_answer}
use Rattle.std.specs.Cmp.{IsEquivalence, IsPartialOrder, IsTotalOrder, Equal-is, both_tied, decided, int_cmp_total, nat_cmp_total, on_total, po, tied_itself}
use Rattle.std.specs.Cmp.{then_total}
use Rattle.std.specs.Cmp.Lexicographic.{slice_cmp, lists_total, lists_ties, nat_list_cmp_total, texts_ties}
use Rattle.std.proofs.Common.{ap, sym, ◌∙◌}
use Rattle.std.proofs.lemmas.Map.Lookups.{exact_bytes, exact_pairs, exact_signed, exact_unsigned}
use Rattle.jaeger_model.specs.declared.batch.Process.{Process}
use Rattle.jaeger_model.specs.declared.tag.Tag.{Tag}
use Rattle.jaeger_model.specs.declared.tag.Value.{Value}
use Rattle.jaeger_model.specs.declared.tag.Value.TheVariants.{Text, Double, Bool as Flag, Long, Bytes}
use Rattle.jaeger_model.specs.Sameness.{same_process, same_tag, same_value}
use Rattle.jaeger_model.specs.SameLaws.{same_process-decides, same_value-decides}
use Rattle.jaeger_model.specs.ProcessOrder.{rank, number, content, value_cmp, tag_cmp, process_cmp}

value_total : IsTotalOrder value_cmp
value_total = then_total (on_total rank nat_cmp_total) (then_total (on_total number int_cmp_total) (on_total content nat_list_cmp_total))

tag_total : IsTotalOrder tag_cmp
tag_total = then_total (on_total (λ (t : Tag). t.key) nat_list_cmp_total) (on_total (λ (t : Tag). t.value) value_total)

pub process_total : IsTotalOrder process_cmp
process_total = then_total (on_total (λ (p : Process). p.service) nat_list_cmp_total) (on_total (λ (p : Process). p.tags) (lists_total tag_total))

-- ---- what compares as equal is equal

abbrev Parts : Type 0
Parts = ℕ × (ℤ × List ℕ)

abbrev parts : Value → Parts
parts v = (rank v, (number v, content v))

-- the value of this rank, number and content
abbrev value_of : ℕ → ℤ → List ℕ → Value
value_of zero z bytes = Text bytes
value_of (suc zero) z bytes = Double bytes
value_of (suc (suc zero)) z bytes = Flag (int_eq z (pos 1))
value_of (suc (suc (suc zero))) z bytes = Long z
value_of (suc (suc (suc (suc k)))) z bytes = Bytes bytes

determined : (v : Value) → value_of (rank v) (number v) (content v) ≡ v
determined (Text t) = refl
determined (Double bytes) = refl
determined (Flag true) = refl
determined (Flag false) = refl
determined (Long z) = refl
determined (Bytes bytes) = refl

value_exact : (a b : Value) → value_cmp a b ≡ Equal → a ≡ b
value_exact a b e =
    let same : parts a ≡ parts b =
    exact_pairs nat_cmp (λ x y. ordering_then (int_cmp x.0 y.0) (slice_cmp nat_cmp x.1 y.1)) exact_unsigned
    (exact_pairs int_cmp (slice_cmp nat_cmp) exact_signed exact_bytes) (parts a) (parts b) e in
    sym (determined a) ∙ ap (λ (p : Parts). value_of p.0 p.1.0 p.1.1) same ∙ determined b

value_ties : (a b : Value) → same_value a b ≡ eq_by_cmp value_cmp a b
value_ties a b =
    one_answer (same_value a b) (eq_by_cmp value_cmp a b) (same_value-decides a b)
    (λ e. value_exact a b ((Equal-is (value_cmp a b)).0 e), λ e. (Equal-is (value_cmp a b)).1 (level e))
  where
    level : a ≡ b → value_cmp a b ≡ Equal
    level e = sym (ap (value_cmp a) e) ∙ tied_itself value_total a

tag_ties : (a b : Tag) → same_tag a b ≡ eq_by_cmp tag_cmp a b
tag_ties a b = both_tied _ _ (slice_cmp nat_cmp a.key b.key) (value_cmp a.value b.value) (texts_ties a.key b.key) (value_ties a.value b.value)

pub process_ties : (a b : Process) → same_process a b ≡ eq_by_cmp process_cmp a b
process_ties a b =
    both_tied _ _ (slice_cmp nat_cmp a.service b.service) (slice_cmp tag_cmp a.tags b.tags) (texts_ties a.service b.service)
    (lists_ties tag_cmp tag_ties a.tags b.tags)

pub process_equiv : IsEquivalence same_process
process_equiv = decided same_process same_process-decides

pub process_po : IsPartialOrder same_process (λ a b. Some (process_cmp a b))
process_po = po process_total process_ties
