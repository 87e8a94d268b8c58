-- The number of starts in blocks, as these are listed and taken from a heap.
use Rattle.std.proofs.Common.{◌≡◌, ℕ, ◌+◌, List, [], ◌∷◌, ◌++◌, length, refl, ap, ◌∙◌, arith}
use Rattle.std.specs.List.Sorted.{IsPermutation}
use Rattle.std.proofs.lemmas.List.Sorted.{sum_by-IsPermutation, sum_by_popped}
use Rattle.std.proofs.lemmas.List.Sums.{sum_by_push}
use Rattle.trace_ring.specs.declared.first_starts.thresholds.BoundedBlock.{BoundedBlock}
use Rattle.trace_ring.specs.BlockSizes.{block_size, starts_in}

pub no_block : (used : ℕ) → starts_in used [] ≡ 0
unfolding starts_in
no_block used = refl

pub one_block_more : (used : ℕ) (bs cs : List BoundedBlock) (b : BoundedBlock) → cs ≡ bs ++ b ∷ []
    → starts_in used cs ≡ starts_in used bs + block_size used b.block
unfolding starts_in
one_block_more used bs cs b put = ap (starts_in used) put ∙ sum_by_push (λ (d : BoundedBlock). block_size used d.block) bs b

pub in_any_order : (used : ℕ) (bs cs : List BoundedBlock) → IsPermutation bs cs → starts_in used cs ≡ starts_in used bs
unfolding starts_in
in_any_order used bs cs order = sum_by-IsPermutation (λ (d : BoundedBlock). block_size used d.block) bs cs order

pub block_popped : (used : ℕ) (b : BoundedBlock) (bs cs : List BoundedBlock) → IsPermutation bs (b ∷ cs)
    → starts_in used cs + block_size used b.block ≡ starts_in used bs
unfolding starts_in
block_popped used b bs cs popped = sum_by_popped (λ (d : BoundedBlock). block_size used d.block) b bs cs popped

pub all_popped : (used : ℕ) (bs : List BoundedBlock) → length bs ≡ 0 → starts_in used bs ≡ 0
unfolding starts_in
all_popped used [] none = refl
all_popped used (b ∷ bs) none = absurd (omega arith)
