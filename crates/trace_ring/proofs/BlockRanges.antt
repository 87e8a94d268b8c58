-- The ranges of blocks, and which blocks have one.
use Rattle.std.proofs.Common.{◌≡◌, ℕ, ℤ, ◌+◌, ◌/◌, ◌<◌, List, [], ◌∷◌, ◌++◌, drop, length, sym, ap, ◌∙◌, arith, length-append, length-drop}
use Rattle.std.specs.Prelude.{if◌then◌else◌, ◌==◌}
use Rattle.trace_ring.proofs.BlockBounds.{count_more}

-- the block of a place has one
pub block_known : (opened : List ℤ) (evicted blocks k : ℕ) → blocks ≡ (length opened + 255) / 256 → k < length (drop evicted opened)
    → (evicted + k) / 256 < blocks
block_known opened evicted blocks k all below = let long = length-drop evicted opened in omega arith

-- the block of the next place has one, or is the next block
pub blocks_more : (opened : List ℤ) (start : ℤ) (blocks more : ℕ) → blocks ≡ (length opened + 255) / 256
    → more ≡ (if length opened / 256 == blocks then blocks + 1 else blocks) → more ≡ (length (opened ++ start ∷ []) + 255) / 256
blocks_more opened start blocks more all count =
    count_more (length opened) blocks more all count ∙ ap (λ n. (n + 255) / 256) (sym (length-append opened (start ∷ [])))

pub block_before : (opened : List ℤ) (blocks at : ℕ) → blocks ≡ (length opened + 255) / 256 → at < length opened → at / 256 < blocks
block_before opened blocks at all below = omega arith
