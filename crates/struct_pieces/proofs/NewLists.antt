-- A list that began as the value of a field.
use Rattle.std.proofs.Common.{◌≡◌, ℕ, List, [], ◌++◌, Option, Result, Ok, Err, sym, ◌∙◌}
use Rattle.thrift_binary.specs.declared.fault.WireError.TheVariants.{Truncated}
use Rattle.thrift_binary.specs.Reading.{◌>>=◌}
use Rattle.wire_pieces.specs.Pieces.{NeedsMore, moment}
use Rattle.wire_pieces.proofs.Steps.{comes-inside, waits-inside}
use Rattle.batch_codec.specs.declared.fault.DecodeError.{DecodeError}
use Rattle.batch_codec.specs.declared.fault.DecodeError.TheVariants.{Wire}
use Rattle.batch_codec.specs.Decoding.{Reading}
use Rattle.value_pieces.specs.declared.partial.Arrival.{Arrival}
use Rattle.value_pieces.specs.declared.partial.Arrival.TheVariants.{Complete, Pending}
use Rattle.struct_pieces.specs.declared.fields.Step.{Step}
use Rattle.struct_pieces.specs.Fields.{Opens}
use Rattle.struct_pieces.specs.NewLists.{Enlists}
use Rattle.value_pieces.proofs.CallSteps.{faults-inside}

waits-same : {T : Type 0} (a b c : Reading T) (p q : List ℕ) → ((w : List ℕ) → c w ≡ b w) → NeedsMore (Wire Truncated) (moment a p) (moment b q)
    → NeedsMore (Wire Truncated) (moment a p) (moment c q)
waits-same a b c p q same g = record { comes = record { same = λ rest. g.comes.same rest ∙ sym (same (q ++ rest)) }; want = same [] ∙ g.want; spent = g.spent }

module _ {A P S V T : Type 0} (holding : A → S) (set : S → T) (reads : Reading A) (resumes : P → Reading A) (holds : P → V → Type 0)
    (continues : V → Reading T) where
  pub enlisted : (before after : S) (next : Option (Step V)) (w v : List ℕ) (r : Result Arrival DecodeError)
      → Enlists (record { holding = holding; reads = reads; resumes = resumes }) holds
      (record { slot = record { before = before; after = after; piece = w; left = v }; next = next }) r
      → ((p : P) (v : V) → holds p v → (w : List ℕ) → continues v w ≡ (resumes p w >>= λ x. Ok (set (holding x.0), x.1)))
      → Opens (set after) (moment (λ u. reads u >>= λ x. Ok (set (holding x.0), x.1)) w) (record { resumes = continues; next = next; left = v }) r
  enlisted before after next w v (Ok Complete) g on = rw g.1 (comes-inside (λ x. Ok (set (holding x.0), x.1)) g.2)
  enlisted before after next w v (Ok Pending) g on = (g.1, g.3, waits-same _ _ _ w v (on g.0 g.1 g.2) (waits-inside (λ x. Ok (set (holding x.0), x.1)) g.4))
  enlisted before after next w v (Err e) g on = faults-inside (λ x. Ok (set (holding x.0), x.1)) reads w e g
