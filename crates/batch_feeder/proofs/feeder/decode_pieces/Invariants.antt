use Rattle.std.proofs.Common.{◌≡◌, List, ℕ, ◌++◌, drop}
use Rattle.std.specs.Prelude.{flat_map}
use Rattle.batch_codec.specs.BatchReading.{decoded}
use Rattle.batch_feeder.specs.FeederAnswers.{answers}
use Rattle.batch_feeder.proofs.feeder.decode_pieces.Given as goal

abbrev pub invariant-loop-piece : goal.invariant-loop-piece
invariant-loop-piece l =
    (w : List ℕ) → answers l.feeder (flat_map (λ p. p.items) (drop l.piece-index l.pieces) ++ w) ≡ decoded (flat_map (λ p. p.items) l.pieces ++ w)
