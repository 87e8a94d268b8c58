use Rattle.std.proofs.Common.{◌≡◌, ◌<◌, List, ℕ, [], ◌++◌, drop}
use Rattle.batch_codec.specs.declared.fault.DecodeError.{DecodeError}
use Rattle.batch_feeder.specs.FeederAnswers.{answers}
use Rattle.batch_feeder.specs.FeederResults.{HasNoFault, HasRefused}
use Rattle.batch_feeder.proofs.feeder.Feeder.feed_bytes.Given as goal

abbrev pub invariant-loop-byte : goal.invariant-loop-byte
invariant-loop-byte l =
    ((w : List ℕ) → answers l.initial.self (l.piece ++ w) ≡ answers l.self (drop l.byte-index l.piece ++ w))
    × (0 < l.byte-index → HasNoFault (answers l.self []))
    × ((before : DecodeError) → HasRefused (answers l.initial.self) before → HasRefused (answers l.self) before)
