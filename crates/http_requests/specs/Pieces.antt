-- What one read returns.
use Rattle.std.specs.Prelude.{◌≡◌, ℕ, ◌≤◌, List, ◌++◌, length}
use Rattle.std.specs.Io.KnownBytes.{Consumes, IsAtEnd}
use Rattle.http_requests.specs.AwaitedReads.{Source, InputMoment}
use Rattle.http_requests.specs.declared.room.TheConstants.{READ_BYTES}

-- one read appended this number of bytes, at most a piece, and none at the end of the input
pub record GetsPiece {R : Type 0} (source : Source R) (before after : InputMoment R) (count : ℕ) : Type 0 where
  pub piece : List ℕ
  pub size : length piece ≡ count
  pub most : count ≤ READ_BYTES
  pub grown : after.bytes ≡ before.bytes ++ piece
  pub read : Consumes (source.remaining before.input) (source.remaining after.input) piece
  pub piece_given : source.gives before.input piece after.input
  pub end : count ≡ 0 → IsAtEnd (source.remaining after.input)
