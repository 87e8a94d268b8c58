-- What was reported about the head at the start of the bytes.
use Rattle.std.specs.Prelude.{◌≡◌, ℕ, ◌≤◌, List, length, drop}
use Rattle.httparse.specs.Grammar.{RequestHead}
use Rattle.http_requests.specs.Heads.{TakesHead}
use Rattle.http_requests.specs.HeadContents.{IsBounded, body_length}
use Rattle.http_requests.specs.Requests.{Describes}
use Rattle.http_requests.specs.declared.request.FoundHead.{FoundHead}

-- the head at the start has this length, asks this, and announces a body of this length
pub record Frames (bytes : List ℕ) (found : FoundHead) : Type 0 where
  pub head : RequestHead
  pub takes : TakesHead bytes head (drop found.len bytes)
  pub describes : Describes head found.request
  pub body_length_is : found.body_length ≡ body_length head
  pub bounded : IsBounded found.body_length
  pub fits : found.len ≤ length bytes
