-- What reading for the head of a request finds.
use Rattle.std.specs.Prelude.{◌≡◌, ◌≤◌, [], length, take, drop}
use Rattle.std.specs.Io.KnownBytes.{IsAtEnd}
use Rattle.http_requests.specs.Heads.{TakesHead, AwaitsHead}
use Rattle.http_requests.specs.HeadContents.{body_length}
use Rattle.http_requests.specs.Requests.{IsHeadOf, IsMalformed}
use Rattle.http_requests.specs.AwaitedReads.{Source}
use Rattle.http_requests.specs.ReceivedBytes.{ReadMoment, ReadsOnWhile}
use Rattle.http_requests.specs.declared.request.FoundHead.{FoundHead}
use Rattle.http_requests.specs.declared.request.RequestFault.TheVariants as fault
use Rattle.http_requests.specs.declared.reading.Next.{Next}
use Rattle.http_requests.specs.declared.reading.Next.TheVariants.{One, EndOfInput, NoHead}

-- The bytes start with the head of a request, of this length, with this report and this announced body length. Each
-- read for it was made while a head was awaited.
pub record FindsHead {R : Type 0} (source : Source R) (before after : ReadMoment R) (found : FoundHead) : Type 0 where
  pub is : IsHeadOf (take found.len after.received.held) found.request
  pub takes : TakesHead after.received.held is.head (drop found.len after.received.held)
  pub inside : found.len ≤ length after.received.held
  pub body_length_is : found.body_length ≡ body_length is.head
  pub reads : ReadsOnWhile source AwaitsHead before after

-- the input has ended and nothing is left
pub record FindsEnd {R : Type 0} (source : Source R) (before after : ReadMoment R) : Type 0 where
  pub reads : ReadsOnWhile source AwaitsHead before after
  pub at_end : IsAtEnd (source.remaining after.input)
  pub nothing : after.received.held ≡ []

-- what is left doesn't start with a head
pub record FindsNone {R : Type 0} (source : Source R) (before after : ReadMoment R) : Type 0 where
  pub reads : ReadsOnWhile source AwaitsHead before after
  pub malformed : IsMalformed (IsAtEnd (source.remaining after.input)) after.received.held fault.Head

-- what one search for the head of a request finds
abbrev pub Finds : {R : Type 0} → Source R → ReadMoment R → ReadMoment R → Next → Type 0
Finds source before after (One found) = FindsHead source before after found
Finds source before after EndOfInput = FindsEnd source before after
Finds source before after NoHead = FindsNone source before after
