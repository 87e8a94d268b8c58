-- What a head asks, by its bytes.
use Rattle.std.proofs.Common.{◌≡◌, ℕ, List, sym, ap, ◌∙◌}
use Rattle.http_requests.specs.HeadContents.{asked_by}
use Rattle.http_requests.specs.Requests.{IsHeadOf}
use Rattle.http_requests.specs.declared.request.Request.{Request}
use Rattle.http_session.specs.Verdicts.{asked_of}

pub asked_is : (bytes : List ℕ) (r : Request) (w : IsHeadOf bytes r) → asked_by w.head ≡ asked_of bytes r
asked_is bytes r w = w.describes.asked ∙ ap (λ (l : List ℕ). asked_of l r) (sym w.bytes_are)
