-- Where a request is awaited, nothing is decided.
use Rattle.std.proofs.Common.{◌≡◌, ℕ, List, ◌++◌, length, sym, ap, subst, arith, refl, inl, inr, length-append}
use Rattle.httparse.specs.Grammar.{RequestHead, NeverHasRequest}
use Rattle.http_requests.specs.HeadContents.{body_length}
use Rattle.http_requests.specs.Heads.{TakesHead, EndsLine}
use Rattle.http_requests.specs.Requests.{HasBody, Spells, PassesMost, IsMalformed, AwaitsBody, AwaitsAfter, AwaitsRequest}
use Rattle.http_requests.specs.declared.request.BodyLength.{BodyLength}
use Rattle.http_requests.specs.declared.request.BodyLength.TheVariants.{Bytes, Chunked, Unreadable, TooLarge}
use Rattle.http_requests.specs.declared.request.RequestFault.TheVariants as fault
use Rattle.http_requests.proofs.OneRequest.{head_once, request_stays}

body_is_not_there : (size : BodyLength) (text body rest : List ℕ) → HasBody size text body → AwaitsBody size (text ++ rest) → ⊥
body_is_not_there (Bytes n) text body rest is short = absurd (omega (arith, short, ap length is.0, is.1, length-append text rest))
body_is_not_there Chunked text body rest is awaits = awaits.none text rest (inl (body, is)) refl
body_is_not_there Unreadable text body rest is awaits = absurd is
body_is_not_there TooLarge text body rest is awaits = absurd is

body_is_not_large : (size : BodyLength) (after : List ℕ) → PassesMost size after → AwaitsBody size after → ⊥
body_is_not_large (Bytes n) after large awaits = absurd large
body_is_not_large Chunked after large awaits = awaits.none large.text large.rest (inr large.is) large.cut
body_is_not_large Unreadable after large awaits = absurd large
body_is_not_large TooLarge after large awaits = absurd awaits

-- the head of which the body is awaited is the one at the start
awaits_after : (bytes after : List ℕ) (h : RequestHead) (behind : AwaitsAfter bytes) → TakesHead bytes h after → AwaitsBody (body_length h) after
awaits_after bytes after h behind takes =
    let same = head_once bytes behind.head h behind.after after behind.takes takes in
    subst (λ (k : RequestHead). AwaitsBody (body_length k) after) same.0 (subst (AwaitsBody (body_length behind.head)) same.1 behind.awaits)

pub not_there : (bytes text rest : List ℕ) (h : RequestHead) (body : List ℕ) → AwaitsRequest bytes → Spells text h body → bytes ≡ text ++ rest → ⊥
not_there bytes text rest h body awaits spells e =
    let takes : TakesHead bytes h (spells.after ++ rest) =
    subst (λ (l : List ℕ). TakesHead l h (spells.after ++ rest)) (sym e) (request_stays text h body rest spells) in
    elim awaits [
      | inl head ↦ head.none h (spells.after ++ rest) takes
      | inr behind ↦ body_is_not_there (body_length h) spells.after body rest spells.body_is (awaits_after bytes (spells.after ++ rest) h behind takes)
    ]

pub not_too_large : (bytes : List ℕ) → AwaitsRequest bytes → IsMalformed ⊥ bytes fault.TooLarge → ⊥
not_too_large bytes (inl head) reported = head.none reported.head reported.after reported.takes
not_too_large bytes (inr behind) reported =
    body_is_not_large (body_length reported.head) reported.after reported.breaks (awaits_after bytes reported.after reported.head behind reported.takes)

pub not_hopeless : (lines rest : List ℕ) → AwaitsRequest (lines ++ rest) → EndsLine lines → NeverHasRequest lines → ⊥
not_hopeless lines rest (inl head) ends never = head.may lines rest refl ends never
not_hopeless lines rest (inr behind) ends never = never rest behind.head behind.after behind.takes.reads
