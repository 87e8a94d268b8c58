-- Where a head is awaited, the lines received whole may still begin with one.
use Rattle.std.proofs.Common.{◌≡◌, ℕ, ◌==◌, ◌||◌, ◌<◌, false, List, [], ◌∷◌, ◌++◌, length, take, refl, sym, ap, ◌∙◌, subst, arith, inl, inr, append_assoc}
use Rattle.std.proofs.lemmas.List.{take_all}
use Rattle.std.proofs.lemmas.List.Folds.{list_any-append}
use Rattle.httparse.specs.Grammar.{is_token_byte, is_uri_byte, print_blank, print_request, HasNoRequest, NeverHasRequest, MayBecomeRequest, EndsInTarget}
use Rattle.http_requests.proofs.ChunkSizes.{quiet}
use Rattle.http_requests.specs.declared.head.TheConstants.{MAX_HEAD_BYTES}
use Rattle.http_requests.specs.Heads.{EndsLine, AwaitsHead}
use Rattle.http_requests.specs.LineLaws.{has_feed, cut_before}
use Rattle.http_requests.proofs.Prefixes.{more_when_short}
use Rattle.http_requests.proofs.OneRequest.{some_head, some_with, some_behind, token_quiet}

-- the first line may still go on
target_may : (bytes lines rest : List ℕ) → EndsInTarget bytes → bytes ≡ lines ++ rest → EndsLine lines → NeverHasRequest lines → ⊥
target_may bytes lines rest (blank, method, target, token, uri, is) e ends never =
    let line = method ++ 32 ∷ target in
    let none : has_feed line ≡ false = list_any-append (λ b. b == 10) method (32 ∷ target)
    ∙ (λ i. quiet is_token_byte method token_quiet token.1 i || quiet is_uri_byte target refl uri i) in
    let cut = cut_before (print_blank blank) line lines rest ends (sym (append_assoc (print_blank blank) method (32 ∷ target)) ∙ sym is ∙ e) none in
    let some = print_request some_head ++ [] in
    never (cut.0 ++ some) (record some_head { blank = blank }) [] (
      some_with blank,
      sym (append_assoc lines cut.0 some) ∙ ap (λ l. l ++ some) (sym cut.1) ∙ sym (some_behind blank),
    )

-- no reason in the whole lines
abbrev HasNoReason : List ℕ → Type 0
HasNoReason bytes = (lines rest : List ℕ) → bytes ≡ lines ++ rest → EndsLine lines → NeverHasRequest lines → ⊥

may_go_on : (bytes : List ℕ) → MayBecomeRequest bytes → HasNoReason bytes
may_go_on bytes (inl (more, h, reads)) lines rest e ends never =
    never (rest ++ more) h [] (reads.0, sym (append_assoc lines rest more) ∙ ap (λ l. l ++ more) (sym e) ∙ reads.1)
may_go_on bytes (inr target) lines rest e ends never = target_may bytes lines rest target e ends never

pub awaits_head : (bytes prefix : List ℕ) → prefix ≡ take MAX_HEAD_BYTES bytes → length bytes < MAX_HEAD_BYTES → HasNoRequest prefix → MayBecomeRequest prefix
    → AwaitsHead bytes
awaits_head bytes prefix f short none may =
    let same : prefix ≡ bytes = f ∙ take_all MAX_HEAD_BYTES bytes (omega (arith, short)) in
    record { none = more_when_short bytes prefix f short none; short = short; may = subst HasNoReason same (may_go_on prefix may) }
