-- Laws that the impls of this crate name, and their lemmas. A clause can't name its own crate's proofs/, so they are in
-- specs/. What ends with a line comes with the end of one: until a line has ended it is awaited still.
use Rattle.std.proofs.Common.{◌≡◌, ℕ, ◌==◌, ◌||◌, nat_le, ◌<◌, Bool, true, false, List, [], ◌∷◌, ◌++◌, length}
use Rattle.std.proofs.Common.{take, drop, refl, sym, ap, ◌∙◌, subst, arith}
use Rattle.std.proofs.Common.{append_assoc, append-nil, length-append}
use Rattle.std.specs.List.{list_any, flat_map}
use Rattle.std.proofs.lemmas.Bool.Decides.{nat_tests}
use Rattle.std.proofs.lemmas.List.{take-append-drop}
use Rattle.std.proofs.lemmas.List.Folds.{list_any-append}
use Rattle.std.proofs.Math.Bool.{or-true}
use Rattle.httparse.specs.Ascii.{crlf_bytes}
use Rattle.httparse.specs.Grammar.{LineEnd.{crlf, lf}, LineEnd, ChunkLine, print_chunk_line, print_extension, Field, RequestHead, print_end, print_field}
use Rattle.httparse.specs.Grammar.{print_section, print_blank, print_version, print_request}
use Rattle.httparse.proofs.GrammarLemmas.{print_request-append}
use Rattle.http_requests.specs.Chunks.{IsSomeSizeLine, IsTrailer, HasNone}
use Rattle.http_requests.specs.declared.chunked.trailer.TheConstants.{MAX_TRAILER_BYTES}
use Rattle.http_requests.specs.declared.head.TheConstants.{MAX_HEAD_BYTES}
use Rattle.http_requests.specs.Heads.{EndsLine, AwaitsHead}
use Rattle.http_requests.specs.LineEnds.{is_due}
use Rattle.http_requests.specs.Bodies.{AwaitsLine, AwaitsRest, IsLineEnd}

abbrev pub has_feed : List ℕ → Bool
has_feed bytes = list_any (λ b. b == 10) bytes

-- a prefix that ends with a line ends where no line ended later
ends_before : (seen part front rest : List ℕ) → seen ++ part ≡ front ++ 10 ∷ rest → has_feed part ≡ false → (left : List ℕ)
    × (seen ≡ (front ++ 10 ∷ []) ++ left)
ends_before [] part front rest e none = absurd (cc (sym none ∙ ap has_feed e ∙ has_one front rest))
  where
    has_one : (front rest : List ℕ) → has_feed (front ++ 10 ∷ rest) ≡ true
    has_one front rest = list_any-append (λ b. b == 10) front (10 ∷ rest) ∙ or-true (has_feed front)
ends_before (x ∷ xs) part [] rest e none = (xs, λ i. first e i ∷ xs)
  where
    first : {a b : ℕ} {xs ys : List ℕ} → a ∷ xs ≡ b ∷ ys → a ≡ b
    first e = cc e
ends_before (x ∷ xs) part (y ∷ ys) rest e none =
    let here : x ≡ y = cc e in
    let later : xs ++ part ≡ ys ++ 10 ∷ rest = cc e in
    let cut = ends_before xs part ys rest later none in
    (cut.0, λ i. here i ∷ cut.1 i)

-- ---- a text that ends with a line

end_feeds : (e : LineEnd) → (front : List ℕ) × (print_end e ≡ front ++ 10 ∷ [])
end_feeds crlf = (13 ∷ [], refl)
end_feeds lf = ([], refl)

section_ends : (fields : List Field) (last : LineEnd) → EndsLine (print_section fields last)
section_ends [] last = end_feeds last
section_ends (f ∷ fs) last =
    let later = section_ends fs last in (
      print_field f ++ later.0,
      append_assoc (print_field f) (flat_map print_field fs) (print_end last) ∙ ap (λ l. print_field f ++ l) later.1
          ∙ sym (append_assoc (print_field f) later.0 (10 ∷ [])),
    )

after_ends : (front text : List ℕ) → EndsLine text → EndsLine (front ++ text)
after_ends front text ends = (front ++ ends.0, ap (λ l. front ++ l) ends.1 ∙ sym (append_assoc front ends.0 (10 ∷ [])))

cons_ends : (x : ℕ) (text : List ℕ) → EndsLine text → EndsLine (x ∷ text)
cons_ends x text ends = (x ∷ ends.0, ap (λ l. x ∷ l) ends.1)

head_ends : (h : RequestHead) → EndsLine (print_request h)
head_ends h =
    let last : EndsLine (print_section h.fields h.last ++ []) =
    subst EndsLine (sym (append-nil (print_section h.fields h.last))) (section_ends h.fields h.last) in
    let version = after_ends (print_version h.minor) _ (after_ends (print_end h.line_end) _ last) in
    let line = after_ends h.method _ (cons_ends 32 _ (after_ends h.target _ (cons_ends 32 _ version))) in
    subst EndsLine (sym (print_request-append h []) ∙ append-nil (print_request h)) (after_ends (print_blank h.blank) _ line)

trailer_ends : (text : List ℕ) → IsTrailer text → EndsLine text
trailer_ends text is = subst EndsLine (sym is.text_is) (section_ends is.fields is.last)

-- ---- what was seen, and more in which no line ends

pub cut_before : (seen part lines rest : List ℕ) → EndsLine lines → seen ++ part ≡ lines ++ rest → has_feed part ≡ false → (left : List ℕ)
    × (seen ≡ lines ++ left)
cut_before seen part lines rest ends e none =
    let cut = ends_before seen part ends.0 rest (e ∙ ap (λ l. l ++ rest) ends.1 ∙ append_assoc ends.0 (10 ∷ []) rest) none in
    (cut.0, cut.1 ∙ ap (λ l. l ++ cut.0) (sym ends.1))

none_longer : (Is : List ℕ → Type 0) (seen part : List ℕ) → ((text : List ℕ) → Is text → EndsLine text) → HasNone Is seen
    → has_feed part ≡ false → HasNone Is (seen ++ part)
none_longer Is seen part ends none new text rest is e =
    let cut = cut_before seen part text rest (ends text is) e new in
    none text cut.0 is cut.1

head_longer : (seen part : List ℕ) → AwaitsHead seen → has_feed part ≡ false → length (seen ++ part) < MAX_HEAD_BYTES → AwaitsHead (seen ++ part)
head_longer seen part awaits new short = record {
  none = λ h rest takes. let cut = cut_before seen part (print_request h) rest (head_ends h) takes.reads.1 new in
      awaits.none h cut.0 (record { reads = (takes.reads.0, cut.1); size = takes.size; fields = takes.fields });
  short = short;
  may = λ lines rest e ends. let cut = cut_before seen part lines rest ends e new in
      awaits.may lines cut.0 cut.1 ends;
}

-- where no such text is due there are fewer bytes, and no line ended after the seen ones
not_due : (bytes : List ℕ) (seen most : ℕ) → is_due bytes seen most ≡ false → (length bytes < most) × (has_feed (drop seen bytes) ≡ false)
not_due bytes seen most not = by (nat_le most (length bytes)) refl not
  where
    by : (full : Bool) → full ≡ nat_le most (length bytes) → (full || has_feed (drop seen bytes)) ≡ false → (length bytes < most)
        × (has_feed (drop seen bytes) ≡ false)
    by true is e = absurd (cc e)
    by false is e = (grind (arith, nat_tests, is), e)

pub head_not_due : (bytes : List ℕ) (seen : ℕ) → AwaitsHead (take seen bytes) → is_due bytes seen MAX_HEAD_BYTES ≡ false → AwaitsHead bytes
head_not_due bytes seen awaits not =
    let new = not_due bytes seen MAX_HEAD_BYTES not in
    let all = take-append-drop seen bytes in
    subst AwaitsHead all (head_longer (take seen bytes) (drop seen bytes) awaits new.1 (omega (arith, new.0, ap length all)))

pub trailer_not_due : (bytes : List ℕ) (seen : ℕ) → HasNone IsTrailer (take seen bytes)
    → is_due bytes seen MAX_TRAILER_BYTES ≡ false → HasNone IsTrailer bytes
trailer_not_due bytes seen none not =
    let new = not_due bytes seen MAX_TRAILER_BYTES not in
    subst (HasNone IsTrailer) (take-append-drop seen bytes) (none_longer IsTrailer (take seen bytes) (drop seen bytes) trailer_ends none new.1)

-- if one byte makes a search due, there are none
pub one_not_due : (P : List ℕ → Type 0) → P [] → (bytes : List ℕ) (seen : ℕ) → P (take seen bytes) → is_due bytes seen 1 ≡ false → P bytes
one_not_due P none [] seen before not = none
one_not_due P none (b ∷ bs) seen before not = absurd (omega (arith, (not_due (b ∷ bs) seen 1 not).0))

-- ---- before any byte

pub no_bytes_await : AwaitsHead []
no_bytes_await = record {
  none = λ h rest takes. let ends = head_ends h in
      absurd (omega (arith, ap length takes.reads.1, length-append (print_request h) rest, ap length ends.1, length-append ends.0 (10 ∷ [])));
  short = omega arith;
  may = λ lines rest e ends never. absurd (omega (arith, ap length e, length-append lines rest, ap length ends.1, length-append ends.0 (10 ∷ [])));
}

none_yet : (Is : List ℕ → Type 0) → ((text : List ℕ) → Is text → EndsLine text) → HasNone Is []
none_yet Is ends text rest is e =
    let line = ends text is in
    absurd (omega (arith, ap length e, length-append text rest, ap length line.1, length-append line.0 (10 ∷ [])))

pub no_trailer_yet : HasNone IsTrailer []
no_trailer_yet = none_yet IsTrailer trailer_ends

size_line_ends : (l : ChunkLine) → EndsLine (print_chunk_line l)
unfolding print_chunk_line
size_line_ends l = after_ends ((l.digits ++ l.pad) ++ print_extension l.extension) crlf_bytes (13 ∷ [], refl)

pub no_line_yet : AwaitsLine []
no_line_yet = (none_yet IsSomeSizeLine (λ text is. subst EndsLine (sym is.1.text_is) (size_line_ends is.1.line)), refl)

pub no_line_end_yet : AwaitsRest IsLineEnd []
no_line_end_yet = record { none = none_yet IsLineEnd (λ text is. (13 ∷ [], is)); more = crlf_bytes; may = refl }
