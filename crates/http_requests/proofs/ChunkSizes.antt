-- Size lines: where none has ended no line has, and what they say at the start of a body.
use Rattle.std.proofs.Common.{◌≡◌, ℕ, ◌==◌, ◌||◌, ◌<◌, Bool, true, false, List, [], ◌∷◌, ◌++◌, length, take, Option, None, Some, IsTrue, refl, sym, ap, ◌∙◌}
use Rattle.std.proofs.Common.{subst, arith, inl, inr, append_assoc, append-nil, length-append}
use Rattle.std.specs.List.{list_any}
use Rattle.std.specs.Char.{is_ascii_hexdigit}
use Rattle.std.proofs.lemmas.Bool.Decides.{nat_tests}
use Rattle.std.proofs.lemmas.List.Folds.{list_any-append, list_any_none}
use Rattle.std.proofs.lemmas.List.{take_all}
use Rattle.std.proofs.lemmas.List.Elements.{All-nil, All-from_recursion}
use Rattle.std.proofs.lemmas.Bool.{or_parts}
use Rattle.httparse.specs.Grammar.{ChunkLine, IsChunkLine, print_chunk_line, print_extension, IsExtension, AllPass, is_ows, is_extension_byte, chunk_size}
use Rattle.httparse.specs.Grammar.{MayBecomeChunkLine}
use Rattle.http_requests.specs.declared.chunked.line.TheConstants.{MAX_LINE_BYTES}
use Rattle.http_requests.specs.Chunks.{IsSizeLine, IsSomeSizeLine, IsDecided, IsSized, texts, HasNone, BeginsWith}

abbrev has_feed : List ℕ → Bool
has_feed bytes = list_any (λ b. b == 10) bytes

-- ---- a line that hasn't ended

pub quiet : (test : ℕ → Bool) (bytes : List ℕ) → test 10 ≡ false → AllPass test bytes → has_feed bytes ≡ false
quiet test bytes off pass = list_any_none (λ b. b == 10) bytes (λ k d l. one _ (pass k d l))
  where
    one : (b : ℕ) → IsTrue (test b) → (b == 10) ≡ false
    one b pass = grind (arith, nat_tests, off, pass)

quiet_both : (a b : List ℕ) → has_feed a ≡ false → has_feed b ≡ false → has_feed (a ++ b) ≡ false
quiet_both a b one other = list_any-append (λ x. x == 10) a b ∙ (λ i. one i || other i)

quiet_extension : (e : Option (List ℕ)) → IsExtension e → has_feed (print_extension e) ≡ false
quiet_extension None is = refl
quiet_extension (Some text) is = quiet is_extension_byte text refl is

-- before its line feed a size line has none
prefix_of : ChunkLine → List ℕ
prefix_of l = ((l.digits ++ l.pad) ++ print_extension l.extension) ++ 13 ∷ []

prefix_is : (l : ChunkLine) → print_chunk_line l ≡ prefix_of l ++ 10 ∷ []
unfolding print_chunk_line prefix_of
prefix_is l = sym (append_assoc ((l.digits ++ l.pad) ++ print_extension l.extension) (13 ∷ []) (10 ∷ []))

prefix_quiet : (l : ChunkLine) → IsChunkLine l → has_feed (prefix_of l) ≡ false
unfolding prefix_of
prefix_quiet l is =
    quiet_both ((l.digits ++ l.pad) ++ print_extension l.extension) (13 ∷ [])
    (quiet_both (l.digits ++ l.pad) (print_extension l.extension)
    (quiet_both l.digits l.pad (quiet is_ascii_hexdigit l.digits refl is.digits.2) (quiet is_ows l.pad refl is.pad))
    (quiet_extension l.extension is.extension))
    refl

-- nothing follows the only line feed
nothing_after : (prefix a c : List ℕ) → has_feed prefix ≡ false → prefix ++ 10 ∷ [] ≡ a ++ 10 ∷ c → c ≡ []
nothing_after [] [] c none e = cc e
nothing_after [] (y ∷ a) c none e = absurd (omega (arith, ap length e, length-append a (10 ∷ c)))
nothing_after (x ∷ prefix) [] c none e = absurd (first x e none)
  where
    first : (x : ℕ) {xs ys : List ℕ} → x ∷ xs ≡ 10 ∷ ys → (x == 10 || has_feed prefix) ≡ false → ⊥
    first x e none =
        let is : x ≡ 10 = cc e in
        absurd (cc (ap (λ b. b == 10 || has_feed prefix) (sym is) ∙ none))
nothing_after (x ∷ prefix) (y ∷ a) c none e =
    let later : prefix ++ 10 ∷ [] ≡ a ++ 10 ∷ c = cc e in
    nothing_after prefix a c (or_parts (x == 10) (has_feed prefix) none).1 later

-- a line feed stands somewhere
feed_at : (bytes : List ℕ) → has_feed bytes ≡ true → (a : List ℕ) × (b : List ℕ) × (bytes ≡ a ++ 10 ∷ b)
feed_at [] e = absurd (cc e)
feed_at (x ∷ bytes) e = at (x == 10) refl (λ off. feed_at bytes (ap (λ b. b || has_feed bytes) off ∙ e))
  where
    at : (b : Bool) → b ≡ (x == 10) → (false ≡ (x == 10) → (a : List ℕ) × (c : List ℕ) × (bytes ≡ a ++ 10 ∷ c)) → (a : List ℕ) × (c : List ℕ)
        × (x ∷ bytes ≡ a ++ 10 ∷ c)
    at true here later =
        let is : x ≡ 10 = grind (arith, nat_tests, here) in
        ([], bytes, λ i. is i ∷ bytes)
    at false other later =
        let found = later other in
        (x ∷ found.0, found.1, λ i. x ∷ found.2 i)

whole_line : (bytes : List ℕ) (l : ChunkLine) (more : List ℕ) → IsChunkLine l → bytes ++ more ≡ print_chunk_line l → has_feed bytes ≡ true
    → bytes ≡ print_chunk_line l
whole_line bytes l more is e feed =
    let at = feed_at bytes feed in
    let none = nothing_after (prefix_of l) at.0 (at.1 ++ more) (prefix_quiet l is)
    (sym (prefix_is l) ∙ sym e ∙ ap (λ x. x ++ more) at.2 ∙ append_assoc at.0 (10 ∷ at.1) more) in
    let nothing : more ≡ [] = empty at.1 more none in
    sym (append-nil bytes) ∙ ap (λ x. bytes ++ x) (sym nothing) ∙ e
  where
    empty : (a b : List ℕ) → a ++ b ≡ [] → b ≡ []
    empty [] b e = e
    empty (x ∷ a) b e = absurd (omega (arith, ap length e))

unended : (bytes : List ℕ) → MayBecomeChunkLine bytes → HasNone IsSomeSizeLine bytes → length bytes < MAX_LINE_BYTES → (b : Bool) → b ≡ has_feed bytes
    → has_feed bytes ≡ false
unended bytes may none short false e = sym e
unended bytes (more, l, reads) none short true e =
    let is : bytes ≡ print_chunk_line l = whole_line bytes l more reads.0 (reads.1 ∙ append-nil (print_chunk_line l)) (sym e) in
    absurd (none bytes [] (chunk_size l, record { line = l; is = reads.0; text_is = is; short = omega (arith, short); size_is = refl })
    (sym (append-nil bytes)))

pub line_unended : (bytes prefix : List ℕ) → prefix ≡ take MAX_LINE_BYTES bytes → length bytes < MAX_LINE_BYTES → MayBecomeChunkLine prefix
    → HasNone IsSomeSizeLine bytes → has_feed bytes ≡ false
line_unended bytes prefix f short may none =
    unended bytes (subst MayBecomeChunkLine (f ∙ take_all MAX_LINE_BYTES bytes (omega (arith, short))) may) none short (has_feed bytes) refl

-- ---- the last line

pub zero_line : List ℕ
zero_line = 48 ∷ 13 ∷ 10 ∷ []

pub zero_line_is : IsSizeLine zero_line 0
unfolding zero_line print_chunk_line
zero_line_is = record {
  line = record { digits = 48 ∷ []; pad = []; extension = None };
  is = record {
    digits = (omega arith, omega arith, All-from_recursion (λ b. IsTrue (is_ascii_hexdigit b)) (48 ∷ []) (refl, tt));
    pad = All-nil _;
    extension = tt;
  };
  text_is = refl;
  short = omega arith;
  size_is = refl;
}

pub body_is_sized : (most : ℕ) (text : List ℕ) → IsDecided most text → BeginsWith (IsSized most) text
body_is_sized most text (inl (body, b)) = record {
  text = texts b.chunks ++ b.last;
  rest = b.trailer;
  is =
      inl (record {
        chunks = b.chunks;
        last = b.last;
        each = b.each;
        last_is = b.last_is;
        text_is = refl;
        small = omega (arith, b.small, ap length b.body_is);
      });
  cut = b.text_is ∙ sym (append_assoc (texts b.chunks) b.last b.trailer);
}
body_is_sized most text (inr large) = record { text = text; rest = []; is = inr large; cut = sym (append-nil text) }
