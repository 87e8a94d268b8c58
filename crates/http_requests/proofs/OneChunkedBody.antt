-- Bytes start with a chunked body in at most one way.
use Rattle.std.proofs.Common.{◌≡◌, ◌≢◌, ℕ, ◌+◌, ◌≤◌, ◌<◌, List, [], ◌∷◌, ◌++◌, length, take, drop, All, refl, sym, ap, ◌∙◌, subst, arith, inl, inr, ◌⊎◌, ⊎_elim}
use Rattle.std.proofs.Common.{append_assoc, length-append}
use Rattle.std.proofs.lemmas.List.{take_at, drop_at, append_cancel_left}
use Rattle.std.proofs.lemmas.List.Elements.{All-head, All-tail}
use Rattle.httparse.specs.Ascii.{crlf_bytes}
use Rattle.httparse.specs.Grammar.{print_chunk_line, chunk_size, print_section}
use Rattle.httparse.proofs.ChunkLemmas.{chunk_line_unique}
use Rattle.httparse.proofs.GrammarLemmas.{section_unique}
use Rattle.http_requests.specs.Chunks.{IsSizeLine, Chunk, IsChunk, texts, contents, IsTrailer, IsBody, IsTooLarge, HasNone, NeverHas, IsDecided, Reading}
use Rattle.http_requests.specs.Chunks.{Reading.{whole, too_large, bad, not_yet}, Stands, MayHave, ReadsChunks}

pub same_cut : (a b r q : List ℕ) → length a ≡ length b → a ++ r ≡ b ++ q → (a ≡ b) × (r ≡ q)
same_cut a b r q long e = (
  sym (take_at a r (length b) long) ∙ ap (take (length b)) e ∙ take_at b q (length b) refl,
  sym (drop_at a r (length b) long) ∙ ap (drop (length b)) e ∙ drop_at b q (length b) refl,
)

pub size_line_once : (a b r q : List ℕ) (m n : ℕ) → IsSizeLine a m → IsSizeLine b n → a ++ r ≡ b ++ q → (a ≡ b) × (m ≡ n) × (r ≡ q)
size_line_once a b r q m n one other e =
    let same = chunk_line_unique (a ++ r) one.line other.line r q (one.is, ap (λ l. l ++ r) one.text_is) (other.is, e ∙ ap (λ l. l ++ q) other.text_is) in
    (one.text_is ∙ ap print_chunk_line same.0 ∙ sym other.text_is, one.size_is ∙ ap chunk_size same.0 ∙ sym other.size_is, same.1)

pub trailer_once : (a b r q : List ℕ) → IsTrailer a → IsTrailer b → a ++ r ≡ b ++ q → (a ≡ b) × (r ≡ q)
trailer_once a b r q one other e =
    let same = section_unique (a ++ r) one.fields other.fields one.last other.last r q (one.are, ap (λ l. l ++ r) one.text_is)
    (other.are, e ∙ ap (λ l. l ++ q) other.text_is) in
    (one.text_is ∙ (λ i. print_section (same.0 i) (same.1 i)) ∙ sym other.text_is, same.2)

-- a chunk's text and what follows, cut after its line
pub chunk_cut : (c : Chunk) (r : List ℕ) (is : IsChunk c) → c.text ++ r ≡ is.line ++ (c.content ++ (crlf_bytes ++ r))
chunk_cut c r is =
    ap (λ l. l ++ r) is.text_is ∙ append_assoc is.line (c.content ++ crlf_bytes) r ∙ ap (λ l. is.line ++ l) (append_assoc c.content crlf_bytes r)

pub chunk_once : (c d : Chunk) (r q : List ℕ) → IsChunk c → IsChunk d → c.text ++ r ≡ d.text ++ q → (c ≡ d) × (r ≡ q)
chunk_once c d r q one other e =
    let lines = size_line_once one.line other.line (c.content ++ (crlf_bytes ++ r)) (d.content ++ (crlf_bytes ++ q)) (length c.content) (length d.content)
    one.line_is other.line_is (sym (chunk_cut c r one) ∙ e ∙ chunk_cut d q other) in
    let parts = same_cut c.content d.content (crlf_bytes ++ r) (crlf_bytes ++ q) lines.1 lines.2 in
    let same : c.text ≡ d.text = one.text_is ∙ (λ i. lines.0 i ++ (parts.0 i ++ crlf_bytes)) ∙ sym other.text_is in
    (λ i. record { text = same i; content = parts.0 i }, append_cancel_left crlf_bytes r q parts.1)

pub chunk_is_not_last : (c : Chunk) (last r q : List ℕ) → IsChunk c → IsSizeLine last 0 → c.text ++ r ≡ last ++ q → ⊥
chunk_is_not_last c last r q is zero e =
    let lines = size_line_once is.line last (c.content ++ (crlf_bytes ++ r)) q (length c.content) 0 is.line_is zero (sym (chunk_cut c r is) ∙ e) in
    absurd (omega (arith, is.some, lines.1))

-- the first chunk, and what follows
pub first_chunk : (c : Chunk) (cs : List Chunk) (r : List ℕ) → texts (c ∷ cs) ++ r ≡ c.text ++ (texts cs ++ r)
first_chunk c cs r = append_assoc c.text (texts cs) r

-- ---- chunks and a size line after them

-- the chunks and their lines are the same, or one line is that of a chunk of the other
abbrev Meet : (cs ds : List Chunk) (line end r q : List ℕ) (size more : ℕ) → Type 0
Meet cs ds line end r q size more = ((cs ≡ ds) × (line ≡ end) × (size ≡ more) × (r ≡ q))
    ⊎ ((0 < size) × (length (contents cs) + size ≤ length (contents ds)))
    ⊎ ((0 < more) × (length (contents ds) + more ≤ length (contents cs)))

lines_meet : (cs ds : List Chunk) (line end r q : List ℕ) (size more : ℕ) → All IsChunk cs → All IsChunk ds → IsSizeLine line size → IsSizeLine end more
    → texts cs ++ (line ++ r) ≡ texts ds ++ (end ++ q) → Meet cs ds line end r q size more
lines_meet [] [] line end r q size more one other l m e = let lines = size_line_once line end r q size more l m e in inl (refl, lines.0, lines.1, lines.2)
lines_meet [] (d ∷ ds) line end r q size more one other l m e =
    let is = All-head IsChunk d ds other in
    let lines = size_line_once line is.line r (d.content ++ (crlf_bytes ++ (texts ds ++ (end ++ q)))) size (length d.content) l is.line_is
    (e ∙ first_chunk d ds (end ++ q) ∙ chunk_cut d (texts ds ++ (end ++ q)) is) in
    inr (inl (omega (arith, lines.1, is.some), omega (arith, lines.1, length-append d.content (contents ds))))
lines_meet (c ∷ cs) [] line end r q size more one other l m e =
    let is = All-head IsChunk c cs one in
    let lines = size_line_once end is.line q (c.content ++ (crlf_bytes ++ (texts cs ++ (line ++ r)))) more (length c.content) m is.line_is
    (sym e ∙ first_chunk c cs (line ++ r) ∙ chunk_cut c (texts cs ++ (line ++ r)) is) in
    inr (inr (omega (arith, lines.1, is.some), omega (arith, lines.1, length-append c.content (contents cs))))
lines_meet (c ∷ cs) (d ∷ ds) line end r q size more one other l m e =
    let now = chunk_once c d (texts cs ++ (line ++ r)) (texts ds ++ (end ++ q)) (All-head IsChunk c cs one) (All-head IsChunk d ds other)
    (sym (first_chunk c cs (line ++ r)) ∙ e ∙ first_chunk d ds (end ++ q)) in
    let same : length c.content ≡ length d.content = ap (λ (x : Chunk). length x.content) now.0 in
    let long : length (contents (c ∷ cs)) ≡ length c.content + length (contents cs) = length-append c.content (contents cs) in
    let wide : length (contents (d ∷ ds)) ≡ length d.content + length (contents ds) = length-append d.content (contents ds) in
    elim (lines_meet cs ds line end r q size more (All-tail IsChunk c cs one) (All-tail IsChunk d ds other) l m now.1)
    as (λ _. Meet (c ∷ cs) (d ∷ ds) line end r q size more) [
      | inl later ↦ inl ((λ i. now.0 i ∷ later.0 i), later.1, later.2, later.3)
      | inr room ↦ inr (⊎_elim (λ over. inl (over.0, omega (arith, over.1, same, long, wide)))
          (λ over. inr (over.0, omega (arith, over.1, same, long, wide))) room)
    ]

-- ---- bodies

bodies_once : (cs ds : List Chunk) (last end trailer fields r q : List ℕ) → All IsChunk cs → All IsChunk ds → IsSizeLine last 0 → IsSizeLine end 0
    → IsTrailer trailer → IsTrailer fields
    → texts cs ++ (last ++ (trailer ++ r)) ≡ texts ds ++ (end ++ (fields ++ q)) → (cs ≡ ds) × (last ≡ end) × (trailer ≡ fields) × (r ≡ q)
bodies_once cs ds last end trailer fields r q one other l m t u e =
    elim (lines_meet cs ds last end (trailer ++ r) (fields ++ q) 0 0 one other l m e)
    as (λ _. (cs ≡ ds) × (last ≡ end) × (trailer ≡ fields) × (r ≡ q)) [
      | inl same ↦ let ends = trailer_once trailer fields r q t u same.3 in (same.0, same.1, ends.0, ends.1)
      | inr room ↦ ⊎_elim (λ over. absurd (omega (arith, over.0))) (λ over. absurd (omega (arith, over.0))) room
    ]

-- a body's text and what follows, cut into its parts
pub body_cut : (most : ℕ) (text body r : List ℕ) (b : IsBody most text body) → text ++ r ≡ texts b.chunks ++ (b.last ++ (b.trailer ++ r))
body_cut most text body r b =
    ap (λ l. l ++ r) b.text_is ∙ append_assoc (texts b.chunks) (b.last ++ b.trailer) r ∙ ap (λ l. texts b.chunks ++ l) (append_assoc b.last b.trailer r)

pub body_once : (most : ℕ) (text other body more r q : List ℕ) → IsBody most text body → IsBody most other more → text ++ r ≡ other ++ q → (text ≡ other)
    × (body ≡ more) × (r ≡ q)
body_once most text other body more r q b c e =
    let same = bodies_once b.chunks c.chunks b.last c.last b.trailer c.trailer r q b.each c.each b.last_is c.last_is b.trailer_is c.trailer_is
    (sym (body_cut most text body r b) ∙ e ∙ body_cut most other more q c) in (
      b.text_is ∙ (λ i. texts (same.0 i) ++ (same.1 i ++ same.2 i)) ∙ sym c.text_is,
      b.body_is ∙ ap contents same.0 ∙ sym c.body_is,
      same.3,
    )

-- ---- the line by which the sum passes the most

pub large_cut : (most : ℕ) (text r : List ℕ) (t : IsTooLarge most text) → text ++ r ≡ texts t.chunks ++ (t.line ++ r)
large_cut most text r t = ap (λ l. l ++ r) t.text_is ∙ append_assoc (texts t.chunks) t.line r

-- a body has what its lines say
sizes_within : (cs ds : List Chunk) (line last r q : List ℕ) (size : ℕ) → All IsChunk cs → All IsChunk ds → IsSizeLine line size → IsSizeLine last 0
    → texts cs ++ (line ++ r) ≡ texts ds ++ (last ++ q) → length (contents cs) + size ≤ length (contents ds)
sizes_within cs ds line last r q size one other l m e =
    elim (lines_meet cs ds line last r q size 0 one other l m e) as (λ _. length (contents cs) + size ≤ length (contents ds)) [
      | inl same ↦ omega (arith, same.2, ap (λ (xs : List Chunk). length (contents xs)) same.0)
      | inr room ↦ ⊎_elim (λ over. over.1) (λ over. absurd (omega (arith, over.0))) room
    ]

pub body_is_not_large : (most : ℕ) (text other body r q : List ℕ) → IsBody most text body → IsTooLarge most other → text ++ r ≡ other ++ q → ⊥
body_is_not_large most text other body r q b t e =
    let within = sizes_within t.chunks b.chunks t.line b.last q (b.trailer ++ r) t.size t.each b.each t.line_is b.last_is
    (sym (large_cut most other q t) ∙ sym e ∙ body_cut most text body r b) in
    absurd (omega (arith, within, t.large, b.small, ap length b.body_is))

larges_once : (most : ℕ) (cs ds : List Chunk) (line end r q : List ℕ) (size more : ℕ) → All IsChunk cs → All IsChunk ds → IsSizeLine line size
    → IsSizeLine end more
    → length (contents cs) ≤ most → length (contents ds) ≤ most → most < length (contents cs) + size → most < length (contents ds) + more
    → texts cs ++ (line ++ r) ≡ texts ds ++ (end ++ q) → (cs ≡ ds) × (line ≡ end) × (r ≡ q)
larges_once most cs ds line end r q size more one other l m s t u v e =
    elim (lines_meet cs ds line end r q size more one other l m e) as (λ _. (cs ≡ ds) × (line ≡ end) × (r ≡ q)) [
      | inl same ↦ (same.0, same.1, same.3)
      | inr room ↦ ⊎_elim (λ over. absurd (omega (arith, over.1, t, u))) (λ over. absurd (omega (arith, over.1, s, v))) room
    ]

pub large_once : (most : ℕ) (text other r q : List ℕ) → IsTooLarge most text → IsTooLarge most other → text ++ r ≡ other ++ q → (text ≡ other) × (r ≡ q)
large_once most text other r q s t e =
    let same = larges_once most s.chunks t.chunks s.line t.line r q s.size t.size s.each t.each s.line_is t.line_is
    s.small t.small s.large t.large (sym (large_cut most text r s) ∙ e ∙ large_cut most other q t) in
    (s.text_is ∙ (λ i. texts (same.0 i) ++ same.1 i) ∙ sym t.text_is, same.2)

-- ---- one answer

longer : (bytes text rest more : List ℕ) → bytes ≡ text ++ rest → bytes ++ more ≡ text ++ (rest ++ more)
longer bytes text rest more e = ap (λ l. l ++ more) e ∙ append_assoc text rest more

pub bad_is_none : (most : ℕ) (bytes : List ℕ) → ReadsChunks most bytes bad → HasNone (IsDecided most) bytes
bad_is_none most bytes never text rest is e = never [] text (rest ++ []) is (longer bytes text rest [] e)

none_stands : (most used : ℕ) (bytes : List ℕ) → HasNone (IsDecided most) bytes → Stands (IsDecided most) bytes used → ⊥
none_stands most used bytes none stands = none stands.text stands.rest stands.is stands.cut

decided_body : (most used : ℕ) (bytes body : List ℕ) → ReadsChunks most bytes (whole body used) → Stands (IsDecided most) bytes used
decided_body most used bytes body s = record { text = s.text; rest = s.rest; is = inl (body, s.is); cut = s.cut; used_is = s.used_is }

decided_large : (most used : ℕ) (bytes : List ℕ) → ReadsChunks most bytes (too_large used) → Stands (IsDecided most) bytes used
decided_large most used bytes s = record { text = s.text; rest = s.rest; is = inr s.is; cut = s.cut; used_is = s.used_is }

never_may : (most : ℕ) (bytes : List ℕ) → NeverHas (IsDecided most) bytes → MayHave (IsDecided most) bytes → ⊥
never_may most bytes never may = never may.more may.text may.rest may.is may.cut

pub same_reading : (most : ℕ) (bytes : List ℕ) (a b : Reading) → ReadsChunks most bytes a → ReadsChunks most bytes b → a ≡ b
same_reading most bytes (whole x m) (whole y n) one other =
    let same = body_once most one.text other.text x y one.rest other.rest one.is other.is (sym one.cut ∙ other.cut) in
    let used : m ≡ n = one.used_is ∙ ap length same.0 ∙ sym other.used_is in
    (λ i. whole (same.1 i) (used i))
same_reading most bytes (whole x m) (too_large n) one other =
    absurd (body_is_not_large most one.text other.text x one.rest other.rest one.is other.is (sym one.cut ∙ other.cut))
same_reading most bytes (whole x m) bad one other = absurd (none_stands most m bytes (bad_is_none most bytes other) (decided_body most m bytes x one))
same_reading most bytes (whole x m) not_yet one other = absurd (none_stands most m bytes other.0 (decided_body most m bytes x one))
same_reading most bytes (too_large m) (whole x n) one other =
    absurd (body_is_not_large most other.text one.text x other.rest one.rest other.is one.is (sym other.cut ∙ one.cut))
same_reading most bytes (too_large m) (too_large n) one other =
    let same = large_once most one.text other.text one.rest other.rest one.is other.is (sym one.cut ∙ other.cut) in
    ap too_large (one.used_is ∙ ap length same.0 ∙ sym other.used_is)
same_reading most bytes (too_large m) bad one other = absurd (none_stands most m bytes (bad_is_none most bytes other) (decided_large most m bytes one))
same_reading most bytes (too_large m) not_yet one other = absurd (none_stands most m bytes other.0 (decided_large most m bytes one))
same_reading most bytes bad (whole x n) one other = absurd (none_stands most n bytes (bad_is_none most bytes one) (decided_body most n bytes x other))
same_reading most bytes bad (too_large n) one other = absurd (none_stands most n bytes (bad_is_none most bytes one) (decided_large most n bytes other))
same_reading most bytes bad bad one other = refl
same_reading most bytes bad not_yet one other = absurd (never_may most bytes one other.1)
same_reading most bytes not_yet (whole x n) one other = absurd (none_stands most n bytes one.0 (decided_body most n bytes x other))
same_reading most bytes not_yet (too_large n) one other = absurd (none_stands most n bytes one.0 (decided_large most n bytes other))
same_reading most bytes not_yet bad one other = absurd (never_may most bytes other one.1)
same_reading most bytes not_yet not_yet one other = refl

stands_longer : (Is : List ℕ → Type 0) (bytes more : List ℕ) (used : ℕ) → Stands Is bytes used → Stands Is (bytes ++ more) used
stands_longer Is bytes more used s =
    record { text = s.text; rest = s.rest ++ more; is = s.is; cut = longer bytes s.text s.rest more s.cut; used_is = s.used_is }

pub never_longer : (Is : List ℕ → Type 0) (bytes more : List ℕ) → NeverHas Is bytes → NeverHas Is (bytes ++ more)
never_longer Is bytes more never behind = subst (HasNone Is) (sym (append_assoc bytes more behind)) (never (more ++ behind))

pub reading_stays : (most : ℕ) (bytes more : List ℕ) (a : Reading) → a ≢ not_yet → ReadsChunks most bytes a → ReadsChunks most (bytes ++ more) a
reading_stays most bytes more (whole x m) some reads = stands_longer (λ (text : List ℕ). IsBody most text x) bytes more m reads
reading_stays most bytes more (too_large m) some reads = stands_longer (IsTooLarge most) bytes more m reads
reading_stays most bytes more bad some reads = never_longer (IsDecided most) bytes more reads
reading_stays most bytes more not_yet some reads = absurd (some refl)
