-- Laws that the impls of this crate name, and their lemmas. They are in specs/, since a clause can't name its own crate's proofs/.
-- Reading a value from fewer bytes than every value of its type has yields too few bytes.
use Rattle.std.proofs.Common.{◌≡◌, ℕ, ◌<◌, eqb, ltb, cond, ◌&&◌, List, [], ◌∷◌, length, drop, Result, Ok, Err, Bool, true, false, refl, ap, sym, ◌∙◌}
use Rattle.std.proofs.Common.{arith}
use Rattle.std.proofs.lemmas.Bool.{ltb-true, lt-ltb, eqb-true, eqb-false, ne_eqb}
use Rattle.thrift_binary.specs.declared.fault.WireError.TheVariants.{Truncated, BadType}
use Rattle.thrift_binary.specs.Reading.{Read, ◌>>=◌, string_at, size_at, list_at, map_at}
use Rattle.thrift_binary.specs.Reading as wires
use Rattle.thrift_binary.specs.Fields.{Take, fields_in, fields_at}
use Rattle.thrift_binary.specs.Lists.{list_of}
use Rattle.thrift_binary.specs.Skipping.{Skip, past, text, struct, items, pairs, container, width, leaf, is_container, value_at, skip_at}
use Rattle.thrift_binary.proofs.SkippedByLevel.{value_at-leaf, value_at-inside}
use Rattle.batch_codec.specs.declared.fault.DecodeError.{DecodeError}
use Rattle.batch_codec.specs.declared.fault.DecodeError.TheVariants.{Wire}
use Rattle.batch_codec.specs.Decoding.{Reading, wire, skipped, bool_at, double_at, i32_at, i64_at, id_at, text_at, binary_at}
use Rattle.batch_codec.specs.TagReading.{type_at}
use Rattle.batch_codec.specs.ReferenceReading.{kind_at}
use Rattle.value_pieces.specs.LeastBytes.{least, least_bytes}

-- fewer bytes than n
pub few : (n : ℕ) (w : List ℕ) → past n w ≡ Err Truncated → ltb (length w) n ≡ true
few n w h = by (ltb (length w) n) h
  where
    by : (b : Bool) → ◌≡◌ {A = Read (Unit {0})} (cond b (Err Truncated) (Ok (tt, drop n w))) (Err Truncated) → b ≡ true
    by true e = refl
    by false e = absurd cc

-- reading a value of the type from fewer bytes yields too few bytes
abbrev pub Short : {A : Type 0} → ℕ → Reading A → Type 0
Short c read = (w : List ℕ) → least_bytes c w ≡ Err Truncated → read w ≡ Err (Wire Truncated)

-- no byte
none : (w : List ℕ) → past 1 w ≡ Err Truncated → w ≡ []
none [] h = refl
none (b ∷ w) h = absurd (let k : length (b ∷ w) < 1 = ltb-true _ _ (few 1 (b ∷ w) h) in omega arith)

pub bool_short : Short 2 bool_at
unfolding bool_at least_bytes wires.bool_at
bool_short w h = rw (none w h) refl

pub double_short : Short 4 double_at
unfolding double_at least_bytes
double_short w h = rw (few 8 w h) refl

pub i32_short : Short 8 i32_at
unfolding i32_at least_bytes
i32_short w h = rw (few 4 w h) refl

pub i64_short : Short 10 i64_at
unfolding i64_at least_bytes
i64_short w h = rw (few 8 w h) refl

pub id_short : Short 10 id_at
unfolding id_at
id_short w h = rw (i64_short w h) refl

pub kind_short : Short 8 kind_at
unfolding kind_at
kind_short w h = rw (i32_short w h) refl

pub type_short : Short 8 type_at
unfolding type_at
type_short w h = rw (i32_short w h) refl

-- fewer bytes than the n of every value are too few
abbrev pub Few : {A : Type 0} → ℕ → Reading A → Type 0
Few n read = (w : List ℕ) → length w < n → read w ≡ Err (Wire Truncated)

past_few : (n : ℕ) (w : List ℕ) → length w < n → past n w ≡ Err Truncated
past_few n w lt = rw (lt-ltb (length w) n lt) refl

pub double_few : Few 8 double_at
unfolding least_bytes
double_few w lt = double_short w (past_few 8 w lt)

pub i32_few : Few 4 i32_at
unfolding least_bytes
i32_few w lt = i32_short w (past_few 4 w lt)

pub i64_few : Few 8 i64_at
unfolding least_bytes
i64_few w lt = i64_short w (past_few 8 w lt)

pub id_few : Few 8 id_at
unfolding least_bytes
id_few w lt = id_short w (past_few 8 w lt)

pub kind_few : Few 4 kind_at
unfolding least_bytes
kind_few w lt = kind_short w (past_few 4 w lt)

pub type_few : Few 4 type_at
unfolding least_bytes
type_few w lt = type_short w (past_few 4 w lt)

few_of_text : (r : Read (List ℕ)) → ◌≡◌ {A = Read (Unit {0})} (r >>= λ x. Ok (tt, x.1)) (Err Truncated) → r ≡ Err Truncated
few_of_text (Ok x) h = absurd cc
few_of_text (Err e) h = let k : e ≡ Truncated = cc in rw k refl

pub binary_short : Short 11 binary_at
unfolding binary_at least_bytes text
binary_short w h = rw (few_of_text (string_at w) h) refl

pub text_short : Short 11 text_at
unfolding text_at least_bytes text
text_short w h = rw (few_of_text (string_at w) h) refl

few_of_list : (w : List ℕ) → past 5 w ≡ Err Truncated → list_at w ≡ Err Truncated
unfolding list_at size_at
few_of_list [] h = refl
few_of_list (b ∷ w) h =
    let k : length (b ∷ w) < 5 = ltb-true _ _ (few 5 (b ∷ w) h) in
    let l : ltb (length w) 4 ≡ true = lt-ltb _ _ (omega arith) in
    rw l refl

pub list_short : {A : Type 0} (read : Reading A) → Short 15 (list_of wire 12 read)
unfolding least_bytes list_of
list_short read w h = rw (few_of_list w h) refl

pub struct_short : {S X : Type 0} (take : Take S DecodeError) (none : S) (from : S → Result X DecodeError)
    → Short 12 (λ w. fields_at wire take none w >>= λ y. from y.0 >>= λ z. Ok (z, y.1))
unfolding least_bytes fields_at fields_in
struct_short take start from w h = rw (none w h) refl

pub known_short : {A S : Type 0} (code : ℕ) (read : Reading A) → Short code read
    → (set : A → S) (c : ℕ) (b : Bool) (w : List ℕ) (others : Result (S × List ℕ) DecodeError) → least_bytes c w ≡ Err Truncated → others ≡ Err (Wire Truncated)
    → cond (eqb c code && b) (read w >>= λ x. Ok (set x.0, x.1)) others ≡ Err (Wire Truncated)
known_short {S = S} code read short set c b w others h more = by (eqb c code) refl b
  where
    known : c ≡ code → ◌≡◌ {A = Result (S × List ℕ) DecodeError} (read w >>= λ x. Ok (set x.0, x.1)) (Err (Wire Truncated))
    known is = rw (short w (rw is at h)) refl

    by : (k : Bool) → eqb c code ≡ k → (d : Bool) → cond (k && d) (read w >>= λ x. Ok (set x.0, x.1)) others ≡ Err (Wire Truncated)
    by true is true = known (eqb-true c code is)
    by true is false = more
    by false is d = more

-- ---- skipped values

few_of_map : (w : List ℕ) → past 6 w ≡ Err Truncated → map_at w ≡ Err Truncated
unfolding map_at size_at
few_of_map [] h = refl
few_of_map (b ∷ []) h = refl
few_of_map (b ∷ d ∷ w) h =
    let k : length (b ∷ d ∷ w) < 6 = ltb-true _ _ (few 6 (b ∷ d ∷ w) h) in
    let l : ltb (length w) 4 ≡ true = lt-ltb _ _ (omega arith) in
    rw l refl

container_short : (value : ℕ → Skip) (c : ℕ) (w : List ℕ) → is_container c ≡ true → least_bytes c w ≡ Err Truncated → container value c w ≡ Err Truncated
unfolding least_bytes struct items pairs fields_at fields_in
container_short value c w inside h = at (eqb c 12) refl (eqb c 13) refl
  where
    within : (b d : Bool) → (b && d) ≡ true → (b ≡ true) × (d ≡ true)
    within true true e = (refl, refl)
    within true false e = absurd cc
    within false d e = absurd cc

    head : eqb c 12 ≡ false → eqb c 13 ≡ false → (b : Bool) → eqb c 14 ≡ b → list_at w ≡ Err Truncated
    head n2 n3 true is = let k : c ≡ 14 = eqb-true c 14 is in few_of_list w (rw k at h)
    head n2 n3 false n4 =
        let (low, high) = within (ltb 11 c) (ltb c 16) inside in
        let l : 11 < c = ltb-true _ _ low in
        let g : c < 16 = ltb-true _ _ high in
        let k : c ≡ 15 = omega (arith, l, g, eqb-false c 12 n2, eqb-false c 13 n3, eqb-false c 14 n4) in
        few_of_list w (rw k at h)

    at : (b : Bool) → eqb c 12 ≡ b → (d : Bool) → eqb c 13 ≡ d → container value c w ≡ Err Truncated
    at true is d e = let k : c ≡ 12 = eqb-true c 12 is in rw (is, none w (rw k at h)) refl
    at false n2 true is = let k : c ≡ 13 = eqb-true c 13 is in rw (n2, is, few_of_map w (rw k at h)) refl
    at false n2 false n3 = rw (n2, n3, head n2 n3 (eqb c 14) refl) refl

past_some : (n : ℕ) (w : List ℕ) → past n w ≡ Err Truncated → cond (ltb 0 n) (past n w) (Err BadType) ≡ Err Truncated
past_some n w h =
    let k : length w < n = ltb-true _ _ (few n w h) in
    let l : ltb 0 n ≡ true = lt-ltb _ _ (omega arith) in
    rw l h

leaf_short : (c : ℕ) (w : List ℕ) → is_container c ≡ false → least_bytes c w ≡ Err Truncated → leaf c w ≡ Err Truncated
unfolding least_bytes
leaf_short c w outside h = at (eqb c 11) refl h
  where
    apart : (k : ℕ) → (ltb 11 k && ltb k 16) ≡ true → eqb c k ≡ false
    apart k is = ne_eqb c k (λ e. absurd (let f : false ≡ true = sym outside ∙ ap is_container e ∙ is in cc))

    same : eqb c 11 ≡ false → least c ≡ width c
    same isnt = rw (isnt, apart 12 refl, apart 13 refl, apart 14 refl, apart 15 refl) refl

    at : (b : Bool) → eqb c 11 ≡ b → cond b (text w) (past (least c) w) ≡ Err Truncated
        → cond b (text w) (cond (ltb 0 (width c)) (past (width c) w) (Err BadType)) ≡ Err Truncated
    at true is k = k
    at false isnt k = past_some (width c) w (sym (ap (λ n. past n w) (same isnt)) ∙ k)

pub skip_short : (c : ℕ) (w : List ℕ) → least_bytes c w ≡ Err Truncated → skip_at c w ≡ Err Truncated
unfolding skip_at
skip_short c w h = by (eqb (length w) 0)
  where
    value : (b : Bool) → is_container c ≡ b → value_at 64 c w ≡ Err Truncated
    value true is = value_at-inside 64 63 c w is refl ∙ container_short (value_at 63) c w is h
    value false is = value_at-leaf 64 c w is ∙ leaf_short c w is h

    by : (b : Bool) → cond b (Err Truncated) (value_at 64 c w) ≡ Err Truncated
    by true = refl
    by false = value (is_container c) refl

pub skipped_short : {S : Type 0} (s : S) (c : ℕ) (w : List ℕ) → least_bytes c w ≡ Err Truncated → skipped s c w ≡ Err (Wire Truncated)
skipped_short s c w h = rw (skip_short c w h) refl
