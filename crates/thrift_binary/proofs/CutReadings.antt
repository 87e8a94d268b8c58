-- The faults of each reading of this crate have places.
use Rattle.std.proofs.Common.{◌≡◌, ℕ, ℤ, zero, suc, ◌^◌, Bool, true, false, cond, eqb, ltb, ◌&&◌, ◌||◌, List, [], ◌∷◌, take, Option, Some, None, Ok, Err, refl}
use Rattle.std.proofs.Common.{sym, ap, ◌∙◌, append-nil, arith, w16}
use Rattle.std.proofs.lemmas.List.{length-take-le, take_at}
use Rattle.std.specs.Int.{Width, cast_signed}
use Rattle.byteorder.specs.Endian.{big_number}
use Rattle.thrift_binary.specs.declared.fault.WireError.{WireError}
use Rattle.thrift_binary.specs.declared.fault.WireError.TheVariants.{Truncated, BadLength, BadType, BadBool}
use Rattle.thrift_binary.specs.Reading.{◌>>=◌, Read, byte_at, bool_at, bytes_at, number_at, signed_at, size_at, string_at, stopped, typed, field_at}
use Rattle.thrift_binary.specs.Reading.{field_behind, list_at, map_at, is_code}
use Rattle.thrift_binary.specs.Skipping.{width}
use Rattle.thrift_binary.specs.Cuts.{whole, unsettled, IsCutSafe}
use Rattle.thrift_binary.proofs.ReadBytesSpell.{big_number-take}
use Rattle.thrift_binary.proofs.Cuts.{cut_ok, cut_err, cut_beginning, cut_then, cut_if}

pub byte_cut : IsCutSafe Truncated byte_at
byte_cut [] = unsettled nothing
  where
    nothing : (m : ℕ) → byte_at (take m []) ≡ Err Truncated
    nothing zero = refl
    nothing (suc m) = refl
byte_cut (b ∷ w) = whole b (record {
  text = b ∷ [];
  rest = w;
  parts = refl;
  same = λ v. refl;
  before = λ m lt. (let none : m ≡ 0 = omega arith in rw none refl);
})

pub bytes_cut : (n : ℕ) → IsCutSafe Truncated (bytes_at n)
bytes_cut n = cut_beginning Truncated n (take n) (λ w le. sym (take_at (take n w) [] n (length-take-le n w le)) ∙ ap (take n) (append-nil (take n w)))

pub number_cut : (n : ℕ) → IsCutSafe Truncated (number_at n)
number_cut n = cut_beginning Truncated n (big_number n) (λ w le. big_number-take n w le)

pub signed_cut : (width : Width) (n : ℕ) → IsCutSafe Truncated (signed_at width n)
signed_cut width n = cut_beginning Truncated n (λ w. cast_signed width (big_number n w)) (λ w le. ap (cast_signed width) (big_number-take n w le))

abbrev said : Bool → List ℕ → Read Bool
said x v = Ok (x, v)

abbrev behind : ℕ → List ℕ → Read Bool
behind b v = cond (eqb b 0) (said false v) (cond (eqb b 1) (said true v) (Err BadBool))

pub bool_cut : IsCutSafe Truncated bool_at
unfolding bool_at
bool_cut =
    cut_then Truncated byte_at behind byte_cut
    (λ b w. cut_if Truncated (eqb b 0) (said false)
    (λ v. cond (eqb b 1) (said true v) (Err BadBool)) w (cut_ok Truncated (said false) false (λ v. refl) w)
    (cut_if Truncated (eqb b 1) (said true)
    (λ v. Err BadBool) w (cut_ok Truncated (said true) true (λ v. refl) w) (cut_err Truncated (λ v. Err BadBool) BadBool (λ v. refl) w)))

-- what is read is x
pass_cut : {A : Type 0} (x : A) → IsCutSafe Truncated (λ v. Ok (x, v))
pass_cut {A = A} x = let ok : List ℕ → Read A = λ v. Ok (x, v) in cut_ok Truncated ok x (λ v. refl)

-- it is x if the test holds, else the fault
test_cut : {A : Type 0} (b : Bool) (x : A) (e : WireError) → IsCutSafe Truncated (λ v. cond b (Ok (x, v)) (Err e))
test_cut {A = A} b x e w =
    let ok : List ℕ → Read A = λ v. Ok (x, v) in
    let bad : List ℕ → Read A = λ v. Err e in
    cut_if Truncated b ok bad w (cut_ok Truncated ok x (λ v. refl) w) (cut_err Truncated bad e (λ v. refl) w)

pub size_cut : IsCutSafe Truncated size_at
unfolding size_at
size_cut =
    let next : ℕ → List ℕ → Read ℕ = λ n v. cond (ltb n (2 ^ 31)) (Ok (n, v)) (Err BadLength) in
    cut_then Truncated (number_at 4) next (number_cut 4) (λ n. test_cut (ltb n (2 ^ 31)) n BadLength)

pub string_cut : IsCutSafe Truncated string_at
unfolding string_at
string_cut = cut_then Truncated size_at bytes_at size_cut bytes_cut

behind_cut : (c : ℕ) → IsCutSafe Truncated (field_behind c)
behind_cut c w =
    let found : ℤ → List ℕ → Read (Option (ℕ × ℤ)) = λ z v. cond (is_code c) (Ok (Some (c, z), v)) (Err BadType) in
    let named : List ℕ → Read (Option (ℕ × ℤ)) = λ v. signed_at w16 2 v >>= typed c in
    cut_if Truncated (eqb c 0) stopped named w (pass_cut None w)
    (cut_then Truncated (signed_at w16 2) found (signed_cut w16 2) (λ z. test_cut (is_code c) (Some (c, z)) BadType) w)

pub field_cut : IsCutSafe Truncated field_at
unfolding field_at
field_cut = cut_then Truncated byte_at field_behind byte_cut behind_cut

abbrev list_sized : ℕ → ℕ → List ℕ → Read (ℕ × ℕ)
list_sized c n v = cond (eqb n 0 || is_code c) (Ok ((c, n), v)) (Err BadType)

pub list_head_cut : IsCutSafe Truncated list_at
unfolding list_at
list_head_cut =
    let next : ℕ → List ℕ → Read (ℕ × ℕ) = λ c v. size_at v >>= λ n. list_sized c n.0 n.1 in
    cut_then Truncated byte_at next byte_cut (λ c. cut_then Truncated size_at (list_sized c) size_cut (λ n. test_cut (eqb n 0 || is_code c) (c, n) BadType))

abbrev map_sized : ℕ → ℕ → ℕ → List ℕ → Read ((ℕ × ℕ) × ℕ)
map_sized k c n v = cond (eqb n 0 || (is_code k && is_code c)) (Ok (((k, c), n), v)) (Err BadType)

abbrev map_keyed : ℕ → ℕ → List ℕ → Read ((ℕ × ℕ) × ℕ)
map_keyed k c v = size_at v >>= λ n. map_sized k c n.0 n.1

pub map_head_cut : IsCutSafe Truncated map_at
unfolding map_at
map_head_cut =
    let next : ℕ → List ℕ → Read ((ℕ × ℕ) × ℕ) = λ k v. byte_at v >>= λ c. map_keyed k c.0 c.1 in
    cut_then Truncated byte_at next byte_cut
    (λ k. cut_then Truncated byte_at (map_keyed k) byte_cut
    (λ c. cut_then Truncated size_at (map_sized k c) size_cut (λ n. test_cut (eqb n 0 || (is_code k && is_code c)) ((k, c), n) BadType)))
