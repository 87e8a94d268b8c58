-- What is written spells the value.
use Rattle.std.proofs.Common.{◌≡◌, ℕ, ℤ, ◌<◌, ◌^◌, Bool, true, false, List, [], ◌∷◌, length, refl, sym, ap, ◌∙◌, append-nil, arith, w16, w32, w64, to_z-of_z}
use Rattle.std.proofs.Common.{SFits}
use Rattle.std.specs.Int.{Width, cast_signed, cast_unsigned}
use Rattle.std.specs.List.{AllByRecursion, flat_map}
use Rattle.std.proofs.Math.Facts.{Fits-of_z}
use Rattle.byteorder.specs.Endian.{big_bytes, big_number}
use Rattle.byteorder.specs.Numbers.{big_number-reads_back, length-bytes_high_first}
use Rattle.thrift_binary.specs.Spelling.{IsBool, IsI32, IsI64, IsDouble, IsSize, IsString, Field, IsHead, IsFields, IsEach, IsListHead, IsTypedList}
use Rattle.thrift_binary.specs.Writing.{bool_text, i32_text, i64_text, size_text, string_text, field_text, list_head_text, fields_text, list_text, HasHead}

-- n bytes of a number are read back
number_back : (n x : ℕ) → x < 256 ^ n → big_number n (big_bytes n x) ≡ x
number_back n x lt = ap (big_number n) (sym (append-nil (big_bytes n x))) ∙ big_number-reads_back n x [] lt

signed_back : (width : Width) (n : ℕ) (z : ℤ) → SFits width z → cast_unsigned width z < 256 ^ n
    → cast_signed width (big_number n (big_bytes n (cast_unsigned width z))) ≡ z
signed_back width n z fits lt = ap (cast_signed width) (number_back n (cast_unsigned width z) lt) ∙ to_z-of_z fits

pub bool_written : (b : Bool) → IsBool (bool_text b) b
bool_written true = refl
bool_written false = refl

pub i32_written : (z : ℤ) → SFits w32 z → IsI32 (i32_text z) z
unfolding i32_text
i32_written z fits = (length-bytes_high_first 4 (cast_unsigned w32 z), (let f = Fits-of_z fits in signed_back w32 4 z fits f.fits))

pub i64_written : (z : ℤ) → SFits w64 z → IsI64 (i64_text z) z
unfolding i64_text
i64_written z fits = (length-bytes_high_first 8 (cast_unsigned w64 z), (let f = Fits-of_z fits in signed_back w64 8 z fits f.fits))

pub size_written : (n : ℕ) → n < 2 ^ 31 → IsSize (size_text n) n
unfolding size_text
size_written n lt = (length-bytes_high_first 4 n, number_back 4 n (omega arith), lt)

pub double_written : (bytes : List ℕ) → length bytes ≡ 8 → IsDouble bytes bytes
double_written bytes len = (len, refl)

pub string_written : (bytes : List ℕ) → length bytes < 2 ^ 31 → IsString (string_text bytes) bytes
unfolding string_text
string_written bytes lt = (size_text (length bytes), size_written (length bytes) lt, refl)

pub field_written : (f : Field) → HasHead f → IsHead (field_text f.code f.id) f
unfolding field_text
field_written f (fits, coded) = (
  big_bytes 2 (cast_unsigned w16 f.id),
  length-bytes_high_first 2 (cast_unsigned w16 f.id),
  (let g = Fits-of_z fits in signed_back w16 2 f.id fits g.fits),
  refl,
  coded,
)

pub list_head_written : (c n : ℕ) → n < 2 ^ 31 → IsListHead c n (list_head_text c n)
unfolding list_head_text
list_head_written c n lt = (c, size_text n, (λ some. refl), size_written n lt, refl)

pub fields_written : (fs : List Field) → AllByRecursion HasHead fs → IsFields fs (fields_text fs)
fields_written [] all = refl
fields_written (f ∷ fs) all = (field_text f.code f.id, fields_text fs, field_written f all.0, refl, fields_written fs all.1)

each_written : {A : Type 0} (Spells : List ℕ → A → Type 0) (one : A → List ℕ) (xs : List A) → AllByRecursion (λ x. Spells (one x) x) xs
    → IsEach Spells xs (flat_map one xs)
each_written Spells one [] all = refl
each_written Spells one (x ∷ xs) all = (one x, flat_map one xs, all.0, refl, each_written Spells one xs all.1)

pub list_written : {A : Type 0} (c : ℕ) (Spells : List ℕ → A → Type 0) (one : A → List ℕ) (xs : List A) → AllByRecursion (λ x. Spells (one x) x) xs
    → length xs < 2 ^ 31 → IsTypedList c Spells (list_text c one xs) xs
list_written c Spells one xs all lt = (list_head_text c (length xs), flat_map one xs, list_head_written c (length xs) lt, refl, each_written Spells one xs all)
