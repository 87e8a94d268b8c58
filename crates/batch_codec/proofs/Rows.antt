-- Examples: the results of decoding some short bytes.
use Rattle.std.proofs.Common.{◌≡◌, ℕ, List, [], ◌∷◌, ◌++◌, None, true, Ok, Err, refl, lit<}
use Rattle.std.specs.Str.{is_utf8}
use Rattle.std.proofs.lemmas.Str.{is_utf8-from_IsUtf8, IsUtf8-from_ascii}
use Rattle.std.proofs.lemmas.Str.Ascii.{IsAscii-cons, IsAscii-nil}
use Rattle.jaeger_model.specs.declared.batch.Batch.{Batch}
use Rattle.thrift_binary.specs.declared.fault.WireError.TheVariants.{Truncated, BadLength, BadType}
use Rattle.thrift_binary.specs.Reading.{size_at, string_at, field_at, list_at}
use Rattle.thrift_binary.specs.Fields.{fields_in, fields_at}
use Rattle.thrift_binary.specs.Lists.{items_at, list_of}
use Rattle.batch_codec.specs.declared.fault.DecodeError.TheVariants.{Wire, Missing, Trailing}
use Rattle.batch_codec.specs.declared.fault.StructName.TheVariants as structs
use Rattle.batch_codec.specs.Decoding.{text_at}
use Rattle.batch_codec.specs.ProcessReading.{take_process, process_from, process_at}
use Rattle.batch_codec.specs.SpanReading.{span_at}
use Rattle.batch_codec.specs.BatchReading.{take_batch, batch_from, batch_at, decoded}

-- a process with the service `a`
process : List ℕ
process = 12 ∷ 0 ∷ 1 ∷ 11 ∷ 0 ∷ 1 ∷ 0 ∷ 0 ∷ 0 ∷ 1 ∷ 97 ∷ 0 ∷ []

-- the head of the list of spans
spans : ℕ → ℕ → ℕ → List ℕ
spans type first last = 15 ∷ 0 ∷ 2 ∷ type ∷ first ∷ 255 ∷ 255 ∷ last ∷ []

none : ℕ → List ℕ
none type = 15 ∷ 0 ∷ 2 ∷ type ∷ 0 ∷ 0 ∷ 0 ∷ 0 ∷ []

alone : Batch
alone = record { process = record { service = 97 ∷ []; tags = [] }; spans = []; seq_no = None }

a_is_text : is_utf8 (97 ∷ []) ≡ true
a_is_text = is_utf8-from_IsUtf8 (97 ∷ []) (IsUtf8-from_ascii (97 ∷ []) (IsAscii-cons 97 [] (lit< tt) IsAscii-nil))

no_spans : decoded (process ++ none 12 ++ 0 ∷ []) ≡ Ok alone
unfolding decoded batch_at batch_from take_batch process_at process_from take_process text_at fields_at fields_in field_at string_at size_at list_of list_at
    items_at process none alone
no_spans = rw a_is_text refl

-- the element type of an empty list isn't checked
no_spans_of_another_type : decoded (process ++ none 3 ++ 0 ∷ []) ≡ Ok alone
unfolding decoded batch_at batch_from take_batch process_at process_from take_process text_at fields_at fields_in field_at string_at size_at list_of list_at
    items_at process none alone
no_spans_of_another_type = rw a_is_text refl

without_its_stop : decoded (process ++ none 12) ≡ Err (Wire Truncated)
unfolding decoded batch_at batch_from take_batch process_at process_from take_process text_at fields_at fields_in field_at string_at size_at list_of list_at
    items_at process none
without_its_stop = rw a_is_text refl

one_byte_more : decoded (process ++ none 12 ++ 0 ∷ 0 ∷ []) ≡ Err Trailing
unfolding decoded batch_at batch_from take_batch process_at process_from take_process text_at fields_at fields_in field_at string_at size_at list_of list_at
    items_at process none
one_byte_more = rw a_is_text refl

claimed_size : decoded (process ++ spans 12 127 255) ≡ Err (Wire Truncated)
unfolding decoded batch_at batch_from take_batch process_at process_from take_process text_at fields_at fields_in field_at string_at size_at list_of list_at
    items_at span_at process spans
claimed_size = rw a_is_text refl

-- the length is checked before the type
negative_size : decoded (process ++ spans 16 255 255) ≡ Err (Wire BadLength)
unfolding decoded batch_at batch_from take_batch process_at process_from take_process text_at fields_at fields_in field_at string_at size_at list_of list_at
    items_at process spans
negative_size = rw a_is_text refl

nothing : decoded [] ≡ Err (Wire Truncated)
unfolding decoded batch_at fields_at fields_in
nothing = refl

-- a missing field is reported before trailing bytes
stop_alone : decoded (0 ∷ 0 ∷ []) ≡ Err (Missing structs.Batch 1)
unfolding decoded batch_at batch_from fields_at fields_in field_at
stop_alone = refl

-- all bytes of a head are read before it is checked
half_a_head : decoded (255 ∷ 0 ∷ []) ≡ Err (Wire Truncated)
unfolding decoded batch_at fields_at fields_in field_at
half_a_head = refl

strange_type : decoded (255 ∷ 0 ∷ 1 ∷ []) ≡ Err (Wire BadType)
unfolding decoded batch_at fields_at fields_in field_at
strange_type = refl
