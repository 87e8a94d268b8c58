-- What is hashed of a batch: its number and its process, each part delimited by itself.
use Rattle.std.specs.Prelude.{ℕ, ℤ, pos, List, [], ◌∷◌, ◌++◌, length, flat_map, fold}
use Rattle.std.specs.Hash as fed
use Rattle.std.specs.Hash.DefaultHasher as sip
use Rattle.std.specs.Option.{unwrap_or}
use Rattle.jaeger_model.specs.declared.batch.Batch.{Batch}
use Rattle.jaeger_model.specs.declared.batch.Process.{Process}
use Rattle.jaeger_model.specs.declared.tag.Tag.{Tag}
use Rattle.jaeger_model.specs.declared.tag.Value.{Value}
use Rattle.jaeger_model.specs.declared.tag.Value.TheVariants as holds
use Rattle.sent_batches.specs.declared.keys.BatchKeys.{BatchKeys}

-- the keys, with which each hash begins
abbrev pub keys_fed : BatchKeys → List (List ℕ)
keys_fed keys = fed.u64 keys.first ++ fed.u64 keys.second

-- the number of bytes, then the bytes
abbrev pub bytes_fed : List ℕ → List (List ℕ)
bytes_fed bs = fed.usize (length bs) ++ bs ∷ []

-- a byte for the kind of value, then the value
abbrev pub value_fed : Value → List (List ℕ)
value_fed (holds.Text t) = fed.u8 0 ++ fed.str t
value_fed (holds.Double bs) = fed.u8 1 ++ bytes_fed bs
value_fed (holds.Bool b) = fed.u8 2 ++ fed.bool b
value_fed (holds.Long n) = fed.u8 3 ++ fed.i64 n
value_fed (holds.Bytes bs) = fed.u8 4 ++ bytes_fed bs

abbrev pub tag_fed : Tag → List (List ℕ)
tag_fed t = fed.str t.key ++ value_fed t.value

abbrev pub process_fed : Process → List (List ℕ)
process_fed p = fed.str p.service ++ flat_map tag_fed p.tags

-- the hash of a number and a process under the keys
unfoldable pub hash_of : BatchKeys → ℤ → Process → ℕ
hash_of keys number process = sip.finish (fold sip.write (fold sip.write sip.initial (keys_fed keys)) (fed.i64 number ++ process_fed process))

-- the hash of a batch, with the number 0 if it has none
abbrev pub batch_hash : BatchKeys → Batch → ℕ
batch_hash keys b = hash_of keys (unwrap_or b.seq_no (pos 0)) b.process
