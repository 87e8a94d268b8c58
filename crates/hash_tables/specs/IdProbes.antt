-- How ids are found in a table.
use Rattle.std.specs.Prelude.{ℕ, ◌^◌, ◌<◌, ◌≤◌, List, ◌++◌, map, length, fold}
use Rattle.std.specs.Hash as fed
use Rattle.std.specs.Hash.DefaultHasher as sip
use Rattle.std.specs.RandomState.{initial_hasher}
use Rattle.std.specs.declared.random_state.RandomState.{RandomState}
use Rattle.jaeger_model.specs.declared.ids.TraceId.{TraceId}
use Rattle.hash_tables.specs.RowPlaces.{Places, LeadsTo, AreOnce}
use Rattle.hash_tables.specs.IdRows.{no_id}

-- the hash of an id under the keys
unfoldable pub hash_of : RandomState → TraceId → ℕ
hash_of keys id = sip.finish (fold sip.write (initial_hasher keys) (fed.u64 id.high ++ fed.u64 id.low))

abbrev pub hashes_of : RandomState → List TraceId → List ℕ
hashes_of keys ids = map (hash_of keys) ids

-- no id has two rows, the places lead to the rows of the ids, and the capacity of the ids is enough for the room
pub record IsHoused (keys : RandomState) (places : Places) (most : ℕ) (ids : List TraceId) : Type 0 where
  pub fits : places.room < 2 ^ 32
  pub ids_fit : places.room ≤ most
  pub within : length ids ≤ places.room
  pub once : AreOnce no_id ids
  pub leads : LeadsTo (hashes_of keys ids) places.slots
