-- The index of the batches with a `seqNo` in a list of entries.
use Rattle.std.specs.Prelude.{◌≡◌, ℕ, ◌+◌, ◌<◌, ◌≤◌, ◌^◌, Bool, false, List, [], ◌∷◌, map, length, get_or, slice_get, if◌then◌else◌}
use Rattle.std.specs.Option.{is_some, option_map_or}
use Rattle.jaeger_model.specs.declared.batch.Batch.{Batch}
use Rattle.trace_model.specs.declared.entry.Entry.{Entry}
use Rattle.trace_model.specs.declared.entry.Work.{Work}
use Rattle.trace_model.specs.declared.entry.Work.TheVariants as brings
use Rattle.trace_model.specs.EntryWork.{batch_brought}
use Rattle.trace_model.specs.ResentBatches.{resends}
use Rattle.hash_tables.specs.RowPlaces.{Slots, LeadsTo}
use Rattle.sent_batches.specs.declared.keys.BatchKeys.{BatchKeys}
use Rattle.sent_batches.specs.BatchHashes.{batch_hash}

-- it brings a batch with a `seqNo`
abbrev pub has_seq_no : Work → Bool
has_seq_no (brings.Batch b) = is_some b.seq_no
has_seq_no (brings.TraceLimit n) = false

-- for each entry with a batch with a `seqNo`, the number of entries before it, counted from n at the first of all
abbrev pub numbered_from : ℕ → List Entry → List ℕ
numbered_from n [] = []
numbered_from n (e ∷ h) = if has_seq_no e.work then n ∷ numbered_from (n + 1) h else numbered_from (n + 1) h

-- the hash of the entry's batch; 0 of a limit
abbrev pub work_hash : BatchKeys → Work → ℕ
work_hash keys w = option_map_or (batch_hash keys) (batch_brought w) 0

-- the hash of the entry that has n entries before it
abbrev pub hash_after : BatchKeys → List Entry → ℕ → ℕ
hash_after keys h before = option_map_or (λ (e : Entry). work_hash keys e.work) (slice_get h before) 0

-- the batch was sent as that of the entry that has n entries before it
abbrev pub is_sent_after : Batch → List Entry → ℕ → Bool
is_sent_after b h before = option_map_or (λ (e : Entry). resends (brings.Batch b) e.work) (slice_get h before) false

-- the value of an index: for each entry with a `seqNo` the number of entries before it and the hash; the places that
-- lead to them; and the number of entries that there is room for in all
pub record Sent : Type 0 where
  pub keys : BatchKeys
  pub befores : List ℕ
  pub hashes : List ℕ
  pub slots : Slots
  pub room : ℕ

-- each has only entries of the list before it
pub record AreAfterEntries (h : List Entry) (befores : List ℕ) : Type 0 where
  pub within : (row : ℕ) → row < length befores → get_or befores row 0 < length h

-- the index is that of these entries
pub record IsSentKept (h : List Entry) (sent : Sent) : Type 0 where
  pub fits : sent.room < 2 ^ 32
  pub within : length h ≤ sent.room
  pub befores : sent.befores ≡ numbered_from 0 h
  pub hashes : sent.hashes ≡ map (hash_after sent.keys h) sent.befores
  pub leads : LeadsTo sent.hashes sent.slots
