-- The spans of entries by their arrival numbers, which count from 0.
use Rattle.std.specs.Prelude.{◌≡◌, ℕ, ◌-◌, ◌<◌, ◌≤◌, List, length, get_or, take}
use Rattle.jaeger_model.specs.declared.placed.Placed.{Placed}
use Rattle.trace_model.specs.declared.entry.Entry.{Entry}
use Rattle.jaeger_model.specs.declared.kind.Kind.{Kind}
use Rattle.trace_model.specs.EntryWork.{spans_brought, placed_brought}
use Rattle.trace_model.specs.Histories.{arrivals}

-- the value of the numbers: for each arrival its entry, for each entry the number of its first span, for each
-- arrival its kind, and the number of both that there is room for
pub record Numbered : Type 0 where
  pub entry_of : List ℕ
  pub firsts : List ℕ
  pub kinds : List Kind
  pub batches : ℕ
  pub spans : ℕ

-- the span with this number is in the entry that has `before` entries before it, whose first span has the number
-- `first`
pub record IsAt (h : List Entry) (before first n : ℕ) : Type 0 where
  pub entry : before < length h
  pub from : first ≤ n
  pub within : (e : Entry) → e ≡ get_or h before e → n - first < length (spans_brought e.work)
  pub is : (e : Entry) → e ≡ get_or h before e → (d : Placed) → get_or (arrivals h) n d ≡ get_or (placed_brought e.work) (n - first) d

-- the numbers are those of the arrivals of these entries
pub record AreOf (h : List Entry) (entry_of firsts : List ℕ) : Type 0 where
  pub as_many : length entry_of ≡ length (arrivals h)
  pub starts : length firsts ≡ length h
  pub first : (k : ℕ) → k < length h → get_or firsts k 0 ≡ length (arrivals (take k h))
  pub at : (n : ℕ) → n < length entry_of → IsAt h (get_or entry_of n 0) (get_or firsts (get_or entry_of n 0) 0) n
