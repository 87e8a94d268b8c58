-- What a call that reads lines of an input leaves.
use Rattle.std.specs.Prelude.{◌≡◌, ℕ, ◌+◌, ◌*◌, ◌≤◌, ◌<◌, Bool, true, false, List, [], ◌∷◌, ◌++◌, length, Option}
use Rattle.std.specs.Io.KnownBytes.{Consumes, IsAtEnd}
use Rattle.session_devices.specs.Traffic.{Traffic}
use Rattle.text_lines.specs.Lines.{lines_of, HasNoFeed}
use Rattle.text_lines.specs.RunErrors.{IsWhy}
use Rattle.text_lines.specs.declared.line_buffer.TheConstants.{READ_BYTES}
use Rattle.text_lines.specs.declared.run_error.RunError.{RunError}

-- the bytes that were read and not yet returned, the number of reads left, and whether a read found the end
pub record Feed : Type 0 where
  pub waiting : List ℕ
  pub reads_left : ℕ
  pub ended : Bool

-- what may still follow the waiting bytes
abbrev pub MayCome : Feed → List ℕ → Type 0
MayCome f more = f.ended ≡ true → more ≡ []

-- an upper bound of the bytes that may still be returned
abbrev pub most_bytes_left : Feed → ℕ
most_bytes_left f = length f.waiting + READ_BYTES * f.reads_left

-- if a read found the end, the input is at its end
abbrev pub KnowsEnd : Option (List ℕ) → Feed → Type 0
KnowsEnd remaining f = f.ended ≡ true → IsAtEnd remaining

-- an input, by the bytes that it has left if they are known, and the feed that reads it, at one moment
pub record FeedMoment : Type 0 where
  pub input : Option (List ℕ)
  pub feed : Feed

abbrev pub feed_moment : Option (List ℕ) → Feed → FeedMoment
feed_moment input feed = record { input = input; feed = feed }

-- one read while no bytes were waiting
pub record Fills (before after : FeedMoment) : Type 0 where
  pub read : Consumes before.input after.input after.feed.waiting
  pub end : KnowsEnd after.input after.feed
  pub empty : after.feed.ended ≡ true → after.feed.waiting ≡ []
  pub fewer : after.feed.reads_left < before.feed.reads_left
  pub few : length after.feed.waiting ≤ READ_BYTES
  pub least : after.feed.ended ≡ false → before.feed.reads_left ≤ length after.feed.waiting + after.feed.reads_left

-- some bytes were read, and then the line was removed from those that were there
pub record TakesLine (before after : FeedMoment) (line : List ℕ) : Type 0 where
  pub taken : List ℕ
  pub read : Consumes before.input after.input taken
  pub end : KnowsEnd before.input before.feed → KnowsEnd after.input after.feed
  pub first : (more : List ℕ) → MayCome after.feed more
      → lines_of (before.feed.waiting ++ taken ++ more) ≡ line ∷ lines_of (after.feed.waiting ++ more)
  pub stays : before.feed.ended ≡ true → (taken ≡ []) × (after.feed.ended ≡ true)
  pub shorter : most_bytes_left after.feed < most_bytes_left before.feed
  pub least : after.feed.ended ≡ false → before.feed.reads_left ≤ length taken + after.feed.reads_left

-- there is no further line
pub record TakesNone (before after : FeedMoment) : Type 0 where
  pub taken : List ℕ
  pub read : Consumes before.input after.input taken
  pub end : KnowsEnd before.input before.feed → IsAtEnd after.input
  pub nothing : before.feed.waiting ++ taken ≡ []

-- the bytes before the waiting ones were moved into the line, which has no line feed
pub record Gathers (before after : FeedMoment) (line : List ℕ) : Type 0 where
  pub taken : List ℕ
  pub read : Consumes before.input after.input taken
  pub joined : before.feed.waiting ++ taken ≡ line ++ after.feed.waiting
  pub plain : HasNoFeed line
  pub end : KnowsEnd before.input before.feed → KnowsEnd after.input after.feed
  pub stays : before.feed.ended ≡ true → (taken ≡ []) × (after.feed.ended ≡ true)
  pub shorter : length line + most_bytes_left after.feed ≤ most_bytes_left before.feed
  pub least : after.feed.ended ≡ false → before.feed.reads_left ≤ length taken + after.feed.reads_left

-- some bytes were read, and no further line can be read; the limit is reached if no read is left
pub record StopsReading (old : Feed) (input : Traffic) (out_failed : Bool) (error : RunError) : Type 0 where
  pub taken : List ℕ
  pub read : Consumes input.before input.after taken
  pub stays : old.ended ≡ true → taken ≡ []
  pub why : IsWhy error input.failed out_failed ((old.ended ≡ false) × (old.reads_left ≤ length taken))
