-- What is written to a page.
use Rattle.std.specs.Prelude.{◌≡◌, ◌+◌, ◌-◌, ◌<◌, ◌≤◌, ◌^◌, ℕ, true, false, List, ◌++◌, length}
use Rattle.std.specs.Str.{IsUtf8}
use Rattle.json_page.specs.declared.page.Page.{Page}

-- the bytes are appended, unless the page is full; it becomes full only if there was no room for them,
-- and from then on they are counted
pub record Adds (old new : Page) (bytes : List ℕ) : Type 0 where
  pub before : new.full ≡ false → old.full ≡ false
  pub behind : new.full ≡ false → new.bytes.items ≡ old.bytes.items ++ bytes
  pub room : old.bytes.room ≤ new.bytes.room
  pub lacks : old.full ≡ false → new.full ≡ true → old.bytes.room - length old.bytes.items < length bytes
  pub counts : old.full ≡ true → new.counted + 1 < 2 ^ 64 → new.counted ≡ old.counted + length bytes

-- and they are text
pub record Puts (old new : Page) (bytes : List ℕ) : Type 0 where
  pub adds : Adds old new bytes
  pub utf8 : IsUtf8 bytes
