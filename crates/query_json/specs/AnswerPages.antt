-- The texts of an answer's parts.
use Rattle.std.specs.Prelude.{◌≡◌, ◌+◌, ◌≤◌, ◌⊎◌, ℕ, false, List, [], length, unwrap_or}
use Rattle.query_json.specs.declared.paging.PagedAnswer.{PagedAnswer}
use Rattle.query_json.specs.declared.paging.TheConstants.{PART_BYTES}
use Rattle.json_page.specs.declared.page.Page.{Page}
use Rattle.query_json.specs.Pieces.{AreWritable, runs_of}
use Rattle.query_json.specs.Runs.{AllFit, left_at, runs_text}

-- the current part
abbrev pub part_of : PagedAnswer → List ℕ
part_of p = p.page.bytes.items

-- the pieces after it
abbrev pub left_of : PagedAnswer → List (List (List ℕ))
left_of p = left_at (runs_of p.items) p.next.run p.next.piece

-- the text after it
abbrev pub rest_of : PagedAnswer → List ℕ
rest_of p = runs_text (left_of p)

-- the page of the parts after it
abbrev pub next_page : PagedAnswer → Page
next_page p = unwrap_or p.later p.page

-- that page has room for a part of pieces that are no larger
pub record HasRoom (p : PagedAnswer) : Type 0 where
  pub most : ℕ
  pub fit : AllFit most (left_of p)
  pub room : PART_BYTES + most ≤ (next_page p).bytes.room

-- the following text can be made, and there is room for each part of it
pub record IsReady (p : PagedAnswer) : Type 0 where
  pub open_page : (next_page p).full ≡ false
  pub writable : AreWritable p.items
  pub fits : (left_of p ≡ []) ⊎ HasRoom p
  pub rest_len : p.rest_len ≡ length (rest_of p)
