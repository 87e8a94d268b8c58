-- The lines about a store that are printed for the operator.
use Rattle.std.specs.Prelude.{ℕ, ◌++◌, ◌*◌, List, codes, nat_eq, nat_le, if◌then◌else◌}
use Rattle.std.specs.Fmt.{decimal}
use Rattle.trace_model.specs.declared.refusal.Refusal.{Refusal}
use Rattle.trace_model.specs.RefusalTexts.{refusal_text}
use Rattle.server_notices.specs.declared.lines.LimitUnit.{LimitUnit}
use Rattle.server_notices.specs.declared.lines.LimitUnit.TheVariants.{Batches, Spans}

-- the noun for a count: the singular for one
abbrev pub noun : ℕ → List ℕ → List ℕ → List ℕ
noun count singular plural = if nat_eq count 1 then singular else plural

-- what a limit counts, which is the name of its option
abbrev pub unit_name : LimitUnit → List ℕ
unit_name Batches = codes "batches"
unit_name Spans = codes "spans"

-- its noun for a count
abbrev pub unit_noun : LimitUnit → ℕ → List ℕ
unit_noun Batches count = noun count (codes "batch") (codes "batches")
unit_noun Spans count = noun count (codes "span") (codes "spans")

-- the greatest of 90, 75 and 50 percent that is reached; 0 below
abbrev pub level_of : ℕ → ℕ → ℕ
level_of held most =
    if nat_le (90 * most) (100 * held) then 90
    else if nat_le (75 * most) (100 * held) then 75
    else if nat_le (50 * most) (100 * held) then 50
    else 0

-- 400 of 1000 batches
abbrev pub held_text : ℕ → ℕ → LimitUnit → List ℕ
held_text held most unit =
    decimal held ++ codes " of " ++ decimal most ++ codes " " ++ unit_noun unit most

abbrev pub fullness_line : LimitUnit → ℕ → ℕ → ℕ → List ℕ
fullness_line unit level held most =
    codes "at least " ++ decimal level ++ codes "% full: " ++ held_text held most unit ++ codes " (--" ++ unit_name unit ++ codes ")"

-- what to do once a limit is reached
abbrev pub advice : LimitUnit → List ℕ
advice Batches = codes ": what doesn't fit is answered 503; restart with a larger --batches"
advice Spans = codes ": what doesn't fit is answered 503; restart with a larger --spans"

abbrev pub too_large_line : ℕ → ℕ → List ℕ
too_large_line spans most_spans =
    codes "a batch of " ++ decimal spans ++ codes " spans never fits: --spans " ++ decimal most_spans

abbrev pub failure_line : Refusal → ℕ → List ℕ
failure_line refusal failures =
    codes "answered 500 for " ++ refusal_text refusal ++ codes "; requests that were answered 500 so far: " ++ decimal failures
