-- The state of a reader, by the counts that are stored of it.
use Rattle.std.specs.Prelude.{◌≡◌, ℕ, ◌+◌, ◌≤◌, ◌⊎◌, Bool, false, List, option_map, IfSome, length, take, nat_lt}
use Rattle.std.specs.Option.{option_map_or}
use Rattle.trace_model.specs.declared.entry.Entry.{Entry}
use Rattle.schedule_core.specs.Machine.{Reader, Visit}
use Rattle.schedule_core.specs.declared.readers.Inside.{Inside}
use Rattle.schedule_core.specs.declared.readers.ReaderState.{ReaderState}

-- inside since before the last of n publishes
abbrev pub is_held : ℕ → ReaderState → Bool
is_held publishes p = option_map_or (λ (v : Inside). nat_lt v.publishes publishes) p.inside false

-- the visit of that reader
abbrev pub visit_at : List Entry → Inside → Visit
visit_at history v = record { list = take v.front history; publishes = v.publishes }

abbrev pub reader_at : List Entry → ReaderState → Reader
reader_at history p = record { seen = take p.seen history; inside = option_map (visit_at history) p.inside }

-- it entered the history, or what the history was before the last publish
abbrev pub Visits : List Entry → List Entry → ℕ → Inside → Type 0
Visits before history publishes v = (v.front ≤ length history)
    × (((v.publishes ≡ publishes) × (take v.front history ≡ history)) ⊎ ((v.publishes + 1 ≡ publishes) × (take v.front history ≡ before)))

abbrev pub Stands : List Entry → List Entry → ℕ → ReaderState → Type 0
Stands before history publishes p = (p.seen ≤ length history) × IfSome p.inside (Visits before history publishes)
