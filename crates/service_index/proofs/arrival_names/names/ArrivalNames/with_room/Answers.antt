use Rattle.std.proofs.Common.{◌≡◌, ℕ, List, [], map, length, ap}
use Rattle.jaeger_model.specs.Kinds.{kind_text}
use Rattle.service_index.specs.KeptNames.{names_of_arrivals}
use Rattle.service_index.proofs.RowsOfOperations.{no_rows}
use Rattle.service_index.proofs.arrival_names.names.ArrivalNames.with_room.Goals as goal

pub returns-clause-kept : goal.returns-clause-kept
returns-clause-kept c =
    let empty : length c.in_ok-operation_rows.operation_rows.items ≡ 0 = ap (λ (x : List ℕ). length x) c.in_ok-operation_rows.ensures.items in
    record {
      numbers = c.in_ok-numbers.ensures.numbers;
      kinds = ap (map kind_text) c.in_ok-numbers.ensures.kinds;
      indexed = c.in_ok-index.ensures.indexed (names_of_arrivals []);
      listed = c.in_ok-index.ensures.empty (names_of_arrivals []);
      used = c.in_ok-index.ensures.used;
      rows = no_rows (names_of_arrivals []) c.in_ok-index.index.operations.numbers c.in_ok-operation_rows.operation_rows.items empty;
      all_rows = empty;
    }
