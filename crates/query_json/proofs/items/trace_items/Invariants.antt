use Rattle.std.proofs.Common.{◌≡◌, map}
use Rattle.std.specs.Prelude.{All}
use Rattle.query_json.specs.LentTraces.{IsWritable}
use Rattle.query_json.specs.TracePieces.{item_spans}
use Rattle.query_json.proofs.items.trace_items.Given as goal

abbrev pub invariant-loop-trace : goal.invariant-loop-trace
invariant-loop-trace l = record {
  spans : map item_spans l.items.items ≡ l.yielded;
  writable : All IsWritable l.items.items;
}
