use Rattle.query_json.proofs.ProcessPlaces.{lone_numbered}
use Rattle.query_json.proofs.writing.trace.TraceItem.new.Goals as goal

pub returns-in-Lone-clause-writable : goal.returns-in-Lone-clause-writable
returns-in-Lone-clause-writable c = lone_numbered c.lone.result c.lone.ensures.one
