use Rattle.std.proofs.Common.{rules, sym}
use Rattle.std.proofs.lemmas.Bool.Decides.{nat_tests}
use Rattle.http_requests.proofs.Cuts.{cut_none, cut_some}
use Rattle.http_requests.proofs.fields.split_once.Goals as goal

pub returns-then-bytes-place : goal.returns-then-bytes-place
returns-then-bytes-place c = cut_some c.args.at c.loop-place.place c.args.bytes.now (search rules) c.loop-place.invariant (search (rules, nat_tests))

pub returns : goal.returns
returns c = sym (cut_none c.args.at c.args.bytes.now (λ k l. c.loop-place.invariant k (search rules)))
