use Rattle.std.proofs.Common.{◌∙◌, refl, sym, arith}
use Rattle.find_traces.specs.RequestedPairs.{pairs_lent}
use Rattle.find_traces.proofs.RequestedPairs.{met_few, lent_length, lent_sorted}
use Rattle.find_traces.proofs.judged_process.JudgedProcess.new.Goals as goal

pub overflow_sub-missing : goal.overflow_sub-missing
overflow_sub-missing c =
    let few = met_few c.args.prepared.now c.args.process.now (pairs_lent c.in_ok-met.met.keys)
    (lent_sorted c.in_ok-met.met.keys c.len.ensures.ordered) c.in_ok-met.ensures in
    let length = c.len.ensures.len ∙ sym (lent_length c.in_ok-met.met.keys) in
    let count = c.count.ensures in
    omega arith

pub returns : goal.returns
returns c =
    let few = met_few c.args.prepared.now c.args.process.now (pairs_lent c.in_ok-met.met.keys)
    (lent_sorted c.in_ok-met.met.keys c.len.ensures.ordered) c.in_ok-met.ensures in
    let length = c.len.ensures.len ∙ sym (lent_length c.in_ok-met.met.keys) in
    let count = c.count.ensures in
    record {
      query = refl;
      pairs = record {
        rising = lent_sorted c.in_ok-met.met.keys c.len.ensures.ordered;
        requested = c.in_ok-met.ensures;
        count = omega arith;
      };
    }
