use Rattle.trace_adjust.specs.Hosts.{hosts_of}
use Rattle.trace_adjust.proofs.HostNumbers.{number_read}
use Rattle.trace_adjust.proofs.clocks.ClockedTrace.hosted.Goals as goal

pub returns-clause-number : goal.returns-clause-number
returns-clause-number c =
    let t = c.args.self.now in
    let all = t.spans.now in
    number_read (hosts_of all) all t.host_numbers.now c.args.place c.index-self-place.result 0 c.requires t.hosts_numbered
