use Rattle.std.proofs.Common.{refl}
use Rattle.std.specs.Fmt.{digits}
use Rattle.std.specs.Net.Text.{hex, hex_groups_text, ipv6_text}
use Rattle.serve_options.proofs.host.Host.address.Goals as goal

pub returns-in-LoopbackIpv4 : goal.returns-in-LoopbackIpv4
unfolding digits
returns-in-LoopbackIpv4 c = rw c.in-LoopbackIpv4.is refl

pub returns-in-AnyIpv4 : goal.returns-in-AnyIpv4
unfolding digits
returns-in-AnyIpv4 c = rw c.in-AnyIpv4.is refl

pub returns-in-LoopbackIpv6 : goal.returns-in-LoopbackIpv6
unfolding hex hex_groups_text ipv6_text
returns-in-LoopbackIpv6 c = rw c.in-LoopbackIpv6.is refl

pub returns-in-AnyIpv6 : goal.returns-in-AnyIpv6
unfolding hex hex_groups_text ipv6_text
returns-in-AnyIpv6 c = rw c.in-AnyIpv6.is refl
