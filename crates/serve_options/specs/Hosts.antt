-- The addresses that a server may listen on, as text.
use Rattle.std.specs.Prelude.{ℕ, Bool, true, false, List, ◌++◌, codes}
use Rattle.serve_options.specs.declared.host.Host.{Host}
use Rattle.serve_options.specs.declared.host.Host.TheVariants.{LoopbackIpv4, AnyIpv4, LoopbackIpv6, AnyIpv6}

-- its text, which is that of its address
abbrev pub host_text : Host → List ℕ
host_text LoopbackIpv4 = codes "127.0.0.1"
host_text AnyIpv4 = codes "0.0.0.0"
host_text LoopbackIpv6 = codes "::1"
host_text AnyIpv6 = codes "::"

abbrev pub in_brackets : List ℕ → List ℕ
in_brackets text = codes "[" ++ text ++ codes "]"

-- its text in a URL: an IPv6 address is in brackets
abbrev pub url_host : Host → List ℕ
url_host LoopbackIpv4 = host_text LoopbackIpv4
url_host AnyIpv4 = host_text AnyIpv4
url_host LoopbackIpv6 = in_brackets (host_text LoopbackIpv6)
url_host AnyIpv6 = in_brackets (host_text AnyIpv6)

-- only this machine can reach it
abbrev pub is_loopback : Host → Bool
is_loopback LoopbackIpv4 = true
is_loopback AnyIpv4 = false
is_loopback LoopbackIpv6 = true
is_loopback AnyIpv6 = false
