use Rattle.clap.specs.Words.{found_of}
use Rattle.commands.proofs.Options.{host_named, host_there, no_host}
use Rattle.commands.proofs.serve_arguments.asked_host.Goals as goal

pub returns-in_err-get_str-clause-found : goal.returns-in_err-get_str-clause-found
returns-in_err-get_str-clause-found c host has = absurd (no_host (found_of c.args.matches.now) host c.in_err-get_str.ensures has)

pub returns-clause-named : goal.returns-clause-named
returns-clause-named c = host_named (found_of c.args.matches.now) _ c.parse.result c.in_ok-get_str.ensures c.parse.ensures.named

pub returns-clause-found : goal.returns-clause-found
returns-clause-found c host has = c.parse.ensures.found host (host_there (found_of c.args.matches.now) _ host c.in_ok-get_str.ensures has)
