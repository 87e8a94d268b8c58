use Rattle.std.proofs.Common.{◌<◌, get_or, rules, Fits, w8}
use Rattle.arrival_journal.proofs.NonStringTexts.{hex_shared}
use Rattle.arrival_journal.proofs.tagging.hex_part.Goals as goal

pub returns-in-Some-clause-exact : goal.returns-in-Some-clause-exact
returns-in-Some-clause-exact c =
    let fits : Fits w8 (get_or c.args.bytes.now 0 0) = c.type_inv.bytes 0 in
    let small : get_or c.args.bytes.now 0 0 < 256 = search rules in
    hex_shared c.args.bytes.now small
