use Rattle.std.proofs.Common.{rules, ◌≡◌, sym, subst}
use Rattle.std.specs.Str.{IsUtf8}
use Rattle.percent_encoding.specs.Percent.{percent_decode}
use Rattle.percent_encoding.specs.Iter.{decoded_bytes}
use Rattle.query_http.proofs.PartTexts.{text_part_is, text_part_bad}
use Rattle.query_http.proofs.query.service_part.Goals as goal

pub returns-in_ok-into_owned-in-Ok : goal.returns-in_ok-into_owned-in-Ok
returns-in_ok-into_owned-in-Ok c =
    let same : percent_decode c.args.part.now ≡ c.from_string.result = search rules in
    let bytes : decoded_bytes c.percent_decode.result ≡ percent_decode c.args.part.now = search rules in
    let utf8 : IsUtf8 (percent_decode c.args.part.now) = subst IsUtf8 bytes c.in-Ok.ensures.ok_only_if_utf8 in
    text_part_is c.args.part.now c.from_string.result same utf8

pub returns-in-Err-Utf8 : goal.returns-in-Err-Utf8
returns-in-Err-Utf8 c =
    let bytes : decoded_bytes c.percent_decode.result ≡ percent_decode c.args.part.now = search rules in
    text_part_bad c.args.part.now (λ u. let h = c.in-Err-Utf8.ensures.utf8 (subst IsUtf8 (sym bytes) u) in absurd cc)
