use Rattle.std.proofs.Common.{◌≡◌, ◌||◌, true, false, sym, ap, ◌∙◌}
use Rattle.httparse.specs.Grammar.{trim_ows}
use Rattle.http_requests.specs.Fields.{has_token, same_name}
use Rattle.http_requests.proofs.Cuts.{more_items}
use Rattle.http_requests.proofs.fields.has_token.Goals as goal

pub returns-then-is_named : goal.returns-then-is_named
returns-then-is_named c =
    let is = more_items c.args.token.now c.loop-item.rest.now c.in-Some.item.now c.in-Some.more.now (sym c.in-Some.ensures) in
    let yes : same_name (trim_ows c.in-Some.item.now) c.args.token.now ≡ true =
    ap (λ t. same_name t c.args.token.now) (sym c.trimmed.ensures) ∙ sym c.is_named.ensures ∙ c.if-is_named.true in
    sym (sym c.loop-item.invariant ∙ is ∙ ap (λ b. b || has_token c.args.token.now c.in-Some.more.now) yes)

pub loop-item-preserved : goal.loop-item-preserved
loop-item-preserved c =
    let is = more_items c.args.token.now c.loop-item.rest.now c.in-Some.item.now c.in-Some.more.now (sym c.in-Some.ensures) in
    let no : same_name (trim_ows c.in-Some.item.now) c.args.token.now ≡ false =
    ap (λ t. same_name t c.args.token.now) (sym c.trimmed.ensures) ∙ sym c.is_named.ensures ∙ c.if-is_named.false in
    sym (ap (λ b. b || has_token c.args.token.now c.in-Some.more.now) no) ∙ sym is ∙ c.loop-item.invariant
