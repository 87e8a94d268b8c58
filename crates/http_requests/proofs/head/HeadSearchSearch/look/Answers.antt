use Rattle.std.proofs.Common.{length, arith}
use Rattle.http_requests.proofs.Prefixes.{never_with_many, whole}
use Rattle.http_requests.proofs.HeadLines.{awaits_head}
use Rattle.http_requests.proofs.NoHead.{never_found}
use Rattle.http_requests.proofs.head.HeadSearchSearch.look.Goals as goal

pub returns-in-Complete : goal.returns-in-Complete
returns-in-Complete c =
    let parsed = c.parse_request-parsed.ensures in
    let is = c.in-Complete.ensures in
    never_with_many c.args.bytes.now c.prefix_of.result.now c.parse_request-parsed.new.headers c.in-Complete.spans c.prefix_of.ensures
    c.if-spans-gt-MAX_FIELDS.true (rw is at parsed.complete) (rw is at parsed.within)

pub returns-in-Complete-2 : goal.returns-in-Complete-2
returns-in-Complete-2 c =
    let parsed = c.parse_request-parsed.ensures in
    let is = c.in-Complete.ensures in
    whole c.args.bytes.now c.prefix_of.result.now c.parse_request-parsed.new.headers c.in-Complete.spans c.prefix_of.ensures c.if-spans-gt-MAX_FIELDS.false
    (rw is at parsed.complete) (rw is at parsed.within)

pub returns-in-Partial : goal.returns-in-Partial
returns-in-Partial c =
    let parsed = c.parse_request-parsed.ensures in
    let is = c.in-Partial.ensures in
    awaits_head c.args.bytes.now c.prefix_of.result.now c.prefix_of.ensures is.1 (rw is.0 at parsed.partial) (rw is.0 at parsed.unfinished)

pub returns-in-Invalid : goal.returns-in-Invalid
returns-in-Invalid c =
    let parsed = c.parse_request-parsed.ensures in
    never_found c.args.bytes.now c.prefix_of.result.now (length c.args.self.now.headers) _ c.prefix_of.ensures (omega arith)
    parsed.partial parsed.no_room c.in-Invalid.ensures
