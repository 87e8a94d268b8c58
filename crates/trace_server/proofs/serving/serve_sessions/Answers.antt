use Rattle.std.proofs.Common.{rules, ◌≡◌, map, List, IfOk, ap, sym, subst}
use Rattle.std.specs.List.{AllZip}
use Rattle.std.proofs.lemmas.Result.{IfOk-weaker}
use Rattle.std.proofs.lemmas.Option.{slice_get_read}
use Rattle.intake.specs.Seats.{SeatValue}
use Rattle.intake.specs.LiveStores.{SeatGoesOn}
use Rattle.trace_server.proofs.serving.serve_sessions.Goals as goal

pub beside-books-requires-clause-keeps : goal.beside-books-requires-clause-keeps
beside-books-requires-clause-keeps g c κs within = λ given post.
    let same = ap (λ l. map (λ p. p.live.seat) l.items) c.of.ensures in
    IfOk-weaker given _ _ (λ v each. subst (λ (ss : List SeatValue). AllZip SeatGoesOn ss (map (λ w. w.live.seat) v.items)) (sym same) each) post

pub returns-clause-seats : goal.returns-clause-seats
returns-clause-seats g c =
    let same = ap (λ l. map (λ p. p.live.seat) l.items) c.of.ensures in
    let kept : IfOk c.unwrap_or.result (λ v. AllZip SeatGoesOn (map (λ p. p.live.seat) c.of.result.value.items) (map (λ w. w.live.seat) v.items)) =
    search rules in
    IfOk-weaker c.unwrap_or.result _ _ (λ v each.
    subst (λ (ss : List SeatValue). AllZip SeatGoesOn ss (map (λ w. w.live.seat) v.items)) same each) kept
