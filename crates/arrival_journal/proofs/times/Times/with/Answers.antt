use Rattle.std.proofs.Common.{◌≡◌, w64, rules, to_z, of_z}
use Rattle.std.specs.Int.{int_min, int_max}
use Rattle.arrival_journal.proofs.times.Times.with.Goals as goal

pub returns : goal.returns
returns c =
    let s = c.args.self in
    let p = c.args.span.now in
    let a : to_z w64 (of_z w64 c.min.result) ≡ int_min s.start_min p.start = search rules in
    let b : to_z w64 (of_z w64 c.max.result) ≡ int_max s.start_max p.start = search rules in
    let d : to_z w64 (of_z w64 c.min-2.result) ≡ int_min s.duration_min p.duration = search rules in
    let e : to_z w64 (of_z w64 c.max-2.result) ≡ int_max s.duration_max p.duration = search rules in
    λ i. record { start_min = a i; start_max = b i; duration_min = d i; duration_max = e i }
