use Rattle.std.proofs.Common.{◌≤◌, ◌^◌, sym, subst, arith}
use Rattle.query_http.proofs.Digits.{ten_small, fits_scaled}
use Rattle.query_http.proofs.number.scaled.Goals as goal

pub overflow_mul-result-2 : goal.overflow_mul-result-2
overflow_mul-result-2 c =
    let ten : c.power_of_ten-ten.result ≤ 10 ^ 9 = subst (λ x. x ≤ 10 ^ 9) (sym c.power_of_ten-ten.ensures) (ten_small _ c.requires.part).1 in
    let f = fits_scaled c.from.result c.power_of_ten-ten.result c.from-2.result c.from-3.result (omega (arith, c.from.ensures)) ten
    (omega (arith, c.from-2.ensures)) (omega (arith, c.from-3.ensures, c.requires.unit)) in
    omega (arith, f)

pub nonzero_div-result : goal.nonzero_div-result
nonzero_div-result c = omega (arith, c.power_of_ten-ten.ensures, (ten_small _ c.requires.part).0)
