use Rattle.std.proofs.Common.{rules, ◌≡◌, ◌<◌, ◌-◌, ◌∷◌, sym, ap, ◌∙◌, arith, refl, get_or}
use Rattle.service_index.specs.PlaceChains.{along}
use Rattle.service_index.proofs.PlaceChains.{along_step}
use Rattle.service_index.proofs.service_places.along.PlacesIterator.next.Goals as goal

pub returns-clause-steps : goal.returns-clause-steps
returns-clause-steps c =
    let s = c.self.inside in
    let pos : 0 < s.at = omega (arith, c.if-self-eq0.false) in
    let next = get_or s.earlier.now (s.at - 1) 0 in
    sym c.self.view_is ∙ along_step s.earlier.now s.at next c.self.invariant pos refl ∙ ap (λ p. p ∷ along next s.earlier.now next) (sym c.from.ensures)

pub returns-clause-goes : goal.returns-clause-goes
returns-clause-goes c =
    let s = c.self.inside in
    let pos : 0 < s.at = omega (arith, c.if-self-eq0.false) in
    let next = get_or s.earlier.now (s.at - 1) 0 in
    let step : c.args.self.now ≡ c.from.result ∷ along next s.earlier.now next =
    sym c.self.view_is ∙ along_step s.earlier.now s.at next c.self.invariant pos refl ∙ ap (λ p. p ∷ along next s.earlier.now next) (sym c.from.ensures) in
    search rules
