use Rattle.std.proofs.Common.{◌≡◌}
use Rattle.intake.specs.Books.{run_state, Ran}
use Rattle.intake.proofs.clerk.Clerk.run.Given as goal

abbrev pub invariant-loop : goal.invariant-loop
invariant-loop g l = Ran g.N.StoreName.limits (run_state l.fn.self.taken l.fn.self.accounts l.fn.keeper)
    (run_state l.clerk.taken l.clerk.accounts l.keeper)
    × (l.clerk.desk ≡ l.fn.self.desk) × (l.clerk.ended ≡ l.fn.self.ended)
