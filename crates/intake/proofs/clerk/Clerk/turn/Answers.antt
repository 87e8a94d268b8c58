use Rattle.std.proofs.Common.{rules}
use Rattle.intake.specs.Turns.{account_of}
use Rattle.intake.proofs.ClerkAccounts.{accounted-on}
use Rattle.intake.proofs.clerk.Clerk.turn.Goals as goal

pub invariant_of-self-2 : goal.invariant_of-self-2
invariant_of-self-2 g c =
    search (
      rules,
      accounted-on c.self.inside.inbox.taken c.pop.new.self.taken c.self.inside.accounts c.add.new.self c.in-Some.job
          (account_of c.in-Some.job c.place_or_refusal.result),
    )
