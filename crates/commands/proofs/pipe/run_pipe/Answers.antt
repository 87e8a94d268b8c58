use Rattle.std.proofs.Common.{inl, inr, refl, [], rules}
use Rattle.std.proofs.KnownBytes.{Consumes-nil, Appends-nil}
use Rattle.http_requests.specs.AwaitedReads.{source_of}
use Rattle.http_session.specs.Sessions.{none_yet}
use Rattle.http_session.proofs.SessionTurns.{nothing_was_due}
use Rattle.http_session.specs.declared.whole_session.SessionErrorKind.TheVariants.{Memory}
use Rattle.commands.proofs.ReadLimits.{session_limit}
use Rattle.commands.proofs.pipe.run_pipe.Goals as goal

pub returns-in_default-clause-pipes : goal.returns-in_default-clause-pipes
returns-in_default-clause-pipes g c =
    inr (record {
      error = record { answered = 0; written = 0; cause = Memory };
      status_is = refl;
      last = record { limits = c.args.limits; entries = [] };
      fails = record {
        taken = [];
        opens = [];
        next = none_yet;
        rest = [];
        read = Consumes-nil (g.R.Input.remaining c.args.input.now);
        split = refl;
        each = search rules;
        next_is = nothing_was_due;
        run = refl;
        within = λ e. absurd (cc e);
        written = Appends-nil (g.W.Output.contents c.args.output.now);
        count = refl;
        made = 0;
        cause = c.requires;
        unwritten = λ e. refl;
        spared = λ e. absurd (cc e);
      };
      exact = λ _. (refl, refl);
    })

pub returns-in-Ok-pipe-clause-pipes : goal.returns-in-Ok-pipe-clause-pipes
returns-in-Ok-pipe-clause-pipes g c =
    let both = rw (c.new-store.ensures, c.in-Ok.ensures) at c.in-Ok-pipe.ensures.ended in
    let works = c.in-Ok-pipe.ensures.works in
    inl (
      refl,
      record {
        answered = _;
        reason = _;
        last = _;
        ends = both.0.0;
        exact = both.1;
        input_works = works.0;
        output_works = works.1;
      },
    )

pub returns-in-Err-clause-pipes : goal.returns-in-Err-clause-pipes
returns-in-Err-clause-pipes g c =
    let both = rw (c.new-store.ensures, c.in-Ok.ensures) at c.in-Err.ensures.error in
    inr (record { error = _; status_is = c.status_of.ensures; last = _; fails = both.0.0; exact = both.1 })

pub returns-in_default-clause-limit : goal.returns-in_default-clause-limit
returns-in_default-clause-limit g c = λ lost. absurd cc

pub returns-in-Ok-pipe-clause-limit : goal.returns-in-Ok-pipe-clause-limit
returns-in-Ok-pipe-clause-limit g c = λ lost. absurd cc

pub returns-in-Err-clause-limit : goal.returns-in-Err-clause-limit
returns-in-Err-clause-limit g c =
    let failed = c.in-Err.ensures.error in
    let source = source_of g.R.Input.remaining g.R.Input.gives in
    session_limit source _ _ _ _ _ _ _ _ _ failed.0.0.cause failed.0.1 c.status_of.ensures
