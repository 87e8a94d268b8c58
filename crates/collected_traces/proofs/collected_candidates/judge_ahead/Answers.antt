use Rattle.std.proofs.Common.{◌∙◌, List, [], ◌∷◌, ◌++◌, Bool, ap, sym, subst}
use Rattle.std.specs.List.{AllZip}
use Rattle.std.proofs.lemmas.List.{take_all}
use Rattle.collected_traces.specs.declared.collected_candidates.TakenEntry.{TakenEntry}
use Rattle.collected_traces.specs.CollectedCandidates.{IsMatchFlagOf, entries_shared, process_numbered}
use Rattle.collected_traces.proofs.TracesAtSpots.{flags_more, flags_shared, numbered_process}
use Rattle.collected_traces.proofs.collected_candidates.judge_ahead.Goals as goal

pub loop-number-init : goal.loop-number-init
loop-number-init c =
    let q = c.args.prepared.now in
    record {
      flags = subst (λ (l : List Bool). AllZip (IsMatchFlagOf q) [] l) (sym c.in_ok-judged.ensures.flags) tt;
      processes = c.in_ok-judged.ensures.processes q (process_numbered (entries_shared c.args.entries.now));
    }

pub loop-number-preserved : goal.loop-number-preserved
loop-number-preserved c =
    let ts = c.args.entries.now in
    let i = c.loop-number.number in
    let t = c.index-entries-number.result in
    let le = c.loop-number-test.true in
    let is = c.index-entries-number.is in
    let b = c.in_ok-may_meet.may_meet in
    let put = c.in_ok-push.ensures.items ∙ ap (λ v. v.items ++ b ∷ []) c.in_ok-may_meet.ensures.flags in
    record {
      flags =
          flags_more c.args.prepared.now ts i t c.loop-number.judged.flags.items c.push.new.self.items b le is
          c.loop-number.invariant.flags c.in_ok-may_meet.ensures.flag put;
      processes =
          c.in_ok-may_meet.ensures.processes (process_numbered (entries_shared ts)) (numbered_process ts i t le is)
          c.loop-number.invariant.processes;
    }

pub returns : goal.returns
returns c =
    let q = c.args.prepared.now in
    let ts = c.args.entries.now in
    let flags = c.loop-number.judged.flags.items in
    let all = take_all c.loop-number.number ts c.loop-number-test.false in
    record {
      flags = flags_shared q ts flags (subst (λ (l : List TakenEntry). AllZip (IsMatchFlagOf q) l flags) all c.loop-number.invariant.flags);
      processes = c.loop-number.invariant.processes;
    }
