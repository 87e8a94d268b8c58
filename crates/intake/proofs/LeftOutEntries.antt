-- A list that leaves an entry out, beside the list that is known.
use Rattle.std.proofs.Common.{◌<◌, Bool, true, false, List, length, inl, inr}
use Rattle.std.specs.Prelude.{MatchBool}
use mathlib.Core.List.{IsPrefix}
use Rattle.trace_model.specs.declared.entry.Entry.{Entry}
use Rattle.trace_model.specs.declared.limits.Limits.{Limits}
use Rattle.trace_model.specs.declared.refusal.Refusal.{Refusal}
use Rattle.trace_model.specs.Histories.{IsLegal}
use Rattle.intake.specs.Denials.{IsReasonBy}
use Rattle.intake.specs.LiveStores.{LiveValue, IsRefusedJob}

pub refused_job : (limits : Limits) (e : Entry) (why : Refusal) (list : List Entry) (t : LiveValue) (b : Bool) → IsLegal limits list
    → MatchBool b (IsPrefix list t.known) (IsPrefix t.known list × (length t.known < length list)) → IsPrefix list t.refused_by → IsReasonBy limits list e why
    → IsRefusedJob limits e why t
refused_job limits e why list t true legal begins by left = inl (list, legal, inl begins, by, left)
refused_job limits e why list t false legal begins by left = inl (list, legal, inr begins.0, by, left)
