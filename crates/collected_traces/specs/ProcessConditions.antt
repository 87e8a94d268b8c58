-- The conditions of a search that need a span's process.
use Rattle.std.specs.Prelude.{◌≡◌, Bool, true, false, ◌&&◌, Option, Some, None}
use Rattle.std.specs.List.{list_all}
use Rattle.jaeger_model.specs.declared.batch.Process.{Process}
use Rattle.jaeger_model.specs.declared.placed.Placed.{Placed}
use Rattle.jaeger_model.specs.declared.span.Span.{Span}
use Rattle.jaeger_model.specs.Texts.{same_text}
use Rattle.trace_model.specs.declared.query.Find.{Find}
use Rattle.trace_model.specs.Searching.{matches, has_tag}
use Rattle.find_traces.specs.PreparedSearches.{IsJudgementOf}
use Rattle.find_traces.specs.RequestedPairs.{Judgement}

-- the span of this process meets every condition of the search
abbrev pub meets : Find → Process → Span → Bool
meets q p s = matches q (record { process = p; span = s })

-- the service is the requested one, and the tags are there
abbrev pub of_service_with_tags : Find → Placed → Bool
of_service_with_tags q p = same_text q.service p.process.service && list_all (has_tag p) q.tags

-- a process that is not of the requested service, or one that was judged
abbrev pub IsJudgedAs : Find → Process → Option Judgement → Type 0
IsJudgedAs q p None = same_text q.service p.service ≡ false
IsJudgedAs q p (Some j) = (same_text q.service p.service ≡ true) × IsJudgementOf q p j
