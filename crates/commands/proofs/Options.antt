-- What the options say.
use Rattle.std.proofs.Common.{◌≡◌, ℕ, ◌<◌, List, Option, Some, None, IfSome, codes, refl, sym, ap, subst, ◌∙◌}
use Rattle.std.specs.Str.Parse.{IsNumeral, digits_value, without_leading_plus}
use Rattle.clap.specs.Words.{Row, Text, rows_of, one_text, first_value}
use Rattle.clap.specs.declared.parser.matches.Found.{Found}
use Rattle.clap.proofs.WalkLemmas.{one_text-rows, first_value-rows}
use Rattle.jaeger_model.specs.declared.ids.TraceId.{TraceId}
use Rattle.commands.specs.Arguments.{HasHost, HasLimits, HasNumber, HasServeOptions, HasTrace, trace_in}
use Rattle.serve_options.specs.declared.host.Host.{Host}
use Rattle.serve_options.specs.declared.options.ServeOptions.{ServeOptions}
use Rattle.serve_options.specs.Hosts.{host_text}
use Rattle.trace_model.specs.declared.limits.Limits.{Limits}

-- what `get_one` reads is the number that the option's text spells
pub number_read : (f : Found) (name : Text) (k n : ℕ) (Also : Text → Type 0)
    → (one_text f name ≡ None → Some n ≡ None)
    → ((t : Text) → one_text f name ≡ Some t
    → ((IsNumeral 10 (without_leading_plus t) × (digits_value 10 (without_leading_plus t) < k)) × (n ≡ digits_value 10 (without_leading_plus t))) × Unit {0}
    × Also t)
    → HasNumber name (rows_of f) n
number_read f name k n Also none value = go (one_text f name) refl
  where
    go : (o : Option Text) → one_text f name ≡ o → HasNumber name (rows_of f) n
    go None e = let bad = none e in absurd cc
    go (Some t) e = (t, sym (one_text-rows f name) ∙ e, (value t e).0.0.0, (value t e).0.1)

-- a number that the option's text spells and that fits was read
pub number_there : (f : Found) (name : Text) (k n : ℕ)
    → ((t : Text) → one_text f name ≡ Some t → (IsNumeral 10 (without_leading_plus t) × (digits_value 10 (without_leading_plus t) < k)) → ⊥)
    → HasNumber name (rows_of f) n → n < k → ⊥
number_there f name k n none has below = none has.0 (one_text-rows f name ∙ has.1) (has.2, subst (λ m. m < k) has.3 below)

-- an option has one number
pub one_number : (rows : List Row) (name : Text) (n m : ℕ) → HasNumber name rows n → HasNumber name rows m → n ≡ m
one_number rows name n m a b = let same : a.0 ≡ b.0 = let both = sym a.1 ∙ b.1 in cc in a.3 ∙ ap (λ t. digits_value 10 (without_leading_plus t)) same ∙ sym b.3

-- the limits that have the numbers read
pub limits_read : (rows : List Row) (b s t k : ℕ) (o : Option Limits)
    → HasNumber (codes "batches") rows b → HasNumber (codes "spans") rows s → HasNumber (codes "traces") rows t → HasNumber (codes "max-skew") rows k
    → IfSome o (λ (l : Limits). (l.batches ≡ b) × (l.spans ≡ s) × (l.traces ≡ t) × (l.max_skew ≡ k)) → IfSome o (HasLimits rows)
limits_read rows b s t k None hb hs ht hk same = tt
limits_read rows b s t k (Some l) hb hs ht hk same = record {
  batches = subst (HasNumber (codes "batches") rows) (sym same.0) hb;
  spans = subst (HasNumber (codes "spans") rows) (sym same.1) hs;
  traces = subst (HasNumber (codes "traces") rows) (sym same.2) ht;
  max_skew = subst (HasNumber (codes "max-skew") rows) (sym same.3) hk;
}

-- the host that the option's text names
pub host_named : (f : Found) (text : Text) (o : Option Host) → Some text ≡ first_value f (codes "host") → IfSome o (λ (h : Host). host_text h ≡ text)
    → IfSome o (HasHost (rows_of f))
host_named f text None is named = tt
host_named f text (Some h) is named = sym (first_value-rows f (codes "host")) ∙ sym is ∙ ap Some (sym named)

pub host_there : (f : Found) (text : Text) (h : Host) → Some text ≡ first_value f (codes "host") → HasHost (rows_of f) h → host_text h ≡ text
host_there f text h is has = let both : Some (host_text h) ≡ Some text = sym has ∙ sym (first_value-rows f (codes "host")) ∙ sym is in cc

pub no_host : (f : Found) (h : Host) → None ≡ first_value f (codes "host") → HasHost (rows_of f) h → ⊥
no_host f h none has = let both : None ≡ Some (host_text h) = none ∙ first_value-rows f (codes "host") ∙ has in cc

-- the options of `serve` that have the numbers read
pub serve_options_read : (rows : List Row) (l : Limits) (h : Host) (p w q s c i e : ℕ) (o : Option ServeOptions)
    → HasLimits rows l → HasHost rows h → HasNumber (codes "port") rows p → HasNumber (codes "workers") rows w
    → HasNumber (codes "queue") rows q → HasNumber (codes "sessions") rows s
    → HasNumber (codes "connections") rows c → HasNumber (codes "idle") rows i → HasNumber (codes "report") rows e
    → IfSome o (λ (v : ServeOptions). v.limits ≡ l) → IfSome o (λ (v : ServeOptions). (v.host ≡ h) × (v.port ≡ p))
    → IfSome o (λ (v : ServeOptions). (v.workers ≡ w) × (v.queue ≡ q))
    → IfSome o (λ (v : ServeOptions). v.connections ≡ c) → IfSome o (λ (v : ServeOptions). (v.sessions ≡ s) × (v.idle ≡ i))
    → IfSome o (λ (v : ServeOptions). v.report ≡ e)
    → IfSome o (HasServeOptions rows)
serve_options_read rows l h p w q s c i e None hl hh hp hw hq hs hc hi he keeps listens holds admits ends reports = tt
serve_options_read rows l h p w q s c i e (Some v) hl hh hp hw hq hs hc hi he keeps listens holds admits ends reports = record {
  limits = subst (HasLimits rows) (sym keeps) hl;
  host = subst (HasHost rows) (sym listens.0) hh;
  port = subst (HasNumber (codes "port") rows) (sym listens.1) hp;
  workers = subst (HasNumber (codes "workers") rows) (sym holds.0) hw;
  queue = subst (HasNumber (codes "queue") rows) (sym holds.1) hq;
  sessions = subst (HasNumber (codes "sessions") rows) (sym ends.0) hs;
  connections = subst (HasNumber (codes "connections") rows) (sym admits) hc;
  idle = subst (HasNumber (codes "idle") rows) (sym ends.1) hi;
  report = subst (HasNumber (codes "report") rows) (sym reports) he;
}

-- the id that was read is the one that the rows have
pub trace_read : (f : Found) (id : TraceId) → trace_in (first_value f (codes "TRACE")) ≡ Some id → HasTrace (rows_of f) id
trace_read f id = go (first_value f (codes "TRACE")) refl
  where
    go : (o : Option Text) → first_value f (codes "TRACE") ≡ o → trace_in o ≡ Some id → HasTrace (rows_of f) id
    go None e is = absurd cc
    go (Some t) e is = (t, sym (first_value-rows f (codes "TRACE")) ∙ e, is)

pub trace_there : (f : Found) (id : TraceId) → HasTrace (rows_of f) id → trace_in (first_value f (codes "TRACE")) ≡ Some id
trace_there f id has = ap trace_in (first_value-rows f (codes "TRACE") ∙ has.1) ∙ has.2
