use Rattle.std.proofs.Common.{◌≡◌, ◌≤◌, ◌<◌, ◌+◌, ◌-◌, ◌++◌, List, ℕ, length, take, arith, ◌∙◌, ap, sym, subst, append_assoc, length-append}
use Rattle.std.proofs.Math.Seq.{take-append-add}
use Rattle.std.proofs.lemmas.List.{take-append-le}
use Rattle.std.specs.Io.KnownBytes.{Appends}
use Rattle.std.proofs.KnownBytes.{Appends-trans}
use Rattle.query_json.specs.Parts.{to_come}
use Rattle.http_session.proofs.writing.write_parts.Goals as goal

-- as many bytes as were sent before the part, and the first n of it
up_to : (sent part rest all : List ℕ) (n whole left : ℕ) → sent ++ (part ++ rest) ≡ all → n ≤ length part → whole ≡ length all → left ≡ length (part ++ rest)
    → sent ++ take n part ≡ take (whole - left + n) all
up_to sent part rest all n whole left split within whole_is left_is =
    let many : length sent + n ≡ whole - left + n = omega (arith, whole_is, left_is, ap length split, length-append sent (part ++ rest)) in
    ap (λ l. sent ++ l) (sym (take-append-le n part rest within))
    ∙ sym (take-append-add sent (part ++ rest) n)
    ∙ ap (take (length sent + n)) split
    ∙ ap (λ m. take m all) many

not_all : (sent part rest all : List ℕ) (n whole left : ℕ) → sent ++ (part ++ rest) ≡ all → n < length part → whole ≡ length all
    → left ≡ length (part ++ rest) → whole - left + n < length all
not_all sent part rest all n whole left split short whole_is left_is =
    omega (arith, short, whole_is, left_is, ap length split, length-append sent (part ++ rest), length-append part rest)

pub returns-in-Err-clause-took : goal.returns-in-Err-clause-took
returns-in-Err-clause-took g c =
    let sent = c.loop-response.invariant.0 in
    let part = c.loop-response.response.part in
    let n = c.in-Err.written in
    let short : n < length part = subst (λ (l : List ℕ). n < length l) c.part.ensures.part c.in-Err.ensures.err.0 in
    let within : n ≤ length part = omega (arith, short) in
    let took : g.W.Output.takes c.loop-response.output (take n part) c.write_all.new.output =
    subst (λ (l : List ℕ). g.W.Output.takes c.loop-response.output (take n l) c.write_all.new.output) c.part.ensures.part c.in-Err.ensures.took in
    subst (λ (l : List ℕ). g.W.Output.takes c.args.output.now l c.write_all.new.output)
    (up_to sent part c.loop-response.response.rest (to_come c.args.response)
    n c.remaining-all.result c.remaining-in-loop-response.result c.loop-response.invariant.1 within c.remaining-all.ensures.length
    c.remaining-in-loop-response.ensures.length) (g.met.W.Output.takes_joined _ _ _ sent (take n part) c.loop-response.invariant.4 took)

pub returns-in-Err-clause-err : goal.returns-in-Err-clause-err
returns-in-Err-clause-err g c =
    let sent = c.loop-response.invariant.0 in
    let part = c.loop-response.response.part in
    let n = c.in-Err.written in
    let out0 = g.W.Output.contents c.args.output.now in
    let out1 = g.W.Output.contents c.loop-response.output in
    let out2 = g.W.Output.contents c.write_all.new.output in
    let short : n < length part = subst (λ (l : List ℕ). n < length l) c.part.ensures.part c.in-Err.ensures.err.0 in
    let within : n ≤ length part = omega (arith, short) in
    let wrote : Appends out1 out2 (take n part) = subst (λ (l : List ℕ). Appends out1 out2 (take n l)) c.part.ensures.part c.in-Err.ensures.err.1 in (
      not_all sent part c.loop-response.response.rest (to_come c.args.response)
          n c.remaining-all.result c.remaining-in-loop-response.result c.loop-response.invariant.1 short c.remaining-all.ensures.length
          c.remaining-in-loop-response.ensures.length,
      subst (Appends out0 out2) (up_to sent part c.loop-response.response.rest (to_come c.args.response)
          n c.remaining-all.result c.remaining-in-loop-response.result c.loop-response.invariant.1 within c.remaining-all.ensures.length
          c.remaining-in-loop-response.ensures.length) (Appends-trans out0 out1 out2 sent (take n part) c.loop-response.invariant.2 wrote),
      c.in-Err.ensures.err.2,
    )

pub loop-response-preserved : goal.loop-response-preserved
loop-response-preserved g c =
    let sent = c.loop-response.invariant.0 in
    let part = c.loop-response.response.part in
    let out0 = g.W.Output.contents c.args.output.now in
    let out1 = g.W.Output.contents c.loop-response.output in
    let out2 = g.W.Output.contents c.write_all.new.output in
    let wrote : Appends out1 out2 part = subst (Appends out1 out2) c.part.ensures.part c.in_default.ensures.ok in
    let took : g.W.Output.takes c.loop-response.output part c.write_all.new.output =
    subst (λ (l : List ℕ). g.W.Output.takes c.loop-response.output l c.write_all.new.output) c.part.ensures.part c.in_default.ensures.took in (
      sent ++ part,
      append_assoc sent part (to_come c.advance.new.self) ∙ ap (λ l. sent ++ (part ++ l)) c.advance.ensures ∙ c.loop-response.invariant.1,
      Appends-trans out0 out1 out2 sent part c.loop-response.invariant.2 wrote,
      c.in_default.ensures.same ∙ c.loop-response.invariant.3,
      g.met.W.Output.takes_joined _ _ _ sent part c.loop-response.invariant.4 took,
    )
