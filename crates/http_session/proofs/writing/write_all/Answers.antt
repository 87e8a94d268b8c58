use Rattle.std.proofs.Common.{◌≡◌, ◌≤◌, ◌+◌, ◌-◌, ◌++◌, [], List, ℕ, length, take, drop, arith, ◌∙◌, ap, sym, subst, refl, append-nil}
use Rattle.std.proofs.Math.Seq.{take-add}
use Rattle.std.proofs.lemmas.List.{take_all, length-drop}
use Rattle.std.specs.Io.KnownBytes.{Appends}
use Rattle.std.proofs.KnownBytes.{Appends-nil, Appends-trans}
use Rattle.http_session.proofs.writing.write_all.Goals as goal

joined : (done count : ℕ) (bytes : List ℕ) → take done bytes ++ take count (take (length bytes - done) (drop done bytes)) ≡ take (done + count) bytes
joined done count bytes =
    ap (λ l. take done bytes ++ take count l) (take_all (length bytes - done) (drop done bytes) (omega (arith, length-drop done bytes)))
    ∙ sym (take-add done count bytes)

pub loop-done-preserved : goal.loop-done-preserved
loop-done-preserved g c =
    let bytes = c.args.bytes.now in
    let rest = take (length bytes - c.loop-done.done) (drop c.loop-done.done bytes) in
    let wrote : Appends (g.W.Output.contents c.loop-done.output) (g.W.Output.contents c.write.new.self) (take c.in-Ok.count rest) = c.in-Ok.ensures.bytes in
    let small : c.in-Ok.count ≤ length rest = c.in-Ok.ensures.bound in
    let whole : length rest ≤ length bytes - c.loop-done.done =
    omega (
      arith,
      ap length (take_all (length bytes - c.loop-done.done) (drop c.loop-done.done bytes) (omega (arith, length-drop c.loop-done.done bytes))),
      length-drop c.loop-done.done bytes,
    ) in
    let took : g.W.Output.takes c.loop-done.output (take c.in-Ok.count rest) c.write.new.self = c.in-Ok.ensures.taken in (
      omega arith,
      subst (Appends _ _) (joined c.loop-done.done c.in-Ok.count bytes) (Appends-trans _ _ _ _ _ c.loop-done.invariant.1 wrote),
      c.in-Ok.ensures.ok ∙ c.loop-done.invariant.2,
      subst (λ (l : List ℕ). g.W.Output.takes c.args.output.now l c.write.new.self) (joined c.loop-done.done c.in-Ok.count bytes)
          (g.met.W.Output.takes_joined _ _ _ _ _ c.loop-done.invariant.3 took),
    )

-- before the first write
pub loop-done-init : goal.loop-done-init
loop-done-init g c = (omega arith, Appends-nil (g.W.Output.contents c.args.output.now), refl, g.met.W.Output.takes_nothing c.args.output.now)

-- those before the write that failed
pub returns-in-Err-clause-took : goal.returns-in-Err-clause-took
returns-in-Err-clause-took g c =
    let done = take c.loop-done.done c.args.bytes.now in
    subst (λ (l : List ℕ). g.W.Output.takes c.args.output.now l c.write.new.self) (append-nil done)
    (g.met.W.Output.takes_joined _ _ _ done [] c.loop-done.invariant.3 c.in-Err.ensures.none)
