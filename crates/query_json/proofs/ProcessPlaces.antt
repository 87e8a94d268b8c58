-- The places of the processes of a trace's spans.
use Rattle.std.proofs.Common.{◌≡◌, ◌∙◌, ◌+◌, ◌<◌, ◌^◌, ◌==◌, ℕ, zero, suc, Bool, true, ap, arith, eqb-true, refl, subst, sym}
use Rattle.std.proofs.Common.{List, [], ◌∷◌, get_or, length, map}
use Rattle.std.specs.Prelude.{if◌then◌else◌}
use Rattle.std.specs.List.{list_all}
use Rattle.std.proofs.lemmas.Bool.{and_parts}
use Rattle.std.proofs.lemmas.List.{get_or-map}
use Rattle.std.proofs.lemmas.List.Elements.{All-cons, All-nil}
use Rattle.trace_model.specs.declared.answer.Shown.{Shown}
use Rattle.query_json.specs.declared.writing.processes.NamedProcess.{NamedProcess}
use Rattle.query_json.specs.LentTraces.{IsNumbered}
use Rattle.query_json.specs.NamedProcesses.{AreNamed, HasSpan, first_named}
use Rattle.answer_trees.specs.Trees.{process_of, processes_of}
use Rattle.answer_trees.specs.TraceProcesses.{process_place}
use Rattle.answer_trees.proofs.DistinctProcesses.{itself}

pub numbered : (ss : List Shown) (places : List ℕ) (ps : List NamedProcess) → places ≡ map (process_place (processes_of ss)) ss
    → AreNamed ss (processes_of ss) ps → length ps + length ss < 2 ^ 62 → IsNumbered ss places ps
numbered ss places ps at named few = record {
  places =
      λ k s within is. ap (λ l. get_or l k 0) at ∙ get_or-map (process_place (processes_of ss)) ss k s 0 within ∙ ap (process_place (processes_of ss)) (sym is);
  named = named;
  few = few;
}

pub zeros : (places : List ℕ) → list_all (λ p. p == 0) places ≡ true → (k : ℕ) → get_or places k 0 ≡ 0
zeros [] all k = refl
zeros (p ∷ ps) all zero = eqb-true p 0 (and_parts (p == 0) (list_all (λ q. q == 0) ps) all).0
zeros (p ∷ ps) all (suc k) = zeros ps (and_parts (p == 0) (list_all (λ q. q == 0) ps) all).1 k

-- if the process of the first span is the only one, no place is needed
pub one_numbered : (ss : List Shown) (places : List ℕ) (ps : List NamedProcess) → IsNumbered ss places ps → ps ≡ first_named ∷ []
    → ((k : ℕ) → get_or places k 0 ≡ 0) → IsNumbered ss [] (first_named ∷ [])
one_numbered ss places ps known alone none = record {
  places = λ k s within is. sym (none k) ∙ known.places k s within is;
  named = subst (AreNamed ss (processes_of ss)) alone known.named;
  few = omega (arith, known.few, ap length alone);
}

lone_place : (s : Shown) (k : ℕ) (x : Shown) → k < 1 → x ≡ get_or (s ∷ []) k x → 0 ≡ process_place (processes_of (s ∷ [])) x
lone_place s zero x within is =
    sym (ap (process_place (processes_of (s ∷ []))) is ∙ ap (λ (same : Bool). if same then 0 else 1) (itself (process_of s)))
lone_place s (suc k) x within is = absurd (omega (arith, within))

-- the process of the only span is the first and only one
pub lone_numbered : (ss : List Shown) → length ss ≡ 1 → IsNumbered ss [] (first_named ∷ [])
lone_numbered [] one = absurd (omega (arith, one))
lone_numbered (s ∷ []) one = record {
  places = lone_place s;
  named = record {
    have_spans = All-cons (HasSpan (s ∷ [])) first_named [] (omega arith) (All-nil (HasSpan (s ∷ [])));
    members = refl;
  };
  few = omega arith;
}
lone_numbered (s ∷ t ∷ ss) one = absurd (omega (arith, one))
