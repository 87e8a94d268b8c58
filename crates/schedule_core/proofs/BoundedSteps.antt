-- Step by step, a world plays what the machine does.
use Rattle.std.proofs.Common.{◌≡◌, ◌⊎◌, List, [], ◌∷◌, ◌++◌, length, replicate, Option, Some, None, inl, inr, refl, sym, ap, ◌∙◌, subst, append_assoc}
use Rattle.std.proofs.Common.{append-nil}
use Rattle.trace_model.specs.declared.refusal.Refusal.TheVariants.{NoMemory}
use Rattle.schedule_core.specs.declared.step.Step.{Step}
use Rattle.schedule_core.specs.declared.outcome.Outcome.{Outcome}
use Rattle.schedule_core.specs.declared.outcome.Outcome.TheVariants.{Refused}
use Rattle.schedule_core.specs.Machine.{Machine, at_last, outcomes, step}
use Rattle.schedule_core.specs.BoundedMachines.{PlaysAs, Steps}

-- the outcomes so far, and the machine after them as long as memory allows
pub record Ran (m : Machine) (steps : List Step) (os : List Outcome) (now : Option Machine) : Type 0 where
  pub plays : PlaysAs m steps os
  pub stands : ((now ≡ Some (at_last m plays.played)) × (plays.rest ≡ [])) ⊎ (now ≡ None)

outcomes_push : (m : Machine) (ss : List Step) (s : Step) → outcomes m (ss ++ s ∷ []) ≡ outcomes m ss ++ (step (at_last m ss) s).outcome ∷ []
outcomes_push m [] s = refl
outcomes_push m (t ∷ ss) s = ap (λ os. (step m t).outcome ∷ os) (outcomes_push (step m t).machine ss s)

last_push : (m : Machine) (ss : List Step) (s : Step) → at_last m (ss ++ s ∷ []) ≡ (step (at_last m ss) s).machine
last_push m [] s = refl
last_push m (t ∷ ss) s = last_push (step m t).machine ss s

replicate_push : {A : Type 0} (xs : List Step) (s : Step) (a : A) → replicate (length (xs ++ s ∷ [])) a ≡ replicate (length xs) a ++ a ∷ []
replicate_push [] s a = refl
replicate_push (x ∷ xs) s a = ap (λ ys. a ∷ ys) (replicate_push xs s a)

pub ran_nothing : (m : Machine) (now : Option Machine) → (now ≡ Some m) ⊎ (now ≡ None) → Ran m [] [] now
ran_nothing m now (inl is) = record { plays = record { played = []; rest = []; whole = refl; returned = refl }; stands = inl (is, refl) }
ran_nothing m now (inr none) = record { plays = record { played = []; rest = []; whole = refl; returned = refl }; stands = inr none }

-- one more step is refused, as those before it or as the first one
refused_too : (m : Machine) (steps : List Step) (os : List Outcome) (s : Step) (o : Outcome) (next : Option Machine)
    → PlaysAs m steps os → o ≡ Refused NoMemory → next ≡ None → Ran m (steps ++ s ∷ []) (os ++ o ∷ []) next
refused_too m steps os s o next p is none = record {
  plays = record {
    played = p.played;
    rest = p.rest ++ s ∷ [];
    whole = ap (λ ss. ss ++ s ∷ []) p.whole ∙ append_assoc p.played p.rest (s ∷ []);
    returned = ap (λ x. os ++ x ∷ []) is ∙ ap (λ x. x ++ Refused NoMemory ∷ []) p.returned
        ∙ append_assoc (outcomes m p.played) (replicate (length p.rest) (Refused NoMemory)) (Refused NoMemory ∷ [])
        ∙ ap (λ x. outcomes m p.played ++ x) (sym (replicate_push p.rest s (Refused NoMemory)));
  };
  stands = inr none;
}

-- one more step is made
made_too : (m : Machine) (steps : List Step) (os : List Outcome) (s : Step) (o : Outcome) (next : Option Machine)
    → (p : PlaysAs m steps os) → p.rest ≡ [] → o ≡ (step (at_last m p.played) s).outcome → next ≡ Some (step (at_last m p.played) s).machine
    → Ran m (steps ++ s ∷ []) (os ++ o ∷ []) next
made_too m steps os s o next p last is goes =
    let all : steps ≡ p.played = p.whole ∙ ap (λ x. p.played ++ x) last ∙ append-nil p.played in
    let returned : os ≡ outcomes m p.played =
    p.returned ∙ ap (λ (x : List Step). outcomes m p.played ++ replicate (length x) (Refused NoMemory)) last ∙ append-nil (outcomes m p.played) in
    record {
      plays = record {
        played = p.played ++ s ∷ [];
        rest = [];
        whole = ap (λ ss. ss ++ s ∷ []) all ∙ sym (append-nil (p.played ++ s ∷ []));
        returned = ap (λ x. x ++ o ∷ []) returned ∙ ap (λ x. outcomes m p.played ++ x ∷ []) is ∙ sym (outcomes_push m p.played s)
            ∙ sym (append-nil (outcomes m (p.played ++ s ∷ [])));
      };
      stands = inl (goes ∙ ap Some (sym (last_push m p.played s)), refl);
    }

steps_from : (m : Machine) (steps : List Step) (os : List Outcome) (mm : Machine) (s : Step) (o : Outcome) (next : Option Machine)
    → (p : PlaysAs m steps os) → mm ≡ at_last m p.played → p.rest ≡ [] → Steps (Some mm) s o next → Ran m (steps ++ s ∷ []) (os ++ o ∷ []) next
steps_from m steps os mm s o next p is last (inl made) =
    made_too m steps os s o next p last (made.0 ∙ ap (λ x. (step x s).outcome) is) (made.1 ∙ ap (λ x. Some (step x s).machine) is)
steps_from m steps os mm s o next p is last (inr refused) = refused_too m steps os s o next p refused.0 refused.1

pub ran_on : (m : Machine) (steps : List Step) (os : List Outcome) (now : Option Machine) (s : Step) (o : Outcome) (next : Option Machine)
    → Ran m steps os now → Steps now s o next → Ran m (steps ++ s ∷ []) (os ++ o ∷ []) next
ran_on m steps os now s o next r steps_so = elim r.stands [
  | inl found ↦ steps_from m steps os (at_last m r.plays.played) s o next r.plays refl found.1 (subst (λ n. Steps n s o next) found.0 steps_so)
  | inr none ↦ let wanting = subst (λ n. Steps n s o next) none steps_so in refused_too m steps os s o next r.plays wanting.0 wanting.1
]
