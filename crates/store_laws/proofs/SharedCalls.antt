-- One history explains all calls of which any two have comparable lists.
use Rattle.std.proofs.Common.{inl, inr, List, [], ◌∷◌, length, get_or, refl, sym, ap, ◌∙◌}
use Rattle.std.specs.Prelude.{All}
use Rattle.std.proofs.lemmas.List.Elements.{All-nil, All-cons, All-head, All-tail}
use mathlib.Core.List.{IsPrefix}
use Rattle.trace_model.specs.declared.entry.Entry.{Entry}
use Rattle.trace_model.specs.declared.limits.Limits.{Limits}
use Rattle.trace_model.specs.Answers.{answer}
use Rattle.trace_model.specs.Histories.{IsLegal}
use Rattle.trace_model.proofs.Legality.{legal_empty}
use Rattle.trace_model.specs.Refusals.{refusal_of}
use Rattle.trace_model.proofs.Prefixes.{prefix_self, prefix_trans, prefix_length, take_whole}
use Rattle.read_side.proofs.DistinctEntries.{acknowledged_once}
use Rattle.store_laws.specs.SharedCalls.{Saying, Call, IsTrueOf, IsTrueCall, AreComparable, AllComparable, IsExplained, IsCallOf, HaveOneHistory}
use Rattle.store_laws.specs.SharedCalls.{answered, acknowledged, refused, known}

abbrev Begins : List Entry → Call → Type 0
Begins whole c = IsPrefix c.list whole

-- ---- the longest list
-- one that each call's list begins, and that begins with the list so far
record Longest (limits : Limits) (list : List Entry) (calls : List Call) : Type 0 where
  whole : List Entry
  legal : IsLegal limits whole
  own : IsPrefix list whole
  each : All (Begins whole) calls

longest : (limits : Limits) (list : List Entry) (calls : List Call) → IsLegal limits list → All (IsTrueCall limits) calls
    → All (λ (c : Call). AreComparable list c.list) calls → AllComparable calls → Longest limits list calls
longest limits list [] legal each near all = record { whole = list; legal = legal; own = prefix_self list; each = All-nil (Begins list) }
longest limits list (c ∷ cs) legal each near all =
    elim (All-head (λ (d : Call). AreComparable list d.list) c cs near) [
      | inl begins ↦
          let rest = longest limits c.list cs (All-head (IsTrueCall limits) c cs each).legal (All-tail (IsTrueCall limits) c cs each) all.0 all.1 in
          record {
            whole = rest.whole;
            legal = rest.legal;
            own = prefix_trans list c.list rest.whole begins rest.own;
            each = All-cons (Begins rest.whole) c cs rest.own rest.each;
          }
      | inr begins ↦
          let rest = longest limits list cs legal (All-tail (IsTrueCall limits) c cs each)
          (All-tail (λ (d : Call). AreComparable list d.list) c cs near) all.1 in
          record {
            whole = rest.whole;
            legal = rest.legal;
            own = rest.own;
            each = All-cons (Begins rest.whole) c cs (prefix_trans c.list list rest.whole begins rest.own) rest.each;
          }
    ]

-- ---- what a call said
explained : (limits : Limits) (list whole : List Entry) (s : Saying) → IsLegal limits whole → IsPrefix list whole → IsTrueOf limits list s
    → IsExplained limits whole s
explained limits list whole (answered q a) legal begins is =
    record {
      front = length list;
      within = prefix_length list whole begins;
      answer_is = is ∙ ap (λ (l : List Entry). answer limits l q) (sym (take_whole list whole begins));
    }
explained limits list whole (acknowledged place e) legal begins at = acknowledged_once limits list whole place e legal begins at
explained limits list whole (refused e why) legal begins is =
    record {
      front = length list;
      within = prefix_length list whole begins;
      reason = ap (λ (l : List Entry). refusal_of limits l e) (take_whole list whole begins) ∙ is;
    }
explained limits list whole known legal begins is = tt

all_explained : (limits : Limits) (whole : List Entry) (calls : List Call) → IsLegal limits whole → All (IsTrueCall limits) calls
    → All (Begins whole) calls → All (IsCallOf limits whole) calls
all_explained limits whole [] legal each begin = All-nil (IsCallOf limits whole)
all_explained limits whole (c ∷ cs) legal each begin =
    All-cons (IsCallOf limits whole) c cs
    (record {
      begins = All-head (Begins whole) c cs begin;
      saying = explained limits c.list whole c.saying legal (All-head (Begins whole) c cs begin) (All-head (IsTrueCall limits) c cs each).saying;
    })
    (all_explained limits whole cs legal (All-tail (IsTrueCall limits) c cs each) (All-tail (Begins whole) c cs begin))

-- ---- the law
by_longest : (limits : Limits) (calls : List Call) (list : List Entry) → All (IsTrueCall limits) calls → Longest limits list calls
    → HaveOneHistory limits calls
by_longest limits calls list each l =
    record { history = l.whole; legal = l.legal; each = all_explained limits l.whole calls l.legal each l.each }

pub one_history : (limits : Limits) (calls : List Call) → All (IsTrueCall limits) calls → AllComparable calls → HaveOneHistory limits calls
one_history limits calls each all =
    by_longest limits calls [] each
    (longest limits [] calls (legal_empty limits) each (λ k d lt. inl ((get_or calls k d).list, refl)) all)
