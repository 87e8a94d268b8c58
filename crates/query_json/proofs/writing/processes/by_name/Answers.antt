use Rattle.std.proofs.Common.{◌≡◌, ◌<◌, ◌+◌, ◌∷◌, ◌∙◌, [], List, map, drop, length, ap, ap₂, subst, sym, arith}
use Rattle.std.specs.Prelude.{All}
use Rattle.std.proofs.lemmas.List.{drop_all, drop_more}
use Rattle.std.proofs.lemmas.List.Elements.{All-get_or}
use Rattle.std.proofs.Math.Numerals.{add-one}
use Rattle.serde_json.specs.Data.{Members, put}
use Rattle.trace_model.specs.declared.answer.Shown.{Shown}
use Rattle.answer_trees.specs.declared.naming.FirstSpan.{FirstSpan}
use Rattle.answer_trees.specs.ProcessNames.{process_name}
use Rattle.query_json.specs.NamedProcesses.{named_at, named_members}
use Rattle.answer_trees.specs.ProcessNumbers.{IsFirst, first_process}
use Rattle.answer_trees.specs.Trees.{process_tree, processes_by_name}
use Rattle.query_json.proofs.NamedProcesses.{AreKeyed, Entry, HaveSpans, first_tree, first_within, have_all, have_insert, keyed_insert, named_insert}
use Rattle.answer_trees.proofs.ProcessNames.{name_at}
use Rattle.query_json.proofs.writing.processes.by_name.Goals as goal

pub loop-place-preserved : goal.loop-place-preserved
loop-place-preserved c =
    let l = c.loop-place in
    let xs = c.args.processes.now in
    let x = c.index-processes-place.result in
    let es = l.named.entries in
    let p = named_at l.place x.span in
    let inserted = rw c.in_ok-at.ensures at c.in_ok-insert.ensures.entries in
    let below : l.place < length xs = omega arith in
    let here : drop l.place xs ≡ x ∷ drop (l.place + 1) xs =
    drop_more xs l.place x below ∙ ap (λ y. y ∷ drop (l.place + 1) xs) (sym c.index-processes-place.is) in
    let name : c.as_str.result.now ≡ process_name l.place =
    c.as_str.ensures.value ∙ name_at (length xs) l.place c.args.names.now c.index-names-place.result c.requires.names below c.index-names-place.is in
    let first : (ss : List Shown) → All (IsFirst ss) xs → IsFirst ss x =
    λ ss all. subst (IsFirst ss) (sym c.index-processes-place.is) (All-get_or (IsFirst ss) xs l.place x below all) in
    record {
      keyed = subst AreKeyed (sym inserted) (keyed_insert es c.as_str.result p name l.invariant.keyed);
      have =
          λ ss all. subst (HaveSpans ss) (sym inserted)
          (have_insert ss es c.as_str.result p (first_within ss x (first ss all)) (l.invariant.have ss all));
      named = λ ss all.
          let ms = named_members ss (map (λ e. e.1) es) in
          let grown : named_members ss (map (λ e. e.1) c.insert.new.self.entries) ≡ put (process_name l.place) (process_tree x.process.now) ms =
          ap (λ (m : List Entry). named_members ss (map (λ e. e.1) m)) inserted
          ∙ named_insert ss es c.as_str.result p name l.invariant.keyed
          ∙ ap (λ d. put (process_name l.place) d ms) (first_tree ss x (first ss all)) in
          ap₂ (λ n (m : Members). processes_by_name n (map first_process (drop (l.place + 1) xs)) m) (add-one l.place) grown
          ∙ ap (λ (ys : List FirstSpan). processes_by_name l.place (map first_process ys) ms) (sym here) ∙ l.invariant.named ss all;
    }

pub returns : goal.returns
returns c = λ ss all.
    let l = c.loop-place in
    let xs = c.args.processes.now in
    let none : drop l.place xs ≡ [] = drop_all l.place xs (omega arith) in
    record {
      have_spans = have_all ss l.named.entries (l.invariant.have ss all);
      members =
          ap (λ (ys : List FirstSpan). processes_by_name l.place (map first_process ys) (named_members ss (map (λ e. e.1) l.named.entries))) (sym none)
          ∙ l.invariant.named ss all;
    }
