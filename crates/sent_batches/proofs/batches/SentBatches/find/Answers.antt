use Rattle.std.proofs.Common.{rules, ◌≡◌, ◌∙◌, ℕ, List, length, get_or, sym, ap, subst, true, map, Some, None, Option, arith}
use Rattle.std.specs.Arc.{arc_value}
use Rattle.std.specs.Option.{is_some}
use Rattle.std.proofs.lemmas.List.{get_or-map, length-map, get_or_default}
use Rattle.trace_model.specs.ResentBatches.{resends}
use Rattle.trace_model.specs.EntryWork.{batch_brought}
use Rattle.trace_model.proofs.ResentBatches.{nothing_sent, unnumbered_not_sent}
use Rattle.hash_tables.specs.RowPlaces.{Found}
use Rattle.sent_batches.specs.SentIndex.{Sent, has_seq_no, hash_after, is_sent_after, AreAfterEntries, numbered_from}
use Rattle.sent_batches.proofs.SentIndex.{hash_is, batch_has, nothing_resent, numbered_within, same_hash, found_some, found_none, brought_is}
use Rattle.sent_batches.proofs.batches.SentBatches.find.Goals as goal

pub returns-in_err-batch : goal.returns-in_err-batch
returns-in_err-batch c =
    let none : batch_brought c.args.entry.now.work ≡ None = search rules in
    let result : c.from_residual.result ≡ None = search rules in
    result ∙ sym (nothing_sent (map arc_value c.args.entries.now) c.args.entry.now (nothing_resent c.args.entry.now.work none))

pub returns-then-is_none : goal.returns-then-is_none
returns-then-is_none c =
    let b = c.in_ok-batch.batch.now in
    let brought : batch_brought c.args.entry.now.work ≡ Some b = search rules in
    let none : b.seq_no ≡ None = search rules in
    sym (nothing_sent (map arc_value c.args.entries.now) c.args.entry.now
    (λ u. ap (λ w. resends w u) (brought_is c.args.entry.now.work b brought) ∙ unnumbered_not_sent b none u))

pub find-requires-clause-can_read : goal.find-requires-clause-can_read
find-requires-clause-can_read c =
    let h = map arc_value c.args.entries.now in
    let kept = c.requires.kept in
    let befores : c.deref.result.now ≡ numbered_from 0 h = c.deref.ensures.value ∙ ap (λ (v : Sent). v.befores) c.self.view_is ∙ kept.befores in
    let hashes : c.deref-2.result.now ≡ map (hash_after c.args.self.now.keys h) c.args.self.now.befores =
    c.deref-2.ensures.value ∙ ap (λ (v : Sent). v.hashes) c.self.view_is ∙ kept.hashes in (
      subst (λ (bs : List ℕ). AreAfterEntries h bs) (sym befores) (record { within = λ row l. numbered_within h row l }),
      ap length befores ∙ sym (ap length hashes ∙ length-map c.args.self.now.befores (hash_after c.args.self.now.keys h) ∙ ap length kept.befores),
    )

pub find-requires-clause-hash : goal.find-requires-clause-hash
find-requires-clause-hash c row l sought =
    let h = map arc_value c.args.entries.now in
    let kept = c.requires.kept in
    let keys = c.args.self.now.keys in
    let b = c.in_ok-batch.batch.now in
    let brought : batch_brought c.args.entry.now.work ≡ Some b = search rules in
    let numbered : is_some b.seq_no ≡ true = search rules in
    let has : has_seq_no c.args.entry.now.work ≡ true = batch_has c.args.entry.now.work b brought ∙ numbered in
    let befores : c.deref.result.now ≡ c.args.self.now.befores = c.deref.ensures.value ∙ ap (λ (v : Sent). v.befores) c.self.view_is in
    let hashes : c.deref-2.result.now ≡ map (hash_after keys h) c.args.self.now.befores =
    c.deref-2.ensures.value ∙ ap (λ (v : Sent). v.hashes) c.self.view_is ∙ kept.hashes in
    let long = ap length hashes ∙ length-map c.args.self.now.befores (hash_after keys h) in
    let at : get_or c.deref-2.result.now row 0 ≡ hash_after keys h (get_or c.args.self.now.befores row 0) =
    ap (λ (xs : List ℕ). get_or xs row 0) hashes ∙ get_or-map (hash_after keys h) c.args.self.now.befores row 0 0 (omega arith) in
    let is_sought = subst (λ (xs : List ℕ). is_sent_after b h (get_or xs row 0) ≡ true) befores sought in
    at ∙ same_hash keys b h (get_or c.args.self.now.befores row 0) is_sought
    ∙ sym (c.requires.hash has ∙ hash_is keys c.args.entry.now.work b brought)

pub returns-in_err-row : goal.returns-in_err-row
returns-in_err-row c =
    let h = map arc_value c.args.entries.now in
    let kept = c.requires.kept in
    let b = c.in_ok-batch.batch.now in
    let brought : batch_brought c.args.entry.now.work ≡ Some b = search rules in
    let none : c.find.result ≡ None = search rules in
    let result : c.from_residual-in_err-row.result ≡ None = search rules in
    let befores : c.deref.result.now ≡ numbered_from 0 h = c.deref.ensures.value ∙ ap (λ (v : Sent). v.befores) c.self.view_is ∙ kept.befores in
    let hashes : c.deref-2.result.now ≡ map (hash_after c.args.self.now.keys h) c.args.self.now.befores =
    c.deref-2.ensures.value ∙ ap (λ (v : Sent). v.hashes) c.self.view_is ∙ kept.hashes in
    let long : length c.deref-2.result.now ≡ length (numbered_from 0 h) =
    ap length hashes ∙ length-map c.args.self.now.befores (hash_after c.args.self.now.keys h) ∙ ap length kept.befores in
    let nowhere = subst (λ (r : Option ℕ). Found (length c.deref-2.result.now) (λ row. is_sent_after b h (get_or c.deref.result.now row 0)) r)
    none c.find.ensures in
    result ∙ found_none h c.args.entry.now b (brought_is c.args.entry.now.work b brought)
    (λ row l. ap (λ (bs : List ℕ). is_sent_after b h (get_or bs row 0)) (sym befores) ∙ nowhere row (omega (arith, long)))

pub returns : goal.returns
returns c =
    let h = map arc_value c.args.entries.now in
    let kept = c.requires.kept in
    let b = c.in_ok-batch.batch.now in
    let row = c.in_ok-row.row in
    let brought : batch_brought c.args.entry.now.work ≡ Some b = search rules in
    let some : c.find.result ≡ Some row = search rules in
    let befores : c.deref.result.now ≡ numbered_from 0 h = c.deref.ensures.value ∙ ap (λ (v : Sent). v.befores) c.self.view_is ∙ kept.befores in
    let hashes : c.deref-2.result.now ≡ map (hash_after c.args.self.now.keys h) c.args.self.now.befores =
    c.deref-2.ensures.value ∙ ap (λ (v : Sent). v.hashes) c.self.view_is ∙ kept.hashes in
    let long : length c.deref-2.result.now ≡ length (numbered_from 0 h) =
    ap length hashes ∙ length-map c.args.self.now.befores (hash_after c.args.self.now.keys h) ∙ ap length kept.befores in
    let found = subst (λ (r : Option ℕ). Found (length c.deref-2.result.now) (λ row. is_sent_after b h (get_or c.deref.result.now row 0)) r)
    some c.find.ensures in
    let here : c.index.result.now ≡ get_or c.self.inside.befores.items row 0 =
    c.index.ensures ∙ get_or_default c.self.inside.befores.items row c.index.result.now 0
    (omega (arith, long, found.0, ap length c.deref.ensures.value, ap length befores)) in
    let before : c.index.result.now ≡ get_or (numbered_from 0 h) row 0 =
    here ∙ ap (λ (v : Sent). get_or v.befores row 0) c.self.view_is ∙ ap (λ (bs : List ℕ). get_or bs row 0) kept.befores in
    let behind = ap (λ (bs : List ℕ). is_sent_after b h (get_or bs row 0)) (sym befores) ∙ found.1 in
    ap (λ (n : ℕ). Some n) before ∙ found_some h c.args.entry.now b (get_or (numbered_from 0 h) row 0) (brought_is c.args.entry.now.work b brought)
    c.requires.once (numbered_within h row (omega (arith, long, found.0))) behind
