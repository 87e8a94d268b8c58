use Rattle.std.proofs.Common.{rules, ◌≡◌, ◌∙◌, ◌<◌, ◌-◌, ℕ, List, [], ◌∷◌, ◌++◌, length, sym, ap, subst, true, false, map, Some, arith, length-append}
use Rattle.std.specs.Arc.{arc_value}
use Rattle.std.specs.Global.{Global}
use Rattle.std.specs.Option.{is_some}
use Rattle.std.proofs.lemmas.List.{length-map}
use Rattle.trace_model.specs.declared.entry.Entry.{Entry}
use Rattle.trace_model.specs.Histories.{before_last}
use Rattle.trace_model.specs.EntryWork.{batch_brought}
use Rattle.hash_tables.specs.RowPlaces.{LeadsTo}
use Rattle.sent_batches.specs.BatchHashes.{batch_hash}
use Rattle.sent_batches.specs.SentIndex.{Sent, IsSentKept, AreAfterEntries, has_seq_no, hash_after, numbered_from}
use Rattle.sent_batches.proofs.SentIndex.{hash_is, limit_has_none, batch_has, brought_is, one_more, kept_same, kept_more, numbered_within}
use Rattle.sent_batches.proofs.batches.SentBatches.add.Goals as goal

pub returns-in_default-clause-kept : goal.returns-in_default-clause-kept
returns-in_default-clause-kept c =
    let e = c.deref.result.now in
    let more = one_more c.args.entries.now c.index-entries-before.result e c.args.self.now c.requires.some c.index-entries-before.is c.deref.ensures
    c.requires.kept c.requires.room in
    kept_same _ e c.args.self.now c.requires.kept (limit_has_none e.work (sym (c.in_default.ensures))) more

pub returns-then-is_none-clause-kept : goal.returns-then-is_none-clause-kept
returns-then-is_none-clause-kept c =
    let e = c.deref.result.now in
    let b = c.in-Some.batch.now in
    let more = one_more c.args.entries.now c.index-entries-before.result e c.args.self.now c.requires.some c.index-entries-before.is c.deref.ensures
    c.requires.kept c.requires.room in
    let brought : batch_brought e.work ≡ Some b = search rules in
    let unnumbered : is_some b.seq_no ≡ false = search rules in
    kept_same _ e c.args.self.now c.requires.kept (batch_has e.work b brought ∙ unnumbered) more

pub mark-requires-clause-can_read : goal.mark-requires-clause-can_read
mark-requires-clause-can_read c =
    let h : List Entry = map (arc_value {X = Entry} {Z = Global}) c.args.entries.now in
    let e = c.deref.result.now in
    let kept = c.requires.kept in
    let more = one_more c.args.entries.now c.index-entries-before.result e c.args.self.now c.requires.some c.index-entries-before.is c.deref.ensures kept
    c.requires.room in
    let befores : c.deref-2.result.now ≡ numbered_from 0 (before_last h) =
    c.deref-2.ensures.value ∙ ap (λ (v : Sent). v.befores) c.self.view_is ∙ kept.befores in
    let hashes : c.deref-3.result.now ≡ map (hash_after c.args.self.now.keys (before_last h)) c.args.self.now.befores =
    c.deref-3.ensures.value ∙ ap (λ (v : Sent). v.hashes) c.self.view_is ∙ kept.hashes in (
      subst (λ (bs : List ℕ). AreAfterEntries h bs) (sym befores)
          (record {
            within = λ row l. let below = numbered_within (before_last h) row l in
                omega (arith, ap length more.last, length-append (before_last h) (e ∷ []));
          }),
      ap length befores ∙ sym (ap length hashes ∙ length-map c.args.self.now.befores (hash_after c.args.self.now.keys (before_last h))
          ∙ ap length kept.befores),
    )

pub mark-requires-clause-room : goal.mark-requires-clause-room
mark-requires-clause-room c =
    let more = one_more c.args.entries.now c.index-entries-before.result c.deref.result.now c.args.self.now c.requires.some c.index-entries-before.is
    c.deref.ensures c.requires.kept c.requires.room in
    let hashes = c.deref-3.ensures.value ∙ ap (λ (v : Sent). v.hashes) c.self.view_is in
    omega (arith, more.hashes, ap length hashes, ap (λ (v : Sent). v.room) c.self.view_is)

pub push_reserved-requires : goal.push_reserved-requires
push_reserved-requires c =
    let more = one_more c.args.entries.now c.index-entries-before.result c.deref.result.now c.args.self.now c.requires.some c.index-entries-before.is
    c.deref.ensures c.requires.kept c.requires.room in
    let few = subst (λ (v : Sent). length v.hashes < v.room) (sym c.self.view_is) more.hashes in
    omega (arith, few, c.self.invariant.0)

pub push_reserved-requires-2 : goal.push_reserved-requires-2
push_reserved-requires-2 c =
    let more = one_more c.args.entries.now c.index-entries-before.result c.deref.result.now c.args.self.now c.requires.some c.index-entries-before.is
    c.deref.ensures c.requires.kept c.requires.room in
    let few = subst (λ (v : Sent). length v.befores < v.room) (sym c.self.view_is) more.befores in
    omega (arith, few, c.self.invariant.1)

pub returns-clause-kept : goal.returns-clause-kept
returns-clause-kept c =
    let h : List Entry = map (arc_value {X = Entry} {Z = Global}) c.args.entries.now in
    let e = c.deref.result.now in
    let b = c.in-Some.batch.now in
    let sent = c.args.self.now in
    let one = one_more c.args.entries.now c.index-entries-before.result e sent c.requires.some c.index-entries-before.is c.deref.ensures c.requires.kept
    c.requires.room in
    let brought : batch_brought e.work ≡ Some b = search rules in
    let numbered : is_some b.seq_no ≡ true = search rules in
    let count : length c.args.entries.now - 1 ≡ length (before_last h) =
    omega (arith, ap length one.last, length-append (before_last h) (e ∷ []), length-map c.args.entries.now (arc_value {X = Entry} {Z = Global})) in
    let more : Sent = record {
      keys = c.self.inside.keys;
      befores = c.push_reserved-2.new.self.items;
      hashes = c.push_reserved.new.self.items;
      slots =
          c.mark.new.self.slots;
      room = c.mark.new.self.room;
    } in
    let keys : c.self.inside.keys ≡ sent.keys = ap (λ (v : Sent). v.keys) c.self.view_is in
    let has : has_seq_no e.work ≡ true = batch_has e.work b brought ∙ numbered in
    let hash : c.args.hash ≡ batch_hash sent.keys b = c.requires.hash e (sym one.last) has ∙ hash_is sent.keys e.work b brought in
    let befores : more.befores ≡ sent.befores ++ length (before_last h) ∷ [] =
    c.push_reserved-2.ensures.items ∙ ap (λ (v : Sent). v.befores ++ (length c.args.entries.now - 1) ∷ []) c.self.view_is
    ∙ ap (λ n. sent.befores ++ n ∷ []) count in
    let hashes : more.hashes ≡ sent.hashes ++ batch_hash sent.keys b ∷ [] =
    c.push_reserved.ensures.items ∙ ap (λ (v : Sent). v.hashes ++ c.args.hash ∷ []) c.self.view_is ∙ ap (λ n. sent.hashes ++ n ∷ []) hash in
    let old : c.deref-3.result.now ≡ sent.hashes = c.deref-3.ensures.value ∙ ap (λ (v : Sent). v.hashes) c.self.view_is in
    let leads : LeadsTo (sent.hashes ++ batch_hash sent.keys b ∷ []) more.slots =
    subst (λ n. LeadsTo (sent.hashes ++ n ∷ []) more.slots) hash
    (subst (λ (hs : List ℕ). LeadsTo (hs ++ c.args.hash ∷ []) more.slots) old c.mark.ensures.leads) in
    subst (λ (l : List Entry). IsSentKept l more) one.last
    (kept_more (before_last h) e b sent more c.requires.kept (brought_is e.work b brought) numbered one.within keys
    (c.mark.ensures.room ∙ ap (λ (v : Sent). v.room) c.self.view_is) befores hashes leads)
