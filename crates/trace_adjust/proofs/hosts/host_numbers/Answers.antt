use Rattle.std.proofs.Common.{◌≡◌, ◌+◌, ◌<◌, ◌∙◌, ◌++◌, ◌∷◌, ℕ, List, [], cond, length, take, sym, ap, subst, rules}
use Rattle.std.specs.Prelude.{Some, None, unwrap_or, slice_get}
use Rattle.std.specs.Option.{option_or}
use Rattle.std.specs.Ordering.{nat_cmp}
use Rattle.std.specs.BTreeMap.{get}
use Rattle.std.proofs.lemmas.List.{take_all}
use Rattle.jaeger_model.specs.Texts.{same_text, text_cmp}
use Rattle.trace_model.specs.Adjusting.{host_of}
use Rattle.trace_adjust.specs.Hosts.{hosts_of, number_in, AreHostNumbers, AreKept}
use Rattle.trace_adjust.proofs.HostNumbers.{table_more, numbers_more, kept_more, kept_put, own_number, key_read, fresh_is, number_again, number_stays}
use Rattle.trace_adjust.proofs.HostNumbers.{number_given, table_given}
use Rattle.trace_adjust.proofs.hosts.host_numbers.Goals as goal
use Rattle.trace_adjust.proofs.hosts.host_numbers.Goals.{in-Some}
use Rattle.trace_adjust.proofs.hosts.host_numbers.Goals.{in-None+in_ok-fresh-in-None+in_ok-host-in-None+in_ok-number-in-None+in_ok-store_by_key-in-None}

pub loop-index-preserved : goal.loop-index-preserved
loop-index-preserved c =
    let ps = c.args.trace.now in
    let i = c.loop-index.index in
    let p = c.index-trace-index.result in
    let l : i < length ps = search rules in
    let here = c.index-trace-index.is in
    let before = hosts_of (take i ps) in
    let host = host_of p in
    let keys = c.args.process_keys.now in
    let key : c.copied-key.result ≡ slice_get keys i = c.copied-key.ensures ∙ key_read keys i c.get.result c.get.ensures.lookup in
    elim c.match-place_by_key.branch [
      | in-None+in_ok-fresh-in-None+in_ok-host-in-None+in_ok-number-in-None+in_ok-store_by_key-in-None w ↦
          let old = get text_cmp c.loop-index.numbers in
          let new = get text_cmp w.number_of.new.numbers in
          let same = w.in_ok-host-in-None.ensures in
          let fresh = w.in_ok-fresh-in-None.fresh in
          let long : length before ≡ fresh = fresh_is ps i p l here ∙ sym w.in_ok-fresh-in-None.ensures in
          let put : (t : List ℕ) → new t ≡ option_or (old t) (cond (same_text t host) (Some fresh) None) =
          λ t. w.in_ok-number-in-None.ensures.numbers t ∙ ap (λ h. option_or (old t) (cond (same_text t h) (Some fresh) None)) same in
          let given = number_given before host (old host) w.in_ok-number-in-None.number fresh (c.loop-index.invariant.table host)
          (w.in_ok-number-in-None.ensures.number ∙ ap (λ h. unwrap_or (old h) fresh) same) long in
          let known : number_in (before ++ host ∷ []) host ≡ Some c.match-place_by_key.number = given ∙ ap Some (sym w.number-is) in
          record {
            table =
                λ t. ap (λ m. get text_cmp m t) w.numbers-is
                ∙ table_more ps i p l here new (table_given before host old new fresh c.loop-index.invariant.table long put) t;
            hosts =
                numbers_more ps i p l here c.loop-index.hosts.items c.push.new.self.items c.match-place_by_key.number c.loop-index.invariant.hosts
                c.in_ok-push.ensures.items known;
            kept = subst (λ m. AreKept ps keys (i + 1) (get nat_cmp m)) (sym w.kept-is)
                (kept_put ps i p l here keys c.copied-key.result w.in_ok-number-in-None.number (get nat_cmp c.loop-index.kept)
                (get nat_cmp w.store_by_key.new.places) key w.in_ok-store_by_key-in-None.ensures given c.loop-index.invariant.kept);
          }
      | in-Some w ↦
          let own : number_in before host ≡ Some c.match-place_by_key.number =
          own_number ps i p l here keys c.copied-key.result (get nat_cmp c.loop-index.kept)
          c.match-place_by_key.number c.requires key c.loop-index.invariant.kept (sym w.in-Some.ensures ∙ ap Some (sym w.number-is)) in
          let known : number_in (before ++ host ∷ []) host ≡ Some c.match-place_by_key.number =
          number_stays before (host ∷ []) host c.match-place_by_key.number own in
          record {
            table =
                λ t. ap (λ m. get text_cmp m t) w.numbers-is
                ∙ table_more ps i p l here (get text_cmp c.loop-index.numbers)
                (λ u. c.loop-index.invariant.table u ∙ sym (number_again before host c.match-place_by_key.number own u)) t;
            hosts =
                numbers_more ps i p l here c.loop-index.hosts.items c.push.new.self.items c.match-place_by_key.number c.loop-index.invariant.hosts
                c.in_ok-push.ensures.items known;
            kept =
                subst (λ m. AreKept ps keys (i + 1) (get nat_cmp m)) (sym w.kept-is)
                (kept_more ps i p l here keys (get nat_cmp c.loop-index.kept) c.loop-index.invariant.kept);
          }
    ]

pub returns : goal.returns
returns c =
    subst (λ ps. AreHostNumbers (hosts_of c.args.trace.now) ps c.loop-index.hosts.items) (take_all c.loop-index.index c.args.trace.now c.loop-index-test.false)
    c.loop-index.invariant.hosts
