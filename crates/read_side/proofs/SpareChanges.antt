-- A keeper whose writer has got a change that changes nothing.
use Rattle.std.proofs.Common.{◌≡◌, List, [], ◌++◌, Option, Some, refl, sym, ◌∙◌, subst}
use Rattle.std.specs.Option.{IsSome}
use Rattle.read_side.specs.CountedLogs.{LogBook}
use Rattle.trace_model.specs.declared.entry.Entry.{Entry}
use Rattle.read_side.specs.Copies.{AddedEntry, Follow, entries_of}
use Rattle.read_side.specs.Keepers.{of_option}

module _ {W : Type 0} (book : LogBook) (shown : W → List Entry) (waits : W → List (Option AddedEntry)) (before after : Option W) (old new : W)
    (unsent : List (Option AddedEntry)) (entries : List Entry)
    (was : before ≡ Some old) (is : after ≡ Some new) (same : shown new ≡ shown old) where
  pub has_writer : IsSome after
  has_writer = subst IsSome (sym is) refl

  pub has_entries : entries_of (waits new ++ unsent) ≡ entries_of (waits old ++ unsent)
      → entries ≡ of_option [] shown before ++ entries_of (of_option [] waits before ++ unsent)
      → entries ≡ of_option [] shown after ++ entries_of (of_option [] waits after ++ unsent)
  has_entries kept all =
      subst (λ (o : Option W). entries ≡ of_option [] shown before ++ entries_of (of_option [] waits before ++ unsent)
      → entries ≡ of_option [] shown o ++ entries_of (of_option [] waits o ++ unsent)) (sym is)
      (λ e. subst (λ (o : Option W). entries ≡ of_option [] shown o ++ entries_of (of_option [] waits o ++ unsent)) was e ∙ sym (λ j. same j ++ kept j)) all

  pub follows : ((xs : List Entry) → Follow book xs (waits old ++ unsent) → Follow book xs (waits new ++ unsent))
      → Follow book (of_option [] shown before) (of_option [] waits before ++ unsent)
      → Follow book (of_option [] shown after) (of_option [] waits after ++ unsent)
  follows kept all =
      subst (λ (o : Option W). Follow book (of_option [] shown o) (of_option [] waits o ++ unsent)) (sym is)
      (subst (λ (xs : List Entry). Follow book xs (waits new ++ unsent)) (sym same)
      (kept (shown old) (subst (λ (o : Option W). Follow book (of_option [] shown o) (of_option [] waits o ++ unsent)) was all)))
