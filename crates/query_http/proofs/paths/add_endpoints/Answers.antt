use Rattle.std.proofs.Common.{◌≡◌, ℕ, List, None, Result, Ok, Err, IfErr, IsErrAnd, refl}
use Rattle.matchit.proofs.OnLiterals.{matchit_on_literals}
use Rattle.matchit.specs.Rows.{RowsOf}
use Rattle.matchit.specs.Router.{RouteOf, Refused, nearest}
use Rattle.matchit.specs.declared.error.InsertError.{InsertError}
use Rattle.matchit.specs.declared.error.InsertError.TheVariants.{Conflict, OutOfMemory, InvalidParamSegment, InvalidParam, InvalidCatchAll}
use Rattle.query_http.specs.Paths.{trace_pattern, names_pattern}
use Rattle.std.specs.Prelude.{codes}
use Rattle.query_http.proofs.paths.add_endpoints.Goals as goal

-- adding a route that conflicts with none fails only if memory ran out
module _ {T : Type 0} where
  only_memory : (p : List ℕ) (rows : RowsOf (RouteOf T)) (e : InsertError) → nearest p rows ≡ None → Refused p rows e → e ≡ OutOfMemory
  only_memory p rows (Conflict with) none (route, there, text) = search (none, there)
  only_memory p rows OutOfMemory none refused = refl
  only_memory p rows InvalidParamSegment none refused = elim refused [ ]
  only_memory p rows InvalidParam none refused = elim refused [ ]
  only_memory p rows InvalidCatchAll none refused = elim refused [ ]

-- the error is returned unchanged
module _ {X : Type 0} where
  handed_on : (result : Result X InsertError) (e : InsertError) → IsErrAnd result (λ x. x ≡ e) → e ≡ OutOfMemory → IfErr result (λ x. x ≡ OutOfMemory)
  handed_on (Ok x) e is memory = tt
  handed_on (Err x) e is memory = search (is, memory)

pub returns-clause-found : goal.returns-clause-found
unfolding matchit_on_literals
returns-clause-found c =
    let a = c.in_ok-insert.ensures in
    let b = c.in_ok-insert-2.ensures in
    let d = c.in_ok-insert-3.ensures in
    let e = c.in_ok-insert-4.ensures in
    let f = c.in_ok-insert-5.ensures in
    let g = c.in_ok-insert-6.ensures in
    rw (g.1, f.1, e.1, d.1, b.1, a.1, c.requires) refl

pub returns-in_err-insert-clause-memory : goal.returns-in_err-insert-clause-memory
unfolding matchit_on_literals
returns-in_err-insert-clause-memory c =
    let none : nearest (codes "/api/traces") c.args.router.now ≡ None = rw (c.requires) refl in
    let memory = only_memory (codes "/api/traces") c.args.router.now c.in_err-insert.field-0.0 none c.in_err-insert.ensures.1 in
    handed_on c.from_residual.result c.in_err-insert.field-0.0 c.from_residual.ensures.1 memory

pub returns-in_err-insert-2-clause-memory : goal.returns-in_err-insert-2-clause-memory
unfolding matchit_on_literals
returns-in_err-insert-2-clause-memory c =
    let none : nearest trace_pattern c.insert.new.self ≡ None = rw (c.in_ok-insert.ensures.1, c.requires) refl in
    let memory = only_memory trace_pattern c.insert.new.self c.in_err-insert-2.field-0.0 none c.in_err-insert-2.ensures.1 in
    handed_on c.from_residual-in_err-insert-2.result c.in_err-insert-2.field-0.0 c.from_residual-in_err-insert-2.ensures.1 memory

pub returns-in_err-insert-3-clause-memory : goal.returns-in_err-insert-3-clause-memory
unfolding matchit_on_literals
returns-in_err-insert-3-clause-memory c =
    let none : nearest (codes "/api/services") c.insert-2.new.self ≡ None = rw (c.in_ok-insert-2.ensures.1, c.in_ok-insert.ensures.1, c.requires) refl in
    let memory = only_memory (codes "/api/services") c.insert-2.new.self c.in_err-insert-3.field-0.0 none c.in_err-insert-3.ensures.1 in
    handed_on c.from_residual-in_err-insert-3.result c.in_err-insert-3.field-0.0 c.from_residual-in_err-insert-3.ensures.1 memory

pub returns-in_err-insert-4-clause-memory : goal.returns-in_err-insert-4-clause-memory
unfolding matchit_on_literals
returns-in_err-insert-4-clause-memory c =
    let none : nearest names_pattern c.insert-3.new.self ≡ None =
    rw (c.in_ok-insert-3.ensures.1, c.in_ok-insert-2.ensures.1, c.in_ok-insert.ensures.1, c.requires) refl in
    let memory = only_memory names_pattern c.insert-3.new.self c.in_err-insert-4.field-0.0 none c.in_err-insert-4.ensures.1 in
    handed_on c.from_residual-in_err-insert-4.result c.in_err-insert-4.field-0.0 c.from_residual-in_err-insert-4.ensures.1 memory

pub returns-in_err-insert-5-clause-memory : goal.returns-in_err-insert-5-clause-memory
unfolding matchit_on_literals
returns-in_err-insert-5-clause-memory c =
    let none : nearest (codes "/api/operations") c.insert-4.new.self ≡ None =
    rw (c.in_ok-insert-4.ensures.1, c.in_ok-insert-3.ensures.1, c.in_ok-insert-2.ensures.1, c.in_ok-insert.ensures.1, c.requires) refl in
    let memory = only_memory (codes "/api/operations") c.insert-4.new.self c.in_err-insert-5.field-0.0 none c.in_err-insert-5.ensures.1 in
    handed_on c.from_residual-in_err-insert-5.result c.in_err-insert-5.field-0.0 c.from_residual-in_err-insert-5.ensures.1 memory

pub returns-in_err-insert-6-clause-memory : goal.returns-in_err-insert-6-clause-memory
unfolding matchit_on_literals
returns-in_err-insert-6-clause-memory c =
    let none : nearest (codes "/api/dependencies") c.insert-5.new.self ≡ None =
    rw (
      c.in_ok-insert-5.ensures.1,
      c.in_ok-insert-4.ensures.1,
      c.in_ok-insert-3.ensures.1,
      c.in_ok-insert-2.ensures.1,
      c.in_ok-insert.ensures.1,
      c.requires,
    ) refl in
    let memory = only_memory (codes "/api/dependencies") c.insert-5.new.self c.in_err-insert-6.field-0.0 none c.in_err-insert-6.ensures.1 in
    handed_on c.from_residual-in_err-insert-6.result c.in_err-insert-6.field-0.0 c.from_residual-in_err-insert-6.ensures.1 memory
