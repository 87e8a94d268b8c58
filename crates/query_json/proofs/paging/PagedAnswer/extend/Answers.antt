use Rattle.std.proofs.Common.{◌≡◌, ◌+◌, ◌≤◌, ◌++◌, ◌∙◌, ℕ, List, None, false, length, length-append, ap, inl, inr, sym, append_assoc, arith}
use Rattle.std.specs.Prelude.{unwrap_or}
use Rattle.query_json.specs.declared.paging.PagedAnswer.{PagedAnswer}
use Rattle.query_json.specs.declared.paging.TheConstants.{PART_BYTES}
use Rattle.json_page.specs.declared.page.Page.{Page}
use Rattle.query_json.specs.AnswerPages.{HasRoom, IsReady, left_of}
use Rattle.query_json.specs.Pieces.{runs_of}
use Rattle.query_json.specs.Runs.{Fills, left_at, runs_text}
use Rattle.query_json.proofs.Runs.{left_none, open_still}
use Rattle.query_json.proofs.paging.PagedAnswer.extend.Goals as goal

module _ (p : PagedAnswer) (new : Page) (to : List (List (List ℕ))) (ready : IsReady p) (later : p.later ≡ None)
    (f : Fills PART_BYTES p.page new (left_of p) to) where
  -- without a page for later parts, pieces are written to the page of the part
  same_page : (q : Page) → unwrap_or p.later q ≡ q
  same_page q = ap (λ o. unwrap_or o q) later

  was_open : p.page.full ≡ false
  was_open = sym (ap (λ (q : Page). q.full) (same_page p.page)) ∙ ready.open_page

  has_room : (h : HasRoom p) → PART_BYTES + h.most ≤ p.page.bytes.room
  has_room h = omega (arith, h.room, ap (λ (q : Page). q.bytes.room) (same_page p.page))

  stays_open : new.full ≡ false
  stays_open = elim ready.fits [
    | inl none ↦
        let empty : length f.bytes ≡ 0 = omega (arith, ap (λ rs. length (runs_text rs)) none, ap length f.text, length-append f.bytes (runs_text to)) in
        open_still f.puts was_open empty
    | inr h ↦ f.room h.most h.fit (has_room h) was_open
  ]

  -- the number of bytes that were written
  put_count : length new.bytes.items ≡ length p.page.bytes.items + length f.bytes
  put_count = omega (arith, ap length (f.puts.adds.behind stays_open), length-append p.page.bytes.items f.bytes)

  left_count : p.rest_len ≡ length f.bytes + length (runs_text to)
  left_count = omega (arith, ready.rest_len, ap length f.text, length-append f.bytes (runs_text to))

pub overflow_sub-self : goal.overflow_sub-self
overflow_sub-self c =
    let p = c.args.self.now in
    let put = put_count p c.fill-self.new.page _ c.requires.ready c.requires.later c.fill-self.ensures.fills in
    omega (arith, put, c.len.ensures, c.len-before.ensures)

pub overflow_sub-self-2 : goal.overflow_sub-self-2
overflow_sub-self-2 c =
    let p = c.args.self.now in
    let put = put_count p c.fill-self.new.page _ c.requires.ready c.requires.later c.fill-self.ensures.fills in
    let left = left_count p c.fill-self.new.page _ c.requires.ready c.requires.later c.fill-self.ensures.fills in
    omega (arith, put, left, c.len.ensures, c.len-before.ensures)

pub returns-clause-ready : goal.returns-clause-ready
returns-clause-ready c =
    let p = c.args.self.now in
    let new = c.fill-self.new.page in
    let f = c.fill-self.ensures.fills in
    let put = put_count p new _ c.requires.ready c.requires.later f in
    let left = left_count p new _ c.requires.ready c.requires.later f in
    let same : unwrap_or p.later new ≡ new = same_page p new _ c.requires.ready c.requires.later f new in
    record {
      open_page = ap (λ (q : Page). q.full) same ∙ stays_open p new _ c.requires.ready c.requires.later f;
      writable = c.requires.ready.writable;
      fits = elim c.requires.ready.fits [
        | inl none ↦ inl (f.ended none)
        | inr h ↦ inr (record {
          most = h.most;
          fit = f.fits h.most h.fit;
          room = omega (arith, has_room p new _ c.requires.ready c.requires.later f h, f.puts.adds.room, ap (λ (q : Page). q.bytes.room) same);
        })
      ];
      rest_len = omega (arith, put, left, c.len.ensures, c.len-before.ensures);
    }

pub returns-clause-gives : goal.returns-clause-gives
returns-clause-gives c =
    let p = c.args.self.now in
    let f = c.fill-self.ensures.fills in
    let rest = runs_text (left_at (runs_of p.items) c.fill-self.result.run c.fill-self.result.piece) in
    ap (λ l. l ++ rest) (f.puts.adds.behind (stays_open p c.fill-self.new.page _ c.requires.ready c.requires.later f))
    ∙ append_assoc p.page.bytes.items f.bytes rest
    ∙ ap (λ l. p.page.bytes.items ++ l) (sym f.text)

pub returns-clause-some : goal.returns-clause-some
returns-clause-some c = λ empty.
    let p = c.args.self.now in
    elim (c.fill-self.ensures.enough (stays_open p c.fill-self.new.page _ c.requires.ready c.requires.later c.fill-self.ensures.fills)) [
      | inl long ↦ absurd (omega (arith, long, ap length empty))
      | inr over ↦ ap runs_text (left_none (runs_of p.items) c.fill-self.result.run c.fill-self.result.piece over)
    ]
