-- Seats that are made one after the other.
use Rattle.std.proofs.Common.{◌≡◌, ℕ, ◌+◌, List, [], ◌∷◌, ◌++◌, map, ap, sym, subst, ◌∙◌, arith}
use Rattle.std.specs.List.{All, range_with_len}
use Rattle.std.proofs.lemmas.List.Elements.{All-push}
use Rattle.std.proofs.lemmas.List.{map-append, map-id}
use Rattle.atomic_table.specs.Seated.{TableId}
use Rattle.intake.specs.Seats.{SeatValue, IsNewSeat}
use Rattle.std.proofs.lemmas.List.FromFn.{map-range_with_len_more}

range-next : (n : ℕ) → range_with_len 0 (n + 1) ≡ range_with_len 0 n ++ n ∷ []
range-next n =
    sym (map-id (range_with_len 0 (n + 1))) ∙ map-range_with_len_more (λ k. k) 0 n n (omega arith) ∙ ap (λ l. l ++ n ∷ []) (map-id (range_with_len 0 n))

-- one more seat was made: `old` was the desk's name, which is `here` and `there` now
pub seated-on : (old here there : TableId) (room capacity number : ℕ) (made made' : List SeatValue) (s : SeatValue)
    → here ≡ old → there ≡ here → room ≡ capacity → All (IsNewSeat old capacity) made → map (λ (z : SeatValue). z.seat) made ≡ range_with_len 0 number
    → s.seat ≡ number → IsNewSeat there room s → made' ≡ made ++ s ∷ []
    → All (IsNewSeat here capacity) made' × (map (λ (z : SeatValue). z.seat) made' ≡ range_with_len 0 (number + 1))
seated-on old here there room capacity number made made' s same its size each numbers seat new grown =
    let before : All (IsNewSeat here capacity) made = subst (λ (d : TableId). All (IsNewSeat d capacity) made) (sym same) each in
    let one : IsNewSeat here capacity s = (new.0 ∙ its, new.1 ∙ size, new.2, new.3) in
    let P : List SeatValue → Type 0 = λ z. All (IsNewSeat here capacity) z in
    let F : SeatValue → ℕ = λ z. z.seat in (
      subst P (sym grown) (All-push (IsNewSeat here capacity) made s before one),
      ap (map F) grown ∙ (map-append F made (s ∷ [])
          ∙ (ap (λ (l : List ℕ). l ++ s.seat ∷ []) numbers ∙ (ap (λ n. range_with_len 0 number ++ n ∷ []) seat ∙ sym (range-next number)))),
    )
