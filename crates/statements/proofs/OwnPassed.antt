-- `]s1=` whose bytes stand right there, passed mark by mark. Assumes nothing.
use Prim.Native.Nat.{ℕ, ◌+◌, ◌<◌}
use mathlib.Core.Path.{◌≡◌, refl, sym, ap}
use mathlib.Core.Bool.{true}
use mathlib.Core.List.{List, [], ◌∷◌}
use native.Mathlib.Omega.{arith}
use lib.ListN.{length, drop}
use Rattle.card.specs.Text.{bytes}
use Rattle.marks_on_a_card.specs.Bytes.{in_word, begun}
use Rattle.marks_on_a_card.specs.Kinds.{k_seat, kind}
use Rattle.marks.specs.Parts.{bare_of, valued_of}
use Rattle.reading.specs.Reader.{line}
use Rattle.std.specs.Prelude.{Ok}
use Rattle.late.specs.declared.state.State.{State as Carried}
use Rattle.late.specs.State.{late_in, after}
use Rattle.parts.specs.Parts.{from, Due, Sure, items_in, dues_in, marks_due, LineRead}
use Rattle.statements.specs.StatementHead.{statement_due, OwnFrom}
use Rattle.parts.proofs.Steps.{next_at}
use Rattle.parts.proofs.Lines.{run_end, run_more}
use Rattle.parts.proofs.Front.{Front, front, sign_by, word_by}

-- before a statement's own state
module _ (s : List ℕ) (i : ℕ) (e : begun (bytes "]s1=") (drop i s) ≡ true) where
  own_bracket : Front 93 (bytes "s1=") s i
  own_bracket = front 93 (bytes "s1=") s i e

  own_word : Front 115 (bytes "1=") s (i + 1)
  own_word = front 115 (bytes "1=") s (i + 1) own_bracket.others

  own_digit : Front 49 (bytes "=") s (i + 1 + 1)
  own_digit = front 49 (bytes "=") s (i + 1 + 1) own_word.others

  own_equal : Front 61 [] s (i + 1 + 1 + 1)
  own_equal = front 61 [] s (i + 1 + 1 + 1) own_digit.others

  pub own_place : i + 3 < length s
  own_place = omega (arith, own_equal.place)

  pub own_passed : (state : Carried) → OwnFrom s i (late_in state) (after state (Ok (i + 4)))
  own_passed state = record { answers = passed }
    where
      passed : (run : List Due) → Sure run → marks_due statement_due ≡ marks_due run → (n : ℕ) → LineRead s (late_in state) (dues_in run) (line (items_in run) (from s i n)) (after state (Ok (i + 4)))
      passed run h dues n =
          let to : i + 1 + 1 + 1 + 1 ≡ i + 4 = omega arith in
          let p1 = i + 1 in
          let p3 = i + 1 + 1 + 1 in
          let last : List (ℕ × ℕ) = (kind "=", 0) ∷ [] in
          run_end s n (i + 4) (late_in state) _
          (run_more s n p3 (late_in state) (bare_of 61 p3 (i + 4)) (next_at s p3 (bare_of 61 p3 (i + 4)) (sym (sign_by s 61 p3 (i + 4) (sym to) refl refl own_equal.place own_equal.byte))) _ (kind "=") 0 []
          (run_more s n p1 (late_in state) (valued_of k_seat 1 p1 p3) (next_at s p1 (valued_of k_seat 1 p1 p3) (sym (word_by s p1 own_word.place own_word.byte own_digit.place own_digit.byte own_equal.place (ap in_word own_equal.byte)))) _ k_seat 1 last
          (run_more s n i (late_in state) (bare_of 93 i p1) (next_at s i (bare_of 93 i p1) (sym (sign_by s 93 i p1 refl refl refl own_bracket.place own_bracket.byte))) _ (kind "]") 0 ((k_seat, 1) ∷ last)
          (record { rest = run; sure = h; left = dues; answered = λ r y. y }) refl) refl) refl) state refl
