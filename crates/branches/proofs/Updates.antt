-- `:(s1'=` whose bytes stand right there, passed mark by mark. Assumes nothing.
use Prim.Native.Nat.{ℕ, ◌+◌, ◌<◌}
use mathlib.Core.Path.{◌≡◌, refl, sym, ap}
use mathlib.Core.Bool.{true}
use mathlib.Core.List.{List, [], ◌∷◌}
use native.Mathlib.Omega.{arith}
use lib.ListN.{length, drop}
use Rattle.card.specs.Text.{bytes}
use Rattle.marks_on_a_card.specs.Bytes.{in_word, begun}
use Rattle.marks_on_a_card.specs.Kinds.{k_seat, kind}
use Rattle.marks.specs.Parts.{bare_of, valued_of}
use Rattle.reading.specs.Reader.{line}
use Rattle.late.specs.declared.state.State.{State as Carried}
use Rattle.late.specs.State.{late_in, after}
use Rattle.std.specs.Prelude.{Ok}
use Rattle.parts.specs.Parts.{from, Due, Sure, items_in, dues_in, marks_due, LineRead}
use Rattle.branches.specs.Branches.{update_due, UpdateFrom}
use Rattle.parts.proofs.Steps.{next_at}
use Rattle.parts.proofs.Lines.{run_end, run_more}
use Rattle.parts.proofs.Front.{Front, front, sign_by, word_by}

-- between a branch's weight and its state
module _ (s : List ℕ) (i : ℕ) (e : begun (bytes ":(s1'=") (drop i s) ≡ true) where
  at_colon : Front 58 (bytes "(s1'=") s i
  at_colon = front 58 (bytes "(s1'=") s i e

  at_open : Front 40 (bytes "s1'=") s (i + 1)
  at_open = front 40 (bytes "s1'=") s (i + 1) at_colon.others

  at_word : Front 115 (bytes "1'=") s (i + 1 + 1)
  at_word = front 115 (bytes "1'=") s (i + 1 + 1) at_open.others

  at_digit : Front 49 (bytes "'=") s (i + 1 + 1 + 1)
  at_digit = front 49 (bytes "'=") s (i + 1 + 1 + 1) at_word.others

  at_prime : Front 39 (bytes "=") s (i + 1 + 1 + 1 + 1)
  at_prime = front 39 (bytes "=") s (i + 1 + 1 + 1 + 1) at_digit.others

  at_equal : Front 61 [] s (i + 1 + 1 + 1 + 1 + 1)
  at_equal = front 61 [] s (i + 1 + 1 + 1 + 1 + 1) at_prime.others

  pub update_place : i + 5 < length s
  update_place = omega (arith, at_equal.place)

  pub update_passed : (state : Carried) → UpdateFrom s i (late_in state) (after state (Ok (i + 6)))
  update_passed state = record { answers = passed }
    where
      passed : (run : List Due) → Sure run → marks_due update_due ≡ marks_due run → (n : ℕ) → LineRead s (late_in state) (dues_in run) (line (items_in run) (from s i n)) (after state (Ok (i + 6)))
      passed run h dues n =
          let to : i + 1 + 1 + 1 + 1 + 1 + 1 ≡ i + 6 = omega arith in
          let p2 = i + 1 + 1 in
          let p4 = i + 1 + 1 + 1 + 1 in
          let p5 = i + 1 + 1 + 1 + 1 + 1 in
          let last : List (ℕ × ℕ) = (kind "=", 0) ∷ [] in
          let two : List (ℕ × ℕ) = (kind "'", 0) ∷ last in
          let three : List (ℕ × ℕ) = (k_seat, 1) ∷ two in
          run_end s n (i + 6) (late_in state) _
          (run_more s n p5 (late_in state) (bare_of 61 p5 (i + 6)) (next_at s p5 (bare_of 61 p5 (i + 6)) (sym (sign_by s 61 p5 (i + 6) (sym to) refl refl at_equal.place at_equal.byte))) _ (kind "=") 0 []
          (run_more s n p4 (late_in state) (bare_of 39 p4 p5) (next_at s p4 (bare_of 39 p4 p5) (sym (sign_by s 39 p4 p5 refl refl refl at_prime.place at_prime.byte))) _ (kind "'") 0 last
          (run_more s n p2 (late_in state) (valued_of k_seat 1 p2 p4) (next_at s p2 (valued_of k_seat 1 p2 p4) (sym (word_by s p2 at_word.place at_word.byte at_digit.place at_digit.byte at_prime.place (ap in_word at_prime.byte)))) _ k_seat 1 two
          (run_more s n (i + 1) (late_in state) (bare_of 40 (i + 1) p2) (next_at s (i + 1) (bare_of 40 (i + 1) p2) (sym (sign_by s 40 (i + 1) p2 refl refl refl at_open.place at_open.byte))) _ (kind "(") 0 three
          (run_more s n i (late_in state) (bare_of 58 i (i + 1)) (next_at s i (bare_of 58 i (i + 1)) (sym (sign_by s 58 i (i + 1) refl refl refl at_colon.place at_colon.byte))) _ (kind ":") 0 ((kind "(", 0) ∷ three)
          (record { rest = run; sure = h; left = dues; answered = λ r y. y }) refl) refl) refl) refl) refl) state refl
