-- Marks whose bytes stand right there: each byte says what the step finds at its place. Assumes nothing.
use Prim.Native.Nat.{ℕ, ◌+◌, ◌≤◌, ◌<◌}
use mathlib.Core.Path.{◌≡◌, refl, sym, ap, ◌∙◌}
use mathlib.Core.Bool.{Bool, true, false, ◌&&◌}
use mathlib.Core.List.{List, ◌∷◌}
use native.Mathlib.Decide.{dec_lt}
use native.Mathlib.Omega.{arith}
use lib.Dec.{eqb, leb}
use borrow.Author.Tests.{eqb-true}
use lib.ListN.{length, get_or, drop, drop_of_length-le}
use Rattle.marks_on_a_card.specs.Bytes.{is_digit, in_word, begins, is_alone, begun}
use Rattle.marks_on_a_card.specs.Kinds.{k_seat}
use Rattle.marks.specs.Step.{step_at}
use Rattle.marks.specs.Parts.{bare_of, valued_of}
use Rattle.std.specs.Prelude.{Some}
use Rattle.marks_on_a_card.specs.Quick.{seat_ahead}
use Rattle.marks_on_a_card.proofs.Lists.{cases, not_both, and_right, drop_at}
use Rattle.marks_on_a_card.proofs.Runs.{begins_at}
use Rattle.looks.proofs.Quick.{sign_at, sign_step, seat_at, seat_step}

-- as the look says
pub here : (s : List ℕ) (i : ℕ) (t : List ℕ) {b : Bool} → b ≡ (leb i (length s) && begun t (drop i s)) → b ≡ true → begun t (drop i s) ≡ true
here s i t e f = and_right (leb i (length s)) (begun t (drop i s)) (sym e ∙ f)

-- the first of some bytes, and the others behind it
pub record Front (b : ℕ) (t s : List ℕ) (i : ℕ) : Type 0 where
  pub place : i < length s
  pub byte : get_or s i 0 ≡ b
  pub others : begun t (drop (i + 1) s) ≡ true

pub front : (b : ℕ) (t s : List ℕ) (i : ℕ) → begun (b ∷ t) (drop i s) ≡ true → Front b t s i
front b t s i e = go (dec_lt i (length s))
  where
    there : i < length s → Front b t s i
    there h =
        let f : begun (b ∷ t) (get_or s i 0 ∷ drop (i + 1) s) ≡ true = rw (drop_at s i h) at e in
        cases (eqb b (get_or s i 0))
        (λ y. record { place = h; byte = sym (eqb-true b (get_or s i 0) y); others = rw y at f })
        (λ n. not_both false (rw n at f) refl)

    go : Dec (i < length s) → Front b t s i
    go (yes h) = there h
    go (no h) = let l : length s ≤ i = omega arith in not_both (begun (b ∷ t) (drop i s)) e (ap (begun (b ∷ t)) (drop_of_length-le s l))

-- a sign by its byte
pub sign_by : (s : List ℕ) (b i j : ℕ) → j ≡ i + 1 → is_alone b ≡ true → eqb b b ≡ true → i < length s → get_or s i 0 ≡ b → step_at s i ≡ bare_of b i j
sign_by s b i j to y r h e = rw to (sign_step s i b (sign_at b s i h ∙ rw (e, r, y)))

-- `s1`, and no word goes on behind it
pub word_by : (s : List ℕ) (i : ℕ) → i < length s → get_or s i 0 ≡ 115 → i + 1 < length s → get_or s (i + 1) 0 ≡ 49 → i + 1 + 1 < length s → in_word (get_or s (i + 1 + 1) 0) ≡ false
    → step_at s i ≡ valued_of k_seat 1 i (i + 1 + 1)
word_by s i h e g d l w =
    let digit : begins is_digit (drop (i + 1) s) ≡ true = begins_at is_digit s (i + 1) g ∙ rw d in
    let over : begins in_word (drop (i + 1 + 1) s) ≡ false = begins_at in_word s (i + 1 + 1) l ∙ w in
    let v : seat_ahead (drop i s) ≡ Some 1 = seat_at s i h ∙ rw (e, digit, over, d) in
    let to : i + 1 + 1 ≡ i + 2 = omega arith in
    rw to (seat_step s i 1 (sym v))
