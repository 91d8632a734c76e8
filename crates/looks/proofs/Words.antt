-- A keyword or a module word whose bytes stand right there: no word goes on behind them, so the step finds it.
use Prim.Native.Nat.{ℕ, ◌+◌, ◌≤◌, ◌<◌}
use mathlib.Core.Path.{◌≡◌, refl, sym, ap, ◌∙◌}
use mathlib.Core.Bool.{Bool, true, false, not}
use mathlib.Core.List.{List, [], ◌∷◌, ◌++◌}
use native.Mathlib.Nat.{add-zero}
use native.Mathlib.Omega.{arith}
use borrow.Author.Tests.{eqb-true, not-true}
use lib.Dec.{eqb}
use lib.ListN.{length, get_or, drop}
use lib.Seq.{drop-drop, get_or-drop}
use Rattle.marks_on_a_card.specs.Bytes.{is_letter, in_word, begins, run, every, begun}
use Rattle.marks_on_a_card.specs.Marks.{word_mark}
use Rattle.marks.specs.Step.{step_to, stepped, step_from, step_at}
use Rattle.marks_on_a_card.specs.Quick.{bytes_ahead, word_ahead}
use Rattle.marks.specs.declared.Step.{Step}
use Rattle.marks_on_a_card.proofs.Lists.{cases, not_both, and_left, and_right}
use Rattle.marks_on_a_card.proofs.Runs.{run_empty, run_first}
use Rattle.word_and_digit_looks.proofs.Looks.{bytes_stand, bytes_fit}
use Rattle.marks.proofs.Starts.{word_step, step_at_law}
use Rattle.marks_on_a_card.proofs.StartLaws.{letter_starts}

-- a run that begins with these bytes
pub run_of : (p : ℕ → Bool) (t s : List ℕ) → every p t ≡ true → begun t s ≡ true → run p s ≡ t ++ run p (drop (length t) s)
run_of p [] s w e = refl
run_of p (a ∷ t) [] w e = not_both false e refl
run_of p (a ∷ t) (b ∷ s) w e = cases (eqb a b)
    (λ y.
    let q : a ≡ b = eqb-true a b y in
    let f : begun t s ≡ true = rw y at e in
    let g : p b ≡ true = ap p (sym q) ∙ and_left (p a) (every p t) w in
    rw (g, q) (ap (λ (u : List ℕ). b ∷ u) (run_of p t s (and_right (p a) (every p t) w) f)))
    (λ y. not_both false (rw y at e) refl)

module _ (s : List ℕ) (i : ℕ) where
  abbrev on : ℕ → Step
  on = λ more. step_from (length s) more (drop (i + 1) s)

  -- a word whose first byte is a letter
  pub whole : (b : ℕ) (u : List ℕ) → is_letter b ≡ true → i < length s → run in_word (drop i s) ≡ b ∷ u → step_at s i ≡ step_to (word_mark (b ∷ u)) i (i + length (b ∷ u))
  whole b u l h w =
      let some_byte : 0 < length (run in_word (drop i s)) = omega (arith, ap length w) in
      let first : get_or s i 0 ≡ b = ap (λ (n : ℕ). get_or s n 0) (sym (add-zero i)) ∙ sym (get_or-drop i s 0 0) ∙ sym (run_first in_word (drop i s) some_byte) ∙ ap (λ (v : List ℕ). get_or v 0 0) w in
      let m : is_letter (get_or s i 0) ≡ true = ap is_letter first ∙ l in
      step_at_law s i h ∙ ap (λ x. stepped i x on) (letter_starts (get_or s i 0) (drop (i + 1) s) m)
      ∙ word_step s i h m on (word_mark (b ∷ u)) (ap word_mark w) ∙ ap (λ (v : List ℕ). step_to (word_mark (b ∷ u)) i (i + length v)) w

  module _ (b : ℕ) (t : List ℕ) (e : word_ahead (b ∷ t) s i ≡ true) where
    there : bytes_ahead (b ∷ t) s i ≡ true
    there = and_left (bytes_ahead (b ∷ t) s i) (not (begins in_word (drop (i + length (b ∷ t)) s))) e

    pub word_fits : i + length (b ∷ t) ≤ length s
    word_fits = bytes_fit (b ∷ t) s i there

    over : begins in_word (drop (length (b ∷ t)) (drop i s)) ≡ false
    over =
        ap (begins in_word) (drop-drop (length (b ∷ t)) i s)
        ∙ not-true (begins in_word (drop (i + length (b ∷ t)) s)) (and_right (bytes_ahead (b ∷ t) s i) (not (begins in_word (drop (i + length (b ∷ t)) s))) e)

    pub keyword_step : every in_word (b ∷ t) ≡ true → is_letter b ≡ true → step_at s i ≡ step_to (word_mark (b ∷ t ++ [])) i (i + length (b ∷ t ++ []))
    keyword_step w l =
        whole b (t ++ []) l (omega (arith, word_fits))
        (run_of in_word (b ∷ t) (drop i s) w (bytes_stand (b ∷ t) s i there) ∙ ap (λ (u : List ℕ). b ∷ t ++ u) (run_empty in_word (drop (length (b ∷ t)) (drop i s)) over))
