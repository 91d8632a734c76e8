-- What a step of the cursor says of the marks from its place on, for a part of a card that begins at any place o of it. A step and
-- the list of marks walk over the same bytes, so they meet at the same mark.
use Prim.Native.Nat.{ℕ, zero, suc, ◌+◌, ◌-◌, ◌≤◌, ◌<◌}
use mathlib.Core.Path.{◌≡◌, refl, sym, ap, ◌∙◌}
use mathlib.Core.Bool.{Bool, true, false, ◌&&◌}
use mathlib.Core.List.{List, [], ◌∷◌}
use mathlib.Core.Option.{Option, none, some}
use native.Mathlib.Nat.{zero-add}
use native.Mathlib.Omega.{arith}
use lib.Dec.{eqb, leb}
use borrow.Author.Tests.{leb-true, leb-false}
use lib.ListN.{length, drop, length-drop, drop_of_length-le}
use lib.Seq.{drop-drop, drop-length}
use Rattle.card.specs.Limits.{further_digits, number_digits}
use Rattle.card.specs.Text.{when◌then◌else◌}
use Rattle.marks_on_a_card.specs.Bytes.{not_lf, run, begins, is_digit, in_word, is_letter, is_blank, is_sign}
use Rattle.marks_on_a_card.specs.Digits.{number_spelt, pointed}
use Rattle.marks_on_a_card.specs.Marks.{Mark, text, number, decimal, outside, Placed, placed, second, Start, blank, mark, decimal_mark, numeral_mark, numeral, word, sign1, sign2, sign, comment, start_at, emit, marks, marks_of}
use Rattle.marks_on_a_card.proofs.Lists.{cases}
use Rattle.marks_on_a_card.proofs.Runs.{run_length}
use Rattle.marks_on_a_card.proofs.StartLaws.{marks_skip}
use Rattle.marks_on_a_card.proofs.Values.{Small, SmallStart, start_small}
use Rattle.marks.specs.Step.{step_to, step_end, stepped, step_from, step_at, marks_at}

-- ---- what starts at a byte lies within the text

more_of : Start → ℕ
more_of (blank more) = more
more_of (mark m more) = more

begins_some : (p : ℕ → Bool) (s : List ℕ) → begins p s ≡ true → 0 < length s
begins_some p [] e = absurd (mathlib.Core.Bool.false≢true e)
begins_some p (b ∷ s) e = omega arith

Fits : List ℕ → Start → Type 0
Fits s x = more_of x ≤ length s

choose : (s : List ℕ) (b : Bool) (x y : Start) → (b ≡ true → Fits s x) → (b ≡ false → Fits s y) → Fits s (when b then x else y)
choose s true x y p q = p refl
choose s false x y p q = q refl

numeral_fits : (s z : List ℕ) (more : ℕ) (o : Option ℕ) → length z + more ≤ length s → Fits s (numeral_mark o more z)
unfolding Fits more_of
numeral_fits s z more none h = omega arith
numeral_fits s [] more (some v) h = omega arith
numeral_fits s (a ∷ z) more (some v) h =
    choose s (pointed (a ∷ z)) (decimal_mark v more (run is_digit z)) (mark (number v) more)
    (λ e.
    choose s (leb (length (run is_digit z)) further_digits) (mark (decimal v _ _) (more + 1 + length (run is_digit z))) (mark outside 0)
    (λ f. omega (arith, run_length is_digit z)) (λ f. omega arith))
    (λ e. omega arith)

sign_fits : (a : ℕ) (s : List ℕ) → Fits s (sign a s)
unfolding Fits more_of
sign_fits a s = two (second a)
  where
    one : (b : Bool) → Fits s (when b then mark (text (a ∷ [])) 0 else mark outside 0)
    one true = omega arith
    one false = omega arith

    two : (o : Option ℕ) → Fits s (sign2 a o s)
    two none = one (is_sign a)
    two (some b) = choose s (begins (eqb b) s) (mark (text (a ∷ b ∷ [])) 1) (sign1 a) (begins_some (eqb b) s) (λ e. one (is_sign a))

start_fits : (b : ℕ) (s : List ℕ) → Fits s (start_at b s)
unfolding Fits more_of
start_fits b s =
    choose s (is_blank b) (blank 0) _ (λ e. omega arith) λ e.
    choose s (eqb b 47 && begins (eqb 47) s) (comment s) _ (λ e. run_length not_lf s) λ e.
    choose s (is_letter b) (word b s) _ (λ e. run_length in_word s) λ e.
    choose s (is_digit b) (numeral b s) (sign b s)
    (λ e. numeral_fits s (drop (length (run is_digit s)) s) (length (run is_digit s)) (number_spelt number_digits (b ∷ run is_digit s)) (omega (arith, length-drop (length (run is_digit s)) s, run_length is_digit s)))
    (λ e. sign_fits b s)

-- ---- the two walks

-- a step, and the marks that it finds, where the part s begins at place o
pub data Meet (o : ℕ) (s : List ℕ) : Rattle.marks.specs.declared.Step.Step → List Placed → Type 0 where
  over : Meet o s (step_end (length s)) []
  met : (m : Mark) (p next : ℕ) → Small m → p < next → next ≤ length s → Meet o s (step_to m p next) (placed m (o + p) ∷ marks_at o s next)

module _ (o : ℕ) (s : List ℕ) where
  -- from the bytes x at the end of s, of which k are skipped
  walk : (k : ℕ) (x : List ℕ) → length x ≤ length s → drop (length s - length x) s ≡ x → Meet o s (step_from (length s) k x) (marks (o + length s) k x)
  unfolding step_from Fits more_of
  walk zero [] h e = over
  walk (suc k) [] h e = over
  walk (suc k) (b ∷ x) h e = walk k x (omega arith) (rest x b h e)
    where
      rest : (x : List ℕ) (b : ℕ) → length (b ∷ x) ≤ length s → drop (length s - length (b ∷ x)) s ≡ b ∷ x → drop (length s - length x) s ≡ x
      rest x b h e = let n : length s - length x ≡ (length s - length (b ∷ x)) + 1 = omega arith in rw n (sym (drop-drop 1 (length s - length (b ∷ x)) s) ∙ ap (drop 1) e)
  walk zero (b ∷ x) h e = go (λ more. walk more x) (length s - length (b ∷ x)) refl (start_at b x) (start_fits b x) (start_small b x)
    where
      go : ((more : ℕ) → length x ≤ length s → drop (length s - length x) s ≡ x → Meet o s (step_from (length s) more x) (marks (o + length s) more x)) → (p : ℕ) → length s - length (b ∷ x) ≡ p → (t : Start) → Fits x t → SmallStart t
          → Meet o s (stepped (length s - length (b ∷ x)) t (λ more. step_from (length s) more x)) (emit (o + length s - length (b ∷ x)) t (λ more. marks (o + length s) more x))
      go on p at (blank more) f small =
          let n : length s - length x ≡ p + 1 = omega arith in
          on more (omega arith) (rw (n, ← at) (sym (drop-drop 1 (length s - length (b ∷ x)) s) ∙ ap (drop 1) e))
      go on p at (mark m more) f small =
          let rest : drop (p + 1) s ≡ x = rw (← at) (sym (drop-drop 1 (length s - length (b ∷ x)) s) ∙ ap (drop 1) e) in
          let place : o + length s - length (b ∷ x) ≡ o + p = omega arith in
          let tail : marks (o + length s) more x ≡ marks_at o s (p + 1 + more) = marks_skip (o + length s) more x ∙ ap (marks (o + length s) 0) (ap (drop more) (sym rest) ∙ drop-drop more (p + 1) s) in
          rw (place, at, tail) (met m p (p + 1 + more) small (omega arith) (omega arith))

  pub meet : (i : ℕ) → Meet o s (step_at s i) (marks_at o s i)
  meet i = walk zero (drop i s) (omega (arith, length-drop i s)) (there i)
    where
      there : (i : ℕ) → drop (length s - length (drop i s)) s ≡ drop i s
      there i = rw length-drop (cases (leb i (length s))
          (λ e. let n : length s - (length s - i) ≡ i = omega (arith, leb-true i (length s) e) in ap (λ (k : ℕ). drop k s) n)
          (λ e.
          let l : length s ≤ i = omega (arith, leb-false i (length s) e) in
          let n : length s - (length s - i) ≡ length s = omega arith in
          rw (n, drop_of_length-le s l) (drop-length s)))

-- ---- a part of a part

marks_part : (o o' : ℕ) (s : List ℕ) (i : ℕ) → o' ≤ length s → marks_at (o + o') (drop o' s) i ≡ marks_at o s (o' + i)
marks_part o o' s i h =
    let e : o + o' + length (drop o' s) ≡ o + length s = omega (arith, length-drop o' s) in
    rw (e, drop-drop i o' s)

-- of the card itself
pub part_of_card : (o : ℕ) (s : List ℕ) (i : ℕ) → o ≤ length s → marks_at o (drop o s) i ≡ marks_at 0 s (o + i)
part_of_card o s i h = sym (ap (λ (n : ℕ). marks_at n (drop o s) i) (zero-add o)) ∙ marks_part 0 o s i h

pub marks_whole : (s : List ℕ) → marks_of s ≡ marks_at 0 s 0
marks_whole s = rw zero-add
