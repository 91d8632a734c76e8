-- The bytes of a word, a beginning and what stands behind it: a number exactly where its digits are one and the word ends with them. Each way through the code has its law.
use Prim.Native.Nat.{ℕ, ◌+◌, ◌≤◌}
use mathlib.Core.Path.{◌≡◌, sym, ap, ◌∙◌}
use mathlib.Core.Bool.{true, false}
use mathlib.Core.List.{List}
use mathlib.Core.Option.{some}
use native.Mathlib.Omega.{arith}
use lib.ListN.{length, drop}
use lib.Seq.{drop-drop}
use Rattle.card.specs.Limits.{word_digits}
use Rattle.marks_on_a_card.specs.Bytes.{is_digit, in_word, run, begins, every, after, begun}
use Rattle.marks_on_a_card.specs.Digits.{plain, held_digits, Counted}
use Rattle.std.specs.Prelude.{Some, None}
use Rattle.words_and_digits.specs.Numbered.{Numbered}
use Rattle.marks_on_a_card.specs.declared.Digits.{Digits}
use Rattle.marks_on_a_card.proofs.Lists.{cases, not_both}
use Rattle.marks_on_a_card.proofs.Runs.{run_stops, run_narrow, run_same, after_run, after_not, run_begun}
use Rattle.marks_on_a_card.proofs.Numbers.{plain_short, plain_digits}
use Rattle.marks_on_a_card.proofs.StartLaws.{digit_in_word}

-- the bytes behind a word's beginning are a number exactly if its digits are one and the word ends with them
module _ (most : ℕ) (r : List ℕ) where
  word_unplain : plain most (run is_digit r) ≡ false → plain most (run in_word r) ≡ false
  word_unplain e = cases (plain most (run in_word r))
      (λ y.
      let same-run : run is_digit r ≡ run in_word r = run_narrow is_digit in_word digit_in_word r (plain_digits most (run in_word r) y).0 in
      not_both (plain most (run in_word r)) y (rw (← same-run) e))
      (λ n. n)

  word_longer : begins in_word (drop (length (run is_digit r)) r) ≡ true → plain most (run in_word r) ≡ false
  word_longer e = cases (plain most (run in_word r))
      (λ y.
      let same-run : run is_digit r ≡ run in_word r = run_narrow is_digit in_word digit_in_word r (plain_digits most (run in_word r) y).0 in
      not_both (begins in_word (drop (length (run in_word r)) r)) (rw same-run at e) (run_stops in_word r))
      (λ n. n)

module _ (t s : List ℕ) (i : ℕ) where
  pub numbered_off : begun t (drop i s) ≡ false → Numbered t (run in_word (drop i s)) None
  numbered_off e = λ f other. rw (after_not in_word t (drop i s) e)

  module _ (w : every in_word t ≡ true) (e : begun t (drop i s) ≡ true) where
    behind_it : after t (run in_word (drop i s)) ≡ some (run in_word (drop (i + length t) s))
    behind_it = after_run in_word t (drop i s) w e ∙ ap (λ (x : List ℕ). some (run in_word x)) (drop-drop (length t) i s)

    numbered_no : plain word_digits (run in_word (drop (i + length t) s)) ≡ false → Numbered t (run in_word (drop i s)) None
    numbered_no n = λ f other. rw (behind_it, n)

    pub numbered_unplain : plain word_digits (run is_digit (drop (i + length t) s)) ≡ false → Numbered t (run in_word (drop i s)) None
    numbered_unplain n = numbered_no (word_unplain word_digits (drop (i + length t) s) n)

    -- the digits as the code has counted them
    module _ (a : Digits) (counted : Counted (drop (i + length t) s) a) where
      behind_digits : drop (length (run is_digit (drop (i + length t) s))) (drop (i + length t) s) ≡ drop (i + length t + a.count) s
      behind_digits = drop-drop (length (run is_digit (drop (i + length t) s))) (i + length t) s ∙ sym (ap (λ n. drop (i + length t + n) s) counted.count_is)

      pub numbered_more : begins in_word (drop (i + length t + a.count) s) ≡ true → Numbered t (run in_word (drop i s)) None
      numbered_more b = numbered_no (word_longer word_digits (drop (i + length t) s) (ap (begins in_word) behind_digits ∙ b))

      pub numbered_yes : plain word_digits (run is_digit (drop (i + length t) s)) ≡ true → begins in_word (drop (i + length t + a.count) s) ≡ false
          → Numbered t (run in_word (drop i s)) (Some (record { count = length t + a.count; value = a.value }))
      numbered_yes y b =
          let d = run is_digit (drop (i + length t) s) in
          let all : run in_word (drop (i + length t) s) ≡ d = run_same is_digit in_word digit_in_word (drop (i + length t) s) (ap (begins in_word) behind_digits ∙ b) in
          let held : length d ≤ held_digits = omega (arith, plain_short word_digits d y) in
          let size : length (run in_word (drop i s)) ≡ length t + length d = run_begun in_word t (drop i s) w e ∙ ap (λ x. length t + length (run in_word x)) (drop-drop (length t) i s) ∙ ap (λ x. length t + length x) all in
          record {
            long = omega (arith, size, counted.count_is);
            is_one = λ f other. rw (behind_it, all, y) (ap f (sym (counted.value_is held)));
          }
