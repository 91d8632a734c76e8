-- No bytes spell two marks: whatever bytes spell is what the scan finds in them alone.
use Prim.Native.Nat.{ℕ, ◌≤◌, ◌<◌}
use mathlib.Core.Path.{◌≡◌, refl, sym, ap, ◌∙◌}
use mathlib.Core.Bool.{Bool, true, false}
use mathlib.Core.List.{List, [], ◌∷◌, ◌++◌}
use mathlib.Core.Option.{Option, none, some}
use native.Mathlib.Omega.{arith}
use borrow.Author.Tests.{le-leb, lt-leb}
use lib.Dec.{eqb}
use lib.ListN.{length, drop}
use lib.Seq.{drop-append_seam, drop-length}
use Rattle.card.specs.Limits.{number_digits, further_digits, word_digits}
use Rattle.card.specs.Text.{bytes, same}
use Rattle.marks_on_a_card.specs.Bytes.{is_digit, in_word, is_sign, begins, every, after}
use Rattle.marks_on_a_card.specs.Digits.{number_spelt, pointed}
use Rattle.marks_on_a_card.specs.Marks.{Mark, text, seat, process, number, decimal, outside, second, Start, blank, mark, made, numbered, numeral_mark, sign1, sign2, start_at}
use Rattle.marks_on_a_card.proofs.Lists.{cases, not_both, and_left, and_right}
use Rattle.marks_on_a_card.proofs.KindLaws.{same_eq}
use Rattle.marks_on_a_card.proofs.StartLaws.{letter_starts, digit_starts}
use Rattle.spelling.specs.Spells.{signs, OneOf, Numeral, Number, Word, word as a_word, NumberedWord, Stray, Spells, sign as a_sign, seat_word, module_word, other_word, a_number, a_decimal, wrong_number, wrong_whole, wrong_further, stray}
use Rattle.spelling.proofs.Lists.{run_front, run_whole, after_is}
use Rattle.spelling.proofs.Numbers.{numeral_every, numeral_value, number_of, of_number, not_number}
use Rattle.spelling.proofs.Forms.{of_each, sign_one, number_word}

-- the mark at the front
abbrev mark_in : Start → Mark
mark_in (blank more) = outside
mark_in (mark m more) = m

abbrev mark_of : List ℕ → Mark
mark_of [] = outside
mark_of (b ∷ s) = mark_in (start_at b s)

-- ---- signs, by computing each

abbrev itself : List ℕ → Mark → Bool
itself w (text s) = same s w
itself w (seat i) = false
itself w (process i) = false
itself w (number v) = false
itself w (decimal v n f) = false
itself w outside = false

is_itself : (w : List ℕ) (m : Mark) → itself w m ≡ true → m ≡ text w
is_itself w (text s) e = ap text (same_eq s w e)
is_itself w (seat i) e = not_both false e refl
is_itself w (process i) e = not_both false e refl
is_itself w (number v) e = not_both false e refl
is_itself w (decimal v n f) e = not_both false e refl
is_itself w outside e = not_both false e refl

sign_read : (w : List ℕ) → OneOf w signs → mark_of w ≡ text w
sign_read w o = is_itself w (mark_of w) (of_each (λ v. itself v (mark_of v)) w signs refl o)

-- ---- words

seat_read : (s : List ℕ) (i : ℕ) → Number word_digits s i → mark_of (bytes "s" ++ s) ≡ seat i
seat_read s i n = rw (run_whole in_word s (number_word s i n.numeral), of_number word_digits s i n)

module_read : (s : List ℕ) (i : ℕ) → Number word_digits s i → mark_of (bytes "process" ++ s) ≡ process i
module_read s i n = rw (run_whole in_word s (number_word s i n.numeral), of_number word_digits s i n)

unnumbered : (f : ℕ → Mark) (t w : List ℕ) (other : Mark) → ((i : ℕ) (s : List ℕ) → w ≡ t ++ s → Number word_digits s i → ⊥) → numbered f (after t w) other ≡ other
unnumbered f t w other no_one = go (after t w) refl
  where
    one : (s : List ℕ) → after t w ≡ some s → (o : Option ℕ) → number_spelt word_digits s ≡ o → made f o other ≡ other
    one s e none q = refl
    one s e (some v) q = absurd (no_one v s (after_is t w s e) (number_of word_digits s v q))

    go : (o : Option (List ℕ)) → after t w ≡ o → numbered f o other ≡ other
    go none e = refl
    go (some s) e = one s e (number_spelt word_digits s) refl

word_read : (w : List ℕ) → Word w → ((i : ℕ) → NumberedWord "s" w i → ⊥) → ((i : ℕ) → NumberedWord "process" w i → ⊥) → mark_of w ≡ text w
word_read w (a_word {b = b} {s = s} l e) no-seat no-module =
    rw (letter_starts b s l, run_whole in_word s e)
    (unnumbered seat (bytes "s") (b ∷ s) (numbered process (after (bytes "process") (b ∷ s)) (text (b ∷ s))) (λ i r q n. no-seat i (r, q, n))
    ∙ unnumbered process (bytes "process") (b ∷ s) (text (b ∷ s)) (λ i r q n. no-module i (r, q, n)))

-- ---- numbers and decimals

-- the digits s, and then z
numeral_read : (s z : List ℕ) → every is_digit s ≡ true → 0 < length s → begins is_digit z ≡ false → (o : Option ℕ) → number_spelt number_digits s ≡ o
    → mark_of (s ++ z) ≡ mark_in (numeral_mark o (length (drop 1 s)) z)
numeral_read [] z d h b o e = absurd (omega arith)
numeral_read (a ∷ s) z d h b o e =
    rw (digit_starts a (s ++ z) (and_left (is_digit a) (every is_digit s) d), run_front is_digit s z (and_right (is_digit a) (every is_digit s) d) b, e, drop-append_seam s z)

whole_read : (s : List ℕ) → every is_digit s ≡ true → 0 < length s → (o : Option ℕ) → number_spelt number_digits s ≡ o → mark_of s ≡ mark_in (numeral_mark o (length (drop 1 s)) [])
whole_read [] d h o e = absurd (omega arith)
whole_read (a ∷ s) d h o e =
    rw (digit_starts a s (and_left (is_digit a) (every is_digit s) d), run_whole is_digit s (and_right (is_digit a) (every is_digit s) d), e, drop-length s)

module _ (s f : List ℕ) (v u : ℕ) (n : Numeral s v) (d : Numeral f u) where
  point_read : (o : Option ℕ) → number_spelt number_digits s ≡ o → mark_of (s ++ (46 ∷ f)) ≡ mark_in (numeral_mark o (length (drop 1 s)) (46 ∷ f))
  point_read o e = numeral_read s (46 ∷ f) (numeral_every s v n) n.some refl o e

  pointed_is : pointed (46 ∷ f) ≡ true
  pointed_is = go f (numeral_every f u d) d.some
    where
      go : (f : List ℕ) → every is_digit f ≡ true → 0 < length f → begins is_digit f ≡ true
      go [] e h = absurd (omega arith)
      go (b ∷ f) e h = and_left (is_digit b) (every is_digit f) e

  decimal_read : (x : ℕ) → Number number_digits s x → length f ≤ further_digits → mark_of (s ++ (46 ∷ f)) ≡ decimal x (length f) u
  decimal_read x num l = point_read (some x) (of_number number_digits s x num) ∙ rw (pointed_is, run_whole is_digit f (numeral_every f u d), le-leb (length f) further_digits l, numeral_value f u d)

  long_read : (x : ℕ) → Number number_digits s x → further_digits < length f → mark_of (s ++ (46 ∷ f)) ≡ outside
  long_read x num l = point_read (some x) (of_number number_digits s x num) ∙ rw (pointed_is, run_whole is_digit f (numeral_every f u d), lt-leb (length f) further_digits l)

-- ---- stray bytes

stray_read : (b : ℕ) → Stray b → mark_of (b ∷ []) ≡ outside
stray_read b s = rw (s.no_blank, s.no_letter, s.no_digit) (cases (eqb b 47) (λ e. rw e (go (second b))) (λ e. rw e (go (second b))))
  where
    no_sign : is_sign b ≡ false
    no_sign = cases (is_sign b) (λ e. absurd (s.no_sign (sign_one b e))) (λ e. e)

    alone : mark_in (sign1 b) ≡ outside
    alone = rw no_sign

    go : (o : Option ℕ) → mark_in (sign2 b o []) ≡ outside
    go none = alone
    go (some c) = alone

-- ---- all of them

read : (w : List ℕ) (m : Mark) → Spells w m → mark_of w ≡ m
read w m (a_sign o) = sign_read w o
read w m (seat_word {i = i} (s, e, n)) = rw e (seat_read s i n)
read w m (module_word {i = i} (s, e, n)) = rw e (module_read s i n)
read w m (other_word o a b) = word_read w o a b
read w m (a_number {v = v} n) = whole_read w (numeral_every w v n.numeral) n.numeral.some (some v) (of_number number_digits w v n)
read w m (a_decimal {s = s} {f = f} {v = v} {u = u} n d h) = decimal_read s f v u n.numeral d v n h
read w m (wrong_number {v = v} n o) = whole_read w (numeral_every w v n) n.some none (not_number number_digits w o)
read w m (wrong_whole {s = s} {f = f} {v = v} {u = u} n o d) = point_read s f v u n d none (not_number number_digits s o)
read w m (wrong_further {s = s} {f = f} {v = v} {u = u} n d h) = long_read s f v u n.numeral d v n h
read w m (stray {b = b} s) = stray_read b s

pub spells_once : (w : List ℕ) (m n : Mark) → Spells w m → Spells w n → m ≡ n
spells_once w m n x y = sym (read w m x) ∙ read w n y
