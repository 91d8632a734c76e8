-- The line tells the class counts, and it is short: a count of two digits takes ten seats. Assumes nothing.
use Prim.Native.Nat.{ℕ, ◌+◌, ◌*◌, ◌≤◌, ◌<◌}
use mathlib.Core.Path.{◌≡◌, refl, sym, ap, ◌∙◌}
use mathlib.Core.List.{List, [], ◌∷◌, ◌++◌, append_assoc}
use native.Mathlib.Decide.{dec_le}
use native.Mathlib.Omega.{arith}
use lib.ListN.{length, length-append}
use Rattle.card.specs.Limits.{most_seats}
use Rattle.card.specs.Text.{bytes}
use Rattle.card.specs.Valid.{Every}
use Rattle.room.specs.Digits.{decimal}
use Rattle.room.proofs.Decimal.{decimal_length}
use Rattle.phrases.specs.Phrases.{◌▸◌, num}
use Rattle.panel_wording.specs.PanelText.{numbers, line}
use Rattle.meaning.specs.Sums.{sum}
use Rattle.meaning.proofs.Sums.{every_imp}
use Rattle.meaning.proofs.Counting.{Within}
use Rattle.shown.proofs.Telling.{line_cancel}
use Rattle.classes.specs.Classes.{ValidClasses, class_counts, classes_text}
use Rattle.classes.specs.ClassesRoom.{classes_room}
use Rattle.classes.proofs.Counts.{adds_up, each_most, how_many}

numbers_before : (l r s : List ℕ) → numbers l r ++ s ≡ numbers l (r ++ s)
numbers_before [] r s = refl
numbers_before (v ∷ l) r s = ap (λ (t : List ℕ). " " ▸ t) (append_assoc (decimal v) (numbers l r) s ∙ ap (num v) (numbers_before l r s))

-- whatever stands behind it
pub tells : (v w r s : List ℕ) → classes_text v ++ r ≡ classes_text w ++ s → v ≡ w
unfolding classes_text
tells v w r s e = (line_cancel "classes" v w r s (sym (before v r) ∙ e ∙ before w s)).0
  where
    before : (l t : List ℕ) → line "classes" l [] ++ t ≡ line "classes" l t
    before l t = append_assoc (bytes "classes") (numbers l ("\n" ▸ [])) t ∙ ap (λ (u : List ℕ). "classes" ▸ u) (numbers_before l ("\n" ▸ []) t)

-- a number below 100 has one digit, or two and is 10 at least
number_short : (v : ℕ) → v < 100 → length (decimal v) * 10 ≤ 10 + v
number_short v h = go (dec_le 10 v)
  where
    go : Dec (10 ≤ v) → length (decimal v) * 10 ≤ 10 + v
    go (yes l) = omega (arith, decimal_length 1 v h)
    go (no l) = omega (arith, decimal_length 0 v (omega arith))

numbers_short : (l r : List ℕ) → Every (λ v. v < 100) l → length (numbers l r) * 10 ≤ length l * 20 + sum (λ v. v) l + length r * 10
numbers_short [] r e = omega arith
numbers_short (v ∷ l) r e = omega (arith, length-append (decimal v) (numbers l r), number_short v e.0, numbers_short l r e.1)

-- the counts add up to the seats, so one of them at most has two digits
pub fits : (k : ℕ) (list : List ℕ) (x : List ℕ) → ValidClasses k list → Within k x → length x ≤ most_seats → length (classes_text (class_counts list x)) ≤ classes_room
unfolding classes_text
fits k list x ok w few =
    let small : (v : ℕ) → v ≤ length x → v < 100 = λ v h. omega arith in
    let low : Every (λ v. v < 100) (class_counts list x) = every_imp (λ v. v ≤ length x) (class_counts list x) (each_most list x) small in
    let short = numbers_short (class_counts list x) ("\n" ▸ []) low in
    omega (arith, length-append (bytes "classes") (numbers (class_counts list x) ("\n" ▸ [])), short, how_many list x, adds_up k list x ok w)
