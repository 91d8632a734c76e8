-- What bytes that spell a mark look like, and how far they can reach: a word no farther than letters, digits and underscores go on, digits with
-- a point no farther than the whole numeral, and any other mark one byte or two.
use Prim.Native.Nat.{ℕ, suc, ◌+◌, ◌≤◌, ◌<◌}
use Prim.Native.String.{String}
use mathlib.Core.Path.{◌≡◌, refl, ap, ap₂, ◌∙◌}
use mathlib.Core.Bool.{Bool, true, false, not, ◌&&◌, ◌||◌}
use mathlib.Core.List.{List, [], ◌∷◌, ◌++◌, append_assoc, head-eq_of_cons-eq, tail-eq_of_cons-eq}
use mathlib.Core.Option.{Option, none, some}
use native.Mathlib.Omega.{arith}
use borrow.Author.Tests.{eqb-true, eq-eqb, leb-true, not-true}
use lib.Dec.{eqb, leb}
use lib.ListN.{length, drop, length-append}
use lib.Seq.{drop-append_seam}
use Rattle.card.specs.Text.{bytes, same, when◌then◌else◌}
use Rattle.marks_on_a_card.specs.Bytes.{within, is_digit, is_letter, in_word, is_blank, is_sign, run, begins, every}
use Rattle.marks_on_a_card.specs.Digits.{pointed}
use Rattle.marks_on_a_card.specs.Marks.{Mark, second}
use Rattle.marks_on_a_card.proofs.Lists.{cases, not_both, and_left, and_right, or_true}
use Rattle.marks_on_a_card.proofs.KindLaws.{same_eq}
use Rattle.marks_on_a_card.proofs.StartLaws.{digit_in_word, among as of_bytes}
use Rattle.spelling.specs.Spells.{signs, OneOf, this, later, Numeral, Word, word, Stray, Spells, sign, seat_word, module_word, other_word, a_number, a_decimal, wrong_number, wrong_whole, wrong_further, stray}
use Rattle.spelling.proofs.Lists.{run_covers, run_front, begins_front, every_wider}
use Rattle.spelling.proofs.Numbers.{numeral_every}

-- ---- one of some texts

-- a test that passes at each of them, by one computation
abbrev pub each : (List ℕ → Bool) → List String → Bool
each f [] = true
each f (t ∷ ts) = f (bytes t) && each f ts

pub of_each : (f : List ℕ → Bool) (w : List ℕ) (ts : List String) → each f ts ≡ true → OneOf w ts → f w ≡ true
of_each f w ts e (this {t = t} {ts = us} q) = rw q (and_left (f (bytes t)) (each f us) e)
of_each f w ts e (later {t = t} {ts = us} o) = of_each f w us (and_right (f (bytes t)) (each f us) e) o

abbrev among : List ℕ → List String → Bool
among w [] = false
among w (t ∷ ts) = same w (bytes t) || among w ts

among_one : (w : List ℕ) (ts : List String) → among w ts ≡ true → OneOf w ts
among_one w [] e = not_both false e refl
among_one w (t ∷ ts) e = cases (same w (bytes t)) (λ q. this (same_eq w (bytes t) q)) (λ q. later (among_one w ts (rw q at e)))

-- ---- signs

-- neither blank nor letter nor digit
abbrev pub apart : ℕ → Bool
apart b = not (is_blank b) && not (is_letter b) && not (is_digit b)

abbrev is_it : Option ℕ → ℕ → Bool
is_it none b = false
is_it (some c) b = eqb c b

abbrev signed : List ℕ → Bool
signed [] = false
signed (a ∷ []) = is_sign a
signed (a ∷ b ∷ []) = is_it (second a) b
signed (a ∷ b ∷ c ∷ s) = false

pub sign_one : (a : ℕ) → is_sign a ≡ true → OneOf (a ∷ []) signs
sign_one a e = among_one (a ∷ []) signs (of_bytes (λ b. among (b ∷ []) signs) (bytes "[]:;=!&|()+',/") a refl e)

pub one_sign : (a : ℕ) → OneOf (a ∷ []) signs → is_sign a ≡ true
one_sign a o = of_each signed (a ∷ []) signs refl o

sign_apart : (a : ℕ) → is_sign a ≡ true → apart a ≡ true
sign_apart a e = of_bytes apart (bytes "[]:;=!&|()+',/") a refl e

-- the three signs of two bytes
second_is : {C : Type 0} (a b : ℕ) → second a ≡ some b → (a ≡ 46 → b ≡ 46 → C) → (a ≡ 45 → b ≡ 62 → C) → (a ≡ 33 → b ≡ 61 → C) → C
second_is a b e f g h = cases (eqb a 46)
    (λ p. let q : some 46 ≡ some b = rw p at e in f (eqb-true a 46 p) cc)
    (λ p. cases (eqb a 45)
    (λ r. let q : some 62 ≡ some b = rw (p, r) at e in g (eqb-true a 45 r) cc)
    (λ r. cases (eqb a 33)
    (λ s. let q : some 61 ≡ some b = rw (p, r, s) at e in h (eqb-true a 33 s) cc)
    (λ s. let q : none ≡ some b = rw (p, r, s) at e in let z : ◌≡◌ {A = ℕ} 0 1 = cc in absurd (omega arith))))

pub sign_two : (a b : ℕ) → second a ≡ some b → OneOf (a ∷ b ∷ []) signs
sign_two a b e =
    let known : ℕ → ℕ → Bool = λ x y. among (x ∷ y ∷ []) signs in
    among_one (a ∷ b ∷ []) signs (second_is a b e (ap₂ known) (ap₂ known) (ap₂ known))

second_apart : (a b : ℕ) → second a ≡ some b → apart a ≡ true
second_apart a b e = second_is a b e (λ p q. rw p) (λ p q. rw p) (λ p q. rw p)

pub apart_blank : (b : ℕ) → apart b ≡ true → is_blank b ≡ false
apart_blank b e = not-true (is_blank b) (and_left (not (is_blank b)) (not (is_letter b)) (and_left (not (is_blank b) && not (is_letter b)) (not (is_digit b)) e))

pub apart_letter : (b : ℕ) → apart b ≡ true → is_letter b ≡ false
apart_letter b e = not-true (is_letter b) (and_right (not (is_blank b)) (not (is_letter b)) (and_left (not (is_blank b) && not (is_letter b)) (not (is_digit b)) e))

pub apart_digit : (b : ℕ) → apart b ≡ true → is_digit b ≡ false
apart_digit b e = not-true (is_digit b) (and_right (not (is_blank b) && not (is_letter b)) (not (is_digit b)) e)

-- ---- the forms

pub data Form : List ℕ → Type 0 where
  of_word : {w : List ℕ} → Word w → Form w
  of_digits : {s : List ℕ} → every is_digit s ≡ true → 0 < length s → Form s
  of_decimal : (s f : List ℕ) → every is_digit s ≡ true → 0 < length s → every is_digit f ≡ true → 0 < length f → Form (s ++ (46 ∷ f))
  of_one : {b : ℕ} → apart b ≡ true → Form (b ∷ [])
  of_two : {a b : ℕ} → second a ≡ some b → Form (a ∷ b ∷ [])

pub number_word : (s : List ℕ) (v : ℕ) → Numeral s v → every in_word s ≡ true
number_word s v n = every_wider is_digit in_word digit_in_word s (numeral_every s v n)

sign_form : (w : List ℕ) → signed w ≡ true → Form w
sign_form [] e = not_both false e refl
sign_form (a ∷ []) e = of_one (sign_apart a e)
sign_form (a ∷ b ∷ []) e = go (second a) refl e
  where
    go : (o : Option ℕ) → second a ≡ o → is_it o b ≡ true → Form (a ∷ b ∷ [])
    go none q e = not_both false e refl
    go (some c) q e = of_two (q ∙ ap some (eqb-true c b e))
sign_form (a ∷ b ∷ c ∷ s) e = not_both false e refl

stray_form : (b : ℕ) → Stray b → Form (b ∷ [])
stray_form b s = of_one {b = b} (rw (s.no_blank, s.no_letter, s.no_digit))

pub form : (w : List ℕ) (m : Mark) → Spells w m → Form w
form w m (sign o) = sign_form w (of_each signed w signs refl o)
form w m (seat_word {i = i} (s, e, n)) = rw e (of_word (word refl (number_word s i n.numeral)))
form w m (module_word {i = i} (s, e, n)) = rw e (of_word (word refl (number_word s i n.numeral)))
form w m (other_word o a b) = of_word o
form w m (a_number {v = v} n) = of_digits (numeral_every w v n.numeral) n.numeral.some
form w m (a_decimal {s = s} {f = f} {v = v} {u = u} n d h) = of_decimal s f (numeral_every s v n.numeral) n.numeral.some (numeral_every f u d) d.some
form w m (wrong_number {v = v} n o) = of_digits (numeral_every w v n) n.some
form w m (wrong_whole {s = s} {f = f} {v = v} {u = u} n o d) = of_decimal s f (numeral_every s v n) n.some (numeral_every f u d) d.some
form w m (wrong_further {s = s} {f = f} {v = v} {u = u} n d h) = of_decimal s f (numeral_every s v n.numeral) n.numeral.some (numeral_every f u d) d.some
form w m (stray {b = b} s) = stray_form b s

pub form_some : (w : List ℕ) → Form w → 0 < length w
form_some w (of_word (word i e)) = omega arith
form_some w (of_digits d h) = h
form_some w (of_decimal s f d h g k) = omega (arith, length-append s (46 ∷ f))
form_some w (of_one a) = omega arith
form_some w (of_two s) = omega arith

-- ---- how far they reach

letter_digit : {C : Type 0} (b : ℕ) → is_letter b ≡ true → is_digit b ≡ true → C
letter_digit b l d =
    let low : b ≤ 57 = leb-true b 57 (and_right (leb 48 b) (leb b 57) d) in
    or_true (within 65 90 b) (within 97 122 b) l
    (λ q. absurd (omega (arith, leb-true 65 b (and_left (leb 65 b) (leb b 90) q))))
    (λ q. absurd (omega (arith, leb-true 97 b (and_left (leb 97 b) (leb b 122) q))))

begins_decimal : (s f q x : List ℕ) → x ≡ s ++ (46 ∷ f) ++ q → every is_digit s ≡ true → 0 < length s → begins is_digit x ≡ true
begins_decimal s f q x e d h = rw (e, append_assoc s (46 ∷ f) q) (begins_front is_digit s (46 ∷ (f ++ q)) d h)

-- none begins with a blank
blank_apart : (b : ℕ) → is_blank b ≡ true → (is_letter b ≡ false) × (is_digit b ≡ false)
blank_apart b e =
    let f = of_bytes (λ a. not (is_letter a) && not (is_digit a)) (bytes " \t\r\n") b refl e in
    (not-true (is_letter b) (and_left (not (is_letter b)) (not (is_digit b)) f), not-true (is_digit b) (and_right (not (is_letter b)) (not (is_digit b)) f))

pub blank_reach : {C : Type 0} (b : ℕ) (t p q : List ℕ) → is_blank b ≡ true → b ∷ t ≡ p ++ q → Form p → C
blank_reach b t p q k e (of_word (word {b = c} {s = s} i w)) = not_both (is_letter b) (rw (head-eq_of_cons-eq e) i) (blank_apart b k).0
blank_reach b t p q k e (of_digits d h) = not_both (is_digit b) (ap (begins is_digit) e ∙ begins_front is_digit p q d h) (blank_apart b k).1
blank_reach b t p q k e (of_decimal s f d h g j) = not_both (is_digit b) (begins_decimal s f q (b ∷ t) e d h) (blank_apart b k).1
blank_reach b t p q k e (of_one {b = c} a) = not_both (is_blank b) k (rw (head-eq_of_cons-eq e) (apart_blank c a))
blank_reach b t p q k e (of_two {a = a} {b = c} two) = not_both (is_blank b) k (rw (head-eq_of_cons-eq e) (apart_blank a (second_apart a c two)))

pub letter_reach : (b : ℕ) (t p q : List ℕ) → is_letter b ≡ true → b ∷ t ≡ p ++ q → Form p → length p ≤ suc (length (run in_word t))
letter_reach b t p q l e (of_word (word {b = c} {s = s} i w)) = rw (tail-eq_of_cons-eq e) (omega (arith, run_covers in_word s q w))
letter_reach b t p q l e (of_digits d h) = letter_digit b l (ap (begins is_digit) e ∙ begins_front is_digit p q d h)
letter_reach b t p q l e (of_decimal s f d h g k) = letter_digit b l (begins_decimal s f q (b ∷ t) e d h)
letter_reach b t p q l e (of_one a) = omega arith
letter_reach b t p q l e (of_two {a = a} {b = c} two) = not_both (is_letter b) l (rw (head-eq_of_cons-eq e) (apart_letter a (second_apart a c two)))

-- the bytes of the numeral in front: its digits, and a point with digits behind it
abbrev pub point_reach : List ℕ → ℕ
point_reach z = when pointed z then suc (length (run is_digit (drop 1 z))) else 0

abbrev pub numeral_reach : List ℕ → ℕ
numeral_reach x = length (run is_digit x) + point_reach (drop (length (run is_digit x)) x)

pub digit_reach : (x p q : List ℕ) → begins is_digit x ≡ true → x ≡ p ++ q → Form p → length p ≤ numeral_reach x
digit_reach x p q d e (of_word (word {b = c} {s = s} i w)) = letter_digit c i (rw e at d)
digit_reach x p q d e (of_digits w h) = rw e (omega (arith, run_covers is_digit p q w))
digit_reach x p q d e (of_decimal s f w h g k) =
    rw (e, append_assoc s (46 ∷ f) q, run_front is_digit s (46 ∷ (f ++ q)) w refl, drop-append_seam s (46 ∷ (f ++ q)), begins_front is_digit f q g k)
    (omega (arith, length-append s (46 ∷ f), run_covers is_digit f q g))
digit_reach x p q d e (of_one {b = c} a) = not_both (is_digit c) (rw e at d) (apart_digit c a)
digit_reach x p q d e (of_two {a = a} {b = c} two) = not_both (is_digit a) (rw e at d) (apart_digit a (second_apart a c two))

-- one byte, or the two of a sign
pub sign_reach : {C : Type 0} (b : ℕ) (t p q : List ℕ) → is_letter b ≡ false → is_digit b ≡ false → b ∷ t ≡ p ++ q → Form p
    → (length p ≡ 1 → C) → ((c : ℕ) → second b ≡ some c → begins (eqb c) t ≡ true → length p ≡ 2 → C) → C
sign_reach b t p q l n e (of_word (word {b = c} {s = s} i w)) one two = not_both (is_letter b) (rw (head-eq_of_cons-eq e) i) l
sign_reach b t p q l n e (of_digits d h) one two = not_both (is_digit b) (ap (begins is_digit) e ∙ begins_front is_digit p q d h) n
sign_reach b t p q l n e (of_decimal s f d h g k) one two = not_both (is_digit b) (begins_decimal s f q (b ∷ t) e d h) n
sign_reach b t p q l n e (of_one a) one two = one refl
sign_reach b t p q l n e (of_two {a = a} {b = c} s) one two =
    two c (rw (head-eq_of_cons-eq e) s) (rw (tail-eq_of_cons-eq e) (eq-eqb c c refl)) refl
