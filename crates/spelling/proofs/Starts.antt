-- What the scan finds at a byte: a blank or a comment, or a mark whose bytes spell it and of which no longer beginning spells any. The cases
-- are the scan's own; the longest is known from how far each form reaches.
use Prim.Native.Nat.{ℕ, suc, ◌+◌, ◌≤◌, ◌<◌}
use Prim.Native.String.{String}
use mathlib.Core.Path.{◌≡◌, refl, sym, ap, ap₂, ◌∙◌, subst}
use mathlib.Core.Bool.{Bool, true, false, ◌&&◌}
use mathlib.Core.List.{List, [], ◌∷◌, ◌++◌, append_assoc, head-eq_of_cons-eq, tail-eq_of_cons-eq}
use mathlib.Core.Option.{Option, none, some}
use native.Mathlib.Omega.{arith}
use borrow.Author.Tests.{eqb-true, leb-true, leb-false, not-false}
use lib.Dec.{eqb, leb}
use lib.ListN.{length, drop, length-append}
use Rattle.card.specs.Limits.{number_digits, further_digits, word_digits}
use Rattle.card.specs.Text.{bytes, when◌then◌else◌}
use Rattle.marks_on_a_card.specs.Bytes.{is_digit, is_letter, in_word, is_blank, is_sign, not_lf, run, begins, every, after}
use Rattle.marks_on_a_card.specs.Digits.{value_from, number_spelt, pointed}
use Rattle.marks_on_a_card.specs.Marks.{Mark, text, seat, process, number, decimal, outside, second, Start, blank, mark, made, numbered, word_mark, word, decimal_mark, numeral_mark, numeral, sign1, sign2, sign, comment, start_at}
use Rattle.marks_on_a_card.proofs.Lists.{cases, not_both, and_left, and_right}
use Rattle.marks_on_a_card.proofs.Runs.{run_passes, run_stops}
use Rattle.spelling.specs.Spells.{Numeral, Number, Word, word as a_word, NumberedWord, Spells, sign as a_sign, seat_word, module_word, other_word, a_number, a_decimal, wrong_number, wrong_whole, wrong_further, stray}
use Rattle.spelling.specs.Marked.{LineOver, Between, blank as a_blank, comment as a_comment, Longest, Stands, taken}
use Rattle.spelling.proofs.Lists.{run_on, run_split, after_is, after_front}
use Rattle.spelling.proofs.Numbers.{numeral_of, number_of, no_number}
use Rattle.spelling.proofs.Forms.{sign_one, one_sign, sign_two, form, blank_reach, letter_reach, point_reach, numeral_reach, digit_reach, sign_reach}

abbrev pub NoComment : List ℕ → Type 0
NoComment s = (t : List ℕ) → s ≡ bytes "//" ++ t → ⊥

-- s begins with the mark m, whose further bytes are so many as the scan says
pub record Found (s : List ℕ) (m : Mark) (more : ℕ) : Type 0 where
  pub spelt : List ℕ
  pub rest : List ℕ
  pub split : s ≡ spelt ++ rest
  pub spells : Spells spelt m
  pub longest : Longest spelt s
  pub no_comment : NoComment s
  pub reach : suc more ≡ taken m spelt

-- s begins with a blank or a comment, and not with a mark
pub record Skipped (s : List ℕ) (more : ℕ) : Type 0 where
  pub front : List ℕ
  pub rest : List ℕ
  pub split : s ≡ front ++ rest
  pub reach : length front ≡ suc more
  pub before : (g r : List ℕ) → rest ≡ g ++ r → Between g r → Between (front ++ g) r
  pub no_mark : (w r : List ℕ) (m : Mark) → s ≡ w ++ r → Stands w r m → ⊥

abbrev pub Right : List ℕ → Start → Type 0
Right s (blank more) = Skipped s more
Right s (mark m more) = Found s m more

pick : (s : List ℕ) (b : Bool) (x y : Start) → (b ≡ true → Right s x) → (b ≡ false → Right s y) → Right s (when b then x else y)
pick s true x y p q = p refl
pick s false x y p q = q refl

-- ---- words

-- a beginning and a number, or not
numbered_cases : (P : Mark → Type 0) (f : ℕ → Mark) (t : String) (w : List ℕ) (other : Mark)
    → ((i : ℕ) → NumberedWord t w i → P (f i)) → (((i : ℕ) → NumberedWord t w i → ⊥) → P other) → P (numbered f (after (bytes t) w) other)
numbered_cases P f t w other yes-one no_one = go (after (bytes t) w) refl
  where
    one : (s : List ℕ) → after (bytes t) w ≡ some s → (o : Option ℕ) → number_spelt word_digits s ≡ o → P (made f o other)
    one s e none q = no_one (λ i. λ x.
        let same_rest : x.0 ≡ s = let z : some x.0 ≡ some s = sym (after_front (bytes t) x.0) ∙ ap (after (bytes t)) (sym x.1) ∙ e in cc in
        no_number word_digits s q i (rw same_rest at x.2))
    one s e (some v) q = yes-one v (s, after_is (bytes t) w s e, number_of word_digits s v q)

    go : (o : Option (List ℕ)) → after (bytes t) w ≡ o → P (numbered f o other)
    go none e = no_one (λ i. λ x. let z : ◌≡◌ {A = ℕ} 0 1 = let q : some x.0 ≡ none = sym (after_front (bytes t) x.0) ∙ ap (after (bytes t)) (sym x.1) ∙ e in cc in absurd (omega arith))
    go (some s) e = one s e (number_spelt word_digits s) refl

abbrev Whole : List ℕ → Mark → Type 0
Whole w m = Spells w m × (length w ≡ taken m w)

word_spells : (w : List ℕ) → Word w → Whole w (word_mark w)
word_spells w h =
    numbered_cases (Whole w) seat "s" w (numbered process (after (bytes "process") w) (text w)) (λ i n. (seat_word n, refl))
    (λ no-seat. numbered_cases (Whole w) process "process" w (text w) (λ i n. (module_word n, refl))
    (λ no-module. (other_word h no-seat no-module, refl)))

word_found : (b : ℕ) (t : List ℕ) → NoComment (b ∷ t) → is_letter b ≡ true → Right (b ∷ t) (word b t)
word_found b t c l =
    let w = b ∷ run in_word t in
    let whole = word_spells w (a_word l (run_passes in_word t)) in
    record {
      spelt = w;
      rest = drop (length (run in_word t)) t;
      split = ap (λ (s : List ℕ). b ∷ s) (run_split in_word t);
      spells = whole.0;
      longest = λ p q m e x. omega (arith, letter_reach b t p q l e (form p m x));
      no_comment = c;
      reach = whole.1;
    }

-- ---- numbers and decimals

begun_some : (p : ℕ → Bool) (s : List ℕ) → begins p s ≡ true → 0 < length (run p s)
begun_some p [] e = not_both false e refl
begun_some p (b ∷ s) e = rw e (omega arith)

module _ (x s z : List ℕ) (c : NoComment x) (e : x ≡ s ++ z) (ds : every is_digit s ≡ true) (h : 0 < length s) (far : (p q : List ℕ) (m : Mark) → x ≡ p ++ q → Spells p m → length p ≤ length s + point_reach z) (more : ℕ) (n : suc more ≡ length s) where
  -- no point belongs to the digits
  alone : (m : Mark) (k : ℕ) → pointed z ≡ false → Spells s m → suc k ≡ taken m s → Right x (mark m k)
  alone m k no-point sp t = record { spelt = s; rest = z; split = e; spells = sp; longest = λ p q i y w. omega (arith, rw no-point at far p q i y w); no_comment = c; reach = t }

  -- a point and the digits f do
  module _ (a : ℕ) (y : List ℕ) (is-z : z ≡ a ∷ y) (pt : pointed (a ∷ y) ≡ true) where
    dot : a ≡ 46
    dot = eqb-true a 46 (and_left (eqb a 46) (begins is_digit y) pt)

    further : Numeral (run is_digit y) (value_from 0 (run is_digit y))
    further = numeral_of (run is_digit y) (run_passes is_digit y) (begun_some is_digit y (and_right (eqb a 46) (begins is_digit y) pt))

    with_point : (m : Mark) (k : ℕ) → Spells (s ++ (46 ∷ run is_digit y)) m → suc k ≡ taken m (s ++ (46 ∷ run is_digit y)) → Right x (mark m k)
    with_point m k sp t = record {
      spelt = s ++ (46 ∷ run is_digit y);
      rest = drop (length (run is_digit y)) y;
      split = e ∙ ap (λ (u : List ℕ). s ++ u) (is-z ∙ ap₂ ◌∷◌ dot (run_split is_digit y)) ∙ sym (append_assoc s (46 ∷ run is_digit y) (drop (length (run is_digit y)) y));
      spells = sp;
      longest = λ p q i g w. omega (arith, rw (is-z, pt) at far p q i g w, length-append s (46 ∷ run is_digit y));
      no_comment = c;
      reach = t;
    }

    decimal_found : (v : ℕ) → Number number_digits s v → Right x (decimal_mark v more (run is_digit y))
    decimal_found v num = pick x (leb (length (run is_digit y)) further_digits) (mark (decimal v (length (run is_digit y)) (value_from 0 (run is_digit y))) (more + 1 + length (run is_digit y))) (mark outside 0)
        (λ q. with_point (decimal v (length (run is_digit y)) (value_from 0 (run is_digit y))) (more + 1 + length (run is_digit y)) (a_decimal num further (leb-true (length (run is_digit y)) further_digits q)) (omega (arith, length-append s (46 ∷ run is_digit y))))
        (λ q. with_point outside 0 (wrong_further num further (leb-false (length (run is_digit y)) further_digits q)) refl)

  numeral_found : (o : Option ℕ) → number_spelt number_digits s ≡ o → (u : List ℕ) → z ≡ u → Right x (numeral_mark o more u)
  numeral_found none q [] r = alone outside 0 (rw r) (wrong_number (numeral_of s ds h) (no_number number_digits s q)) refl
  numeral_found none q (a ∷ y) r = cases (pointed (a ∷ y))
      (λ pt. with_point a y r pt outside 0 (wrong_whole (numeral_of s ds h) (no_number number_digits s q) (further a y r pt)) refl)
      (λ pt. alone outside 0 (rw r pt) (wrong_number (numeral_of s ds h) (no_number number_digits s q)) refl)
  numeral_found (some v) q [] r = alone (number v) more (rw r) (a_number (number_of number_digits s v q)) n
  numeral_found (some v) q (a ∷ y) r = pick x (pointed (a ∷ y)) (decimal_mark v more (run is_digit y)) (mark (number v) more)
      (λ pt. decimal_found a y r pt v (number_of number_digits s v q))
      (λ pt. alone (number v) more (rw r pt) (a_number (number_of number_digits s v q)) n)

number_found : (b : ℕ) (t : List ℕ) → NoComment (b ∷ t) → is_digit b ≡ true → Right (b ∷ t) (numeral b t)
number_found b t c d =
    let s = b ∷ run is_digit t in
    let z = drop (length (run is_digit t)) t in
    let whole : numeral_reach (b ∷ t) ≡ length s + point_reach z = ap (λ (u : List ℕ). length u + point_reach (drop (length u) (b ∷ t))) (run_on is_digit b t d) in
    let far : (p q : List ℕ) (m : Mark) → b ∷ t ≡ p ++ q → Spells p m → length p ≤ length s + point_reach z = λ p q m e x. omega (arith, digit_reach (b ∷ t) p q d e (form p m x), whole) in
    numeral_found (b ∷ t) s z c (ap (λ (u : List ℕ). b ∷ u) (run_split is_digit t)) (rw (d, run_passes is_digit t)) (omega arith) far (length (run is_digit t)) refl
    (number_spelt number_digits s) refl z refl

-- ---- signs

module _ (b : ℕ) (t : List ℕ) (c : NoComment (b ∷ t)) (no-blank : is_blank b ≡ false) (no-letter : is_letter b ≡ false) (no_digit : is_digit b ≡ false) where
  sign_alone : ((a : ℕ) → second b ≡ some a → begins (eqb a) t ≡ true → ⊥) → Right (b ∷ t) (sign1 b)
  sign_alone no-two = pick (b ∷ t) (is_sign b) (mark (text (b ∷ [])) 0) (mark outside 0)
      (λ e. single (text (b ∷ [])) (a_sign (sign_one b e)) refl)
      (λ e. single outside (stray (record { no_blank = no-blank; no_letter = no-letter; no_digit = no_digit; no_sign = λ o. not_both (is_sign b) (one_sign b o) e })) refl)
    where
      single : (m : Mark) → Spells (b ∷ []) m → 1 ≡ taken m (b ∷ []) → Right (b ∷ t) (mark m 0)
      single m sp k = record {
        spelt = b ∷ [];
        rest = t;
        split = refl;
        spells = sp;
        longest = λ p q i e x. sign_reach b t p q no-letter no_digit e (form p i x) (λ l. omega arith) (λ a y z l. absurd (no-two a y z));
        no_comment = c;
        reach = k;
      }

  sign_found : (o : Option ℕ) → second b ≡ o → Right (b ∷ t) (sign2 b o t)
  sign_found none e = sign_alone (λ a q y. let z : ◌≡◌ {A = ℕ} 0 1 = cc in absurd (omega arith))
  sign_found (some a) e = pick (b ∷ t) (begins (eqb a) t) (mark (text (b ∷ a ∷ [])) 1) (sign1 b)
      (λ y. double t y refl)
      (λ y. sign_alone (λ k q z. let w : k ≡ a = cc in not_both (begins (eqb a) t) (rw (← w) z) y))
    where
      double : (u : List ℕ) → begins (eqb a) u ≡ true → t ≡ u → Right (b ∷ t) (mark (text (b ∷ a ∷ [])) 1)
      double [] y r = not_both false y refl
      double (k ∷ u) y r = record {
        spelt = b ∷ a ∷ [];
        rest = u;
        split = ap (λ (v : List ℕ). b ∷ v) (r ∙ ap (λ (j : ℕ). j ∷ u) (sym (eqb-true a k y)));
        spells = a_sign (sign_two b a e);
        longest = λ p q i g x. sign_reach b t p q no-letter no_digit g (form p i x) (λ l. omega arith) (λ a y z l. omega arith);
        no_comment = c;
        reach = refl;
      }

-- ---- blanks and comments

blank_found : (b : ℕ) (t : List ℕ) → is_blank b ≡ true → Right (b ∷ t) (blank 0)
blank_found b t e = record {
  front = b ∷ [];
  rest = t;
  split = refl;
  reach = refl;
  before = λ g r q x. a_blank e x;
  no_mark = λ w r m q x. blank_reach b t w r e q (form w m x.spells);
}

line_over : (s : List ℕ) → begins not_lf s ≡ false → LineOver s
line_over [] e = tt
line_over (b ∷ s) e = omega (arith, eqb-true b 10 (not-false (eqb b 10) e))

comment_found : (b : ℕ) (t : List ℕ) → b ≡ 47 → (u : List ℕ) → t ≡ u → begins (eqb 47) u ≡ true → Right (b ∷ t) (comment t)
comment_found b t q [] r e = not_both false e refl
comment_found b t q (a ∷ y) r e =
    let c = run not_lf y in
    let slash : a ≡ 47 = sym (eqb-true 47 a e) in
    let over : begins not_lf (drop (length c) y) ≡ false = run_stops not_lf y in
    let is-s : b ∷ t ≡ 47 ∷ 47 ∷ y = ap₂ ◌∷◌ q (r ∙ ap (λ (k : ℕ). k ∷ y) slash) in
    let long : length (run not_lf t) ≡ suc (length c) = rw (r, slash) in
    record {
      front = 47 ∷ 47 ∷ c;
      rest = drop (length c) y;
      split = is-s ∙ ap (λ (k : List ℕ). 47 ∷ 47 ∷ k) (run_split not_lf y);
      reach = ap suc (sym long);
      before = λ g r z x. a_comment c (run_passes not_lf y) (subst LineOver z (line_over (drop (length c) y) over)) x;
      no_mark = λ w r m z x. x.no_comment y (sym z ∙ is-s);
    }

-- ---- whatever starts at a byte

pub start_right : (b : ℕ) (t : List ℕ) → Right (b ∷ t) (start_at b t)
start_right b t =
    pick (b ∷ t) (is_blank b) (blank 0) _ (λ e. blank_found b t e) λ no-blank.
    pick (b ∷ t) (eqb b 47 && begins (eqb 47) t) (comment t) _
    (λ e. comment_found b t (eqb-true b 47 (and_left (eqb b 47) (begins (eqb 47) t) e)) t refl (and_right (eqb b 47) (begins (eqb 47) t) e)) λ none-begins.
    let c : NoComment (b ∷ t) = λ y e. not_both (eqb b 47 && begins (eqb 47) t) (rw (head-eq_of_cons-eq e, tail-eq_of_cons-eq e)) none-begins in
    pick (b ∷ t) (is_letter b) (word b t) _ (λ l. word_found b t c l) λ no-letter.
    pick (b ∷ t) (is_digit b) (numeral b t) (sign b t) (λ d. number_found b t c d) λ no_digit.
    sign_found b t c no-blank no-letter no_digit (second b) refl
