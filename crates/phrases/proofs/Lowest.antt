-- A weight is written in lowest terms, and what is written is worth its units. Euclid's rounds keep the common divisors, so the last
-- number divides both and is divided by each that does.
use Prim.Native.Nat.{ℕ, zero, suc, ◌*◌, ◌/◌, ◌%◌, ◌≤◌, ◌<◌, ◌∣◌}
use mathlib.Core.Path.{◌≡◌, refl, sym, ap, ◌∙◌}
use mathlib.Core.Logic.{◌≢◌}
use mathlib.Core.Bool.{Bool, true, false}
use mathlib.Core.List.{List, [], ◌∷◌, ◌++◌}
use mathlib.Core.Option.{some}
use native.Mathlib.Nat.{dvd_refl, dvd-zero, dvd-mod_iff, mod-lt, pos_of_dvd_of_pos, div-mul_cancel, dvd-mul_right, mod-eq-zero_of_dvd, not-suc-le-zero, le_of_mul-le-mul_right, div-eq_of_eq-mul_right, mul-dvd-mul_right, dvd_of_mul-dvd-mul_right, eq-one_of_dvd-one, one-mul, mul_assoc, mul_comm}
use native.Mathlib.Omega.{arith}
use borrow.Author.Tests.{eq-eqb, ne_eqb, eqb-true, eqb-false, le-leb, lt-leb, leb-true}
use lib.Dec.{eqb, leb}
use Rattle.card.specs.Limits.{unit}
use Rattle.card.specs.Weight.{ratio, units_of}
use Rattle.room.specs.Digits.{decimal}
use Rattle.phrases.specs.Phrases.{LowestTerms, gcd, divisor, lowest, weight_text}

-- by a test
cases : {P : Type 0} (b : Bool) → (b ≡ true → P) → (b ≡ false → P) → P
cases true p q = p refl
cases false p q = q refl

gcd_stop : (f a b : ℕ) → b ≡ 0 → gcd f a b ≡ a
unfolding gcd
gcd_stop zero a b e = refl
gcd_stop (suc f) a b e = rw (eq-eqb b 0 e)

gcd_round : (f a b : ℕ) → b ≢ 0 → gcd (suc f) a b ≡ gcd f b (a % b)
unfolding gcd
gcd_round f a b h = rw (ne_eqb b 0 h)

gcd_divides : (f a b : ℕ) → b < f → (gcd f a b ∣ a) × (gcd f a b ∣ b)
gcd_divides zero a b h = absurd (not-suc-le-zero h)
gcd_divides (suc f) a b h = cases (eqb b 0)
    (λ e. let z = eqb-true b 0 e in rw (gcd_stop (suc f) a b z, z) (dvd_refl a, dvd-zero a))
    (λ e.
    let z = eqb-false b 0 e in
    let p : 0 < b = omega (arith, z) in
    let i = gcd_divides f b (a % b) (omega (arith, mod-lt a p)) in
    rw (gcd_round f a b z) ((dvd-mod_iff (gcd f b (a % b)) i.0).0 i.1, i.0))

gcd_greatest : (f a b d : ℕ) → b < f → d ∣ a → d ∣ b → d ∣ gcd f a b
gcd_greatest zero a b d h p q = absurd (not-suc-le-zero h)
gcd_greatest (suc f) a b d h p q = cases (eqb b 0)
    (λ e. rw (gcd_stop (suc f) a b (eqb-true b 0 e)) p)
    (λ e.
    let z = eqb-false b 0 e in
    let l : 0 < b = omega (arith, z) in
    rw (gcd_round f a b z) (gcd_greatest f b (a % b) d (omega (arith, mod-lt a l)) q ((dvd-mod_iff d q).1 p)))

-- the number of rounds makes no difference, once there are enough
gcd_rounds : (f g a b : ℕ) → b < f → b < g → gcd f a b ≡ gcd g a b
gcd_rounds zero g a b h l = absurd (not-suc-le-zero h)
gcd_rounds (suc f) zero a b h l = absurd (not-suc-le-zero l)
gcd_rounds (suc f) (suc g) a b h l = cases (eqb b 0)
    (λ e. let z = eqb-true b 0 e in gcd_stop (suc f) a b z ∙ sym (gcd_stop (suc g) a b z))
    (λ e.
    let z = eqb-false b 0 e in
    let p : 0 < b = omega (arith, z) in
    let m = mod-lt a p in
    gcd_round f a b z ∙ gcd_rounds f g b (a % b) (omega arith) (omega arith) ∙ sym (gcd_round g a b z))

-- one round of a loop over a and b
pub round : (a b : ℕ) → b ≢ 0 → gcd (suc b) a b ≡ gcd (suc (a % b)) b (a % b)
round a b h =
    let p : 0 < b = omega (arith, h) in
    let m = mod-lt a p in
    gcd_round b a b h ∙ gcd_rounds b (suc (a % b)) b (a % b) m (omega arith)

pub round_last : (a b : ℕ) → b ≡ 0 → gcd (suc b) a b ≡ a
round_last a b e = gcd_stop (suc b) a b e

-- the loop starts from the remainder of u, or from u itself
pub divisor_rounds : (u : ℕ) → u ≤ unit → divisor u ≡ gcd (suc u) unit u
unfolding divisor
divisor_rounds u h = gcd_rounds (suc unit) (suc u) unit u (omega arith) (omega arith)

positive : (b g m : ℕ) → b * g ≡ m → 0 < m → 0 < b
positive zero g m e h = absurd (omega arith)
positive (suc b) g m e h = omega arith

module _ (u : ℕ) (h : u ≤ unit) where
  abbrev above : ℕ
  above = u / divisor u

  abbrev under : ℕ
  under = unit / divisor u

  pub divides : (divisor u ∣ unit) × (divisor u ∣ u)
  unfolding divisor
  divides = gcd_divides (suc unit) unit u (omega arith)

  pub divisor_positive : 0 < divisor u
  divisor_positive = pos_of_dvd_of_pos divides.0 (omega arith)

  whole_under : under * divisor u ≡ unit
  whole_under = div-mul_cancel (divisor u) divides.0

  whole_above : above * divisor u ≡ u
  whole_above = div-mul_cancel (divisor u) divides.1

  under_positive : 0 < under
  under_positive = positive under (divisor u) unit whole_under (omega arith)

  above_le : above ≤ under
  above_le = le_of_mul-le-mul_right (rw (whole_above, whole_under) h) divisor_positive

  greatest : (d : ℕ) → d ∣ unit → d ∣ u → d ∣ divisor u
  unfolding divisor
  greatest d p q = gcd_greatest (suc unit) unit u d (omega arith) p q

  alone : (d : ℕ) → d ∣ above → d ∣ under → d ≡ 1
  alone d p q =
      let x : d * divisor u ∣ u = rw whole_above at (mul-dvd-mul_right d p (divisor u)) in
      let y : d * divisor u ∣ unit = rw whole_under at (mul-dvd-mul_right d q (divisor u)) in
      let z : d * divisor u ∣ 1 * divisor u = rw one-mul (greatest (d * divisor u) y x) in
      eq-one_of_dvd-one (dvd_of_mul-dvd-mul_right d divisor_positive z)

  same_value : above * unit ≡ u * under
  same_value =
      let e : above * unit ≡ above * (under * divisor u) = ap (λ (x : ℕ). above * x) (sym whole_under) in
      let f : u * under ≡ (above * divisor u) * under = ap (λ (x : ℕ). x * under) (sym whole_above) in
      e ∙ ap (λ (x : ℕ). above * x) (mul_comm under (divisor u)) ∙ sym (mul_assoc above (divisor u) under) ∙ sym f

  -- what is written is in lowest terms
  pub lowest_terms : LowestTerms u (u / divisor u) (unit / divisor u)
  lowest_terms = record { below = under_positive; value = same_value; coprime = alone }

  under_divides : unit % under ≡ 0
  under_divides = mod-eq-zero_of_dvd under (rw whole_under at (dvd-mul_right under (divisor u)))

  units_per : unit / under ≡ divisor u
  units_per = div-eq_of_eq-mul_right under_positive (sym whole_under)

  ratio_kept : units_of (ratio above under) ≡ some u
  unfolding units_of
  ratio_kept = rw (le-leb 1 under under_positive, under_divides, le-leb above under above_le, units_per, whole_above)

  -- and is read as its units
  pub lowest_kept : units_of (lowest u) ≡ some u
  unfolding units_of
  lowest_kept = cases (eqb u 0)
      (λ e. rw e (ap some (sym (eqb-true u 0 e))))
      (λ e. rw e (cases (leb unit u)
      (λ f. let z : unit ≡ u = omega (arith, leb-true unit u f) in rw f (ap some z))
      (λ f. rw f ratio_kept)))

-- ---- the text of a weight, in the form of the code's tests

pub text_none : (u : ℕ) → u ≡ 0 → (t : List ℕ) → (48 ∷ []) ++ t ≡ weight_text u t
unfolding weight_text decimal
text_none u e t = rw e

pub text_whole : (u : ℕ) → (u ≡ 0 → ⊥) → unit ≤ u → (t : List ℕ) → (49 ∷ []) ++ t ≡ weight_text u t
unfolding weight_text decimal
text_whole u h l t = rw (ne_eqb u 0 h, le-leb unit u l)

pub text_ratio : (u g : ℕ) → (u ≡ 0 → ⊥) → u < unit → g ≡ divisor u → (t : List ℕ) → decimal (u / g) ++ ((47 ∷ []) ++ (decimal (unit / g) ++ t)) ≡ weight_text u t
unfolding weight_text
text_ratio u g h l e t = rw (e, ne_eqb u 0 h, lt-leb unit u l)
