-- The units that are computed for a weight are those that it is worth: each test that passed is a part of `Worth`,
-- and a product by a quotient is the quotient of the product wherever the division leaves no rest. Assumes nothing.
use Prim.Native.Nat.{ℕ, ◌+◌, ◌-◌, ◌*◌, ◌/◌, ◌%◌, ◌^◌, ◌≤◌, ◌<◌, ◌∣◌}
use mathlib.Core.Path.{◌≡◌, refl, sym, ap, ◌∙◌}
use mathlib.Core.Bool.{Bool, true, false, ◌&&◌, true≢false}
use mathlib.Core.Option.{some}
use mathlib.Core.Logic.{◌↔◌}
use native.Mathlib.Nat.{mul_comm, mul_assoc, mul-le-mul_right, div-mul_cancel, div-mul-le_self, dvd_trans, dvd-mul_right, dvd_of_mod-eq-zero, mod-eq-zero_of_dvd, pos_of_dvd_of_pos, eq_of_mul-eq-mul_right, one-le-pow, pow-le-pow_right, one-mul, le_trans}
use native.Mathlib.Omega.{arith}
use lib.Dec.{eqb, leb}
use lib.Pow.{pow-add}
use borrow.Author.Tests.{leb-true, le-leb, eqb-true, eq-eqb}
use Rattle.card.specs.Limits.{unit, weight_digits}
use Rattle.card.specs.Weight.{Weight, whole, decimal, ratio, shifted, Worth, given, units_of}

-- ---- tests

both : (a b : Bool) → a && b ≡ true → (a ≡ true) × (b ≡ true)
both true b e = (refl, e)
both false b e = absurd (true≢false (sym e))

given_some : (b : Bool) (v u : ℕ) → given b v ≡ some u → (b ≡ true) × (u ≡ v)
given_some true v u e = (refl, cc)
given_some false v u e = let z : ◌≡◌ {A = ℕ} 0 1 = cc in absurd (omega arith)

-- ---- quotients

-- a times the quotient is u exactly where u times the divisor is a times the whole
quotient : (a p m u : ℕ) → 0 < p → p ∣ m → (u ≡ a * (m / p)) ↔ (u * p ≡ a * m)
quotient a p m u h d =
    let e : a * (m / p) * p ≡ a * m = mul_assoc a (m / p) p ∙ ap (λ (x : ℕ). a * x) (div-mul_cancel p d) in
    ((λ q. ap (λ (x : ℕ). x * p) q ∙ e), (λ q. eq_of_mul-eq-mul_right p h u (a * (m / p)) (q ∙ sym e)))

-- and at most the whole where a is at most the divisor
pub quotient_most : (a p m : ℕ) → a ≤ p → a * (m / p) ≤ m
quotient_most a p m h = le_trans (mul-le-mul_right (m / p) h) (rw (mul_comm p (m / p)) (div-mul-le_self m p))

pub tens_least : (n : ℕ) → 1 ≤ 10 ^ n
tens_least n = one-le-pow n 10 (omega arith)

powers : (n d : ℕ) → n ≤ d → 10 ^ n ∣ 10 ^ d
powers n d h = let e : d ≡ n + (d - n) = omega arith in rw (e, pow-add 10 n (d - n)) (dvd-mul_right (10 ^ n) (10 ^ (d - n)))

-- a power of ten within the digits of a weight divides the unit
divides : (n : ℕ) → n ≤ weight_digits → 10 ^ n ∣ unit
divides n l = dvd_trans _ (powers n weight_digits l) (dvd_of_mod-eq-zero (10 ^ weight_digits) refl)

-- ---- the two are one

pub units_worth : (w : Weight) (u : ℕ) → units_of w ≡ some u ↔ Worth w u
unfolding units_of
units_worth (whole v) u = (
  (λ e. let g = given_some _ _ _ e in (leb-true v 1 g.0, g.1)),
  (λ k. rw (le-leb v 1 k.0, k.1)),
)
units_worth (decimal v n f) u = (
  (λ e. let g = given_some _ _ _ e in
      let t = both _ _ g.0 in
      let t' = both _ _ t.0 in
      let l = leb-true n weight_digits t'.1 in (
        leb-true 1 n t'.0,
        l,
        leb-true (shifted v n f) (10 ^ n) t.1,
        (quotient (shifted v n f) (10 ^ n) unit u (tens_least n) (divides n l)).0 g.1,
      )),
  (λ k. rw (le-leb 1 n k.0, le-leb n weight_digits k.1, le-leb (shifted v n f) (10 ^ n) k.2)
      (ap some (sym ((quotient (shifted v n f) (10 ^ n) unit u (tens_least n) (divides n k.1)).1 k.3)))),
)
units_worth (ratio a b) u = (
  (λ e. let g = given_some _ _ _ e in
      let t = both _ _ g.0 in
      let t' = both _ _ t.0 in
      let d = dvd_of_mod-eq-zero b (eqb-true (unit % b) 0 t'.1) in
      (d, leb-true a b t.1, (quotient a b unit u (leb-true 1 b t'.0) d).0 g.1)),
  (λ k. let p = pos_of_dvd_of_pos k.0 (omega arith) in
      rw (le-leb 1 b p, eq-eqb (unit % b) 0 (mod-eq-zero_of_dvd b k.0), le-leb a b k.1)
      (ap some (sym ((quotient a b unit u p k.0).1 k.2)))),
)

-- no weight is worth more than 1
pub units_most : (w : Weight) (u : ℕ) → units_of w ≡ some u → u ≤ unit
unfolding units_of
units_most (whole v) u e =
    let g = given_some _ _ _ e in
    rw g.1 (rw (one-mul unit) at (mul-le-mul_right unit (leb-true v 1 g.0)))
units_most (decimal v n f) u e =
    let g = given_some _ _ _ e in
    let t = both (leb 1 n && leb n weight_digits) (leb (shifted v n f) (10 ^ n)) g.0 in
    rw g.1 (quotient_most (shifted v n f) (10 ^ n) unit (leb-true (shifted v n f) (10 ^ n) t.1))
units_most (ratio a b) u e =
    let g = given_some _ _ _ e in
    let t = both (leb 1 b && eqb (unit % b) 0) (leb a b) g.0 in
    rw g.1 (quotient_most a b unit (leb-true a b t.1))

pub tens_most : (n : ℕ) → n ≤ weight_digits → 10 ^ n ≤ 10 ^ weight_digits
tens_most n h = pow-le-pow_right (omega arith) h
