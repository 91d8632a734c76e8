-- A number is stored from its last digit on: each turn stores one byte more of its text, in front of those that stand already, and what
-- falls outside the room would change nothing. Assumes nothing.
use Prim.Native.Nat.{ℕ, suc, ◌+◌, ◌-◌, ◌%◌, ◌/◌, ◌≤◌, ◌<◌, min}
use mathlib.Core.Path.{◌≡◌, refl, sym, ap, ◌∙◌}
use mathlib.Core.List.{List, [], ◌∷◌}
use native.Mathlib.Nat.{add-zero}
use native.Mathlib.Omega.{arith}
use lib.ListN.{length, get_or, take, drop, set, drop_of_length-le}
use lib.Seq.{set_comm, take_all, take_at, take-take, drop-cons, length-take-le, get_or-take, get_or-append_seam}
use Rattle.room.specs.Room.{clip, cap, Put}
use Rattle.room.specs.Digits.{digit, decimal}
use Rattle.room.proofs.Laws.{clip_none, clip_past}
use Rattle.room.proofs.Decimal.{by_size, decimal_one, decimal_more, length_one, length_more}

-- ---- from the end on, down to byte j

-- what is stored in front of a text may be stored after it
clip_set : (room : List ℕ) (i b at : ℕ) (s : List ℕ) → i < at → clip (set room i b) at s ≡ set (clip room at s) i b
unfolding clip
clip_set room i b at [] h = refl
clip_set room i b at (x ∷ s) h =
    rw (set_comm room i at b x (λ e. omega arith)) (clip_set (set room at x) i b (suc at) s (omega arith))

clip_back : (was : List ℕ) (at : ℕ) (s : List ℕ) (j : ℕ) → j < length s
    → clip was (at + j) (drop j s) ≡ set (clip was (suc (at + j)) (drop (suc j) s)) (at + j) (get_or s j 0)
unfolding clip
clip_back was at s j h = rw (drop-cons s j 0 h) (clip_set was (at + j) (get_or s j 0) (suc (at + j)) (drop (suc j) s) (omega arith))

module _ (was : List ℕ) (at : ℕ) (s : List ℕ) (j : ℕ) where
  -- nothing yet
  pub back_none : length s ≤ j → was ≡ clip was (at + j) (drop j s)
  back_none h = rw (drop_of_length-le s h) (sym (clip_none was (at + j)))

  -- a byte more, which the room has a place for
  pub back_more : {is : List ℕ} {b : ℕ} → 0 < j → j ≤ length s → b ≡ get_or s (j - 1) 0 → is ≡ clip was (at + j) (drop j s)
      → set is (at + (j - 1)) b ≡ clip was (at + (j - 1)) (drop (j - 1) s)
  back_more h l d e =
      let there : at + j ≡ suc (at + (j - 1)) = omega arith in
      let next : j ≡ suc (j - 1) = omega arith in
      rw (e, d) (ap (λ (k : ℕ). set (clip was k (drop j s)) (at + (j - 1)) (get_or s (j - 1) 0)) there
      ∙ ap (λ (k : ℕ). set (clip was (suc (at + (j - 1))) (drop k s)) (at + (j - 1)) (get_or s (j - 1) 0)) next
      ∙ sym (clip_back was at s (j - 1) (omega arith)))

  -- or has not
  pub back_past : {is : List ℕ} → 0 < j → length was ≤ at + (j - 1) → is ≡ clip was (at + j) (drop j s)
      → is ≡ clip was (at + (j - 1)) (drop (j - 1) s)
  back_past h l e = e ∙ clip_past was (at + j) (drop j s) (omega arith) ∙ sym (clip_past was (at + (j - 1)) (drop (j - 1) s) l)

  -- all of it
  pub back_all : {is : List ℕ} {r : ℕ} → length was < cap → j ≤ 0 → is ≡ clip was (at + j) (drop j s) → r ≡ min (at + length s) cap
      → Put was is at s r
  back_all h l e n =
      let none : j ≡ 0 = omega arith in
      record { small = h; wrote = e ∙ rw (none, add-zero); next = n }

-- ---- the digits of a number: the first j of n are those of `left`

pub record Leads (n j left : ℕ) : Type 0 where
  pub within : j ≤ length (decimal n)
  pub those : 0 < j → decimal left ≡ take j (decimal n)

pub leads_all : (n k : ℕ) → k ≡ length (decimal n) → Leads n k n
leads_all n k e = record { within = omega arith; those = λ h. sym (take_all k (decimal n) (omega arith)) }

decimal_last : (n j : ℕ) → length (decimal n) ≡ j → get_or (decimal n) (j - 1) 0 ≡ digit (n % 10)
decimal_last n j e =
    by_size n
    (λ l.
    let one : j - 1 ≡ 0 = omega (arith, length_one n l) in
    rw (one, decimal_one n l) (omega arith))
    (λ l.
    let front = decimal (n / 10) in
    let there : j - 1 ≡ length front = omega (arith, length_more n l) in
    rw (there, decimal_more n l) (get_or-append_seam front (digit (n % 10)) [] 0))

module _ {n j left : ℕ} (p : Leads n j left) (h : 0 < j) where
  as_long : length (decimal left) ≡ j
  as_long = ap length (p.those h) ∙ length-take-le j (decimal n) p.within

  -- the last of them
  pub leads_last : digit (left % 10) ≡ get_or (decimal n) (j - 1) 0
  leads_last =
      sym (decimal_last left j as_long)
      ∙ ap (λ (s : List ℕ). get_or s (j - 1) 0) (p.those h)
      ∙ get_or-take j (decimal n) (j - 1) 0 (omega arith)

  -- the others
  pub leads_next : Leads n (j - 1) (left / 10)
  leads_next =
      record {
        within = omega (arith, p.within);
        those = λ more.
            let front = decimal (left / 10) in
            by_size left (λ l. absurd (omega (arith, as_long, length_one left l)))
            (λ l.
            let long : length front ≡ j - 1 = omega (arith, as_long, length_more left l) in
            sym (take_at front (digit (left % 10) ∷ []) (j - 1) long)
            ∙ ap (take (j - 1)) (sym (decimal_more left l) ∙ p.those h)
            ∙ take-take (j - 1) j (decimal n) (omega arith));
      }
