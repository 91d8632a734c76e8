-- Decimal notation: the digits of a number are those of a tenth of it and its last one, and each fact goes by induction over that
-- (`decimal_ind`). That there is no other way to write a number: digits read behind a number v are the digits of v and then
-- themselves. Assumes nothing.
use Prim.Native.Nat.{ℕ, zero, suc, ◌+◌, ◌-◌, ◌*◌, ◌/◌, ◌%◌, ◌^◌, ◌≤◌, ◌<◌}
use mathlib.Core.Path.{◌≡◌, refl, sym, ap, ◌∙◌}
use mathlib.Core.Logic.{◌↔◌}
use mathlib.Core.List.{List, [], ◌∷◌, ◌++◌, append_assoc, append-nil}
use native.Mathlib.Decide.{dec_lt}
use native.Mathlib.Nat.{le_antisymm}
use native.Mathlib.Omega.{arith}
use borrow.Author.Tests.{lt-ltb, le-ltb}
use lib.ListN.{length, get_or, length-append, get_or-append}
use Rattle.card.specs.Text.{bytes}
use Rattle.room.specs.Digits.{digit, last_digits, decimal, AllDigits, Numeral, value_from, value}

pow_pos : (k : ℕ) → 0 < 10 ^ k
pow_pos zero = omega arith
pow_pos (suc k) = omega (arith, pow_pos k)

-- ---- the two ways of a number

pub by_size : {C : Type 0} (n : ℕ) → (n < 10 → C) → (10 ≤ n → C) → C
by_size {C} n small large = go (dec_lt n 10)
  where
    go : Dec (n < 10) → C
    go (yes h) = small h
    go (no h) = large (omega arith)

one_digit : (k n : ℕ) → n < 10 → last_digits (suc k) n ≡ digit n ∷ []
unfolding last_digits
one_digit k n h = rw (lt-ltb n 10 h)

more_digits : (k n : ℕ) → 10 ≤ n → last_digits (suc k) n ≡ last_digits k (n / 10) ++ (digit (n % 10) ∷ [])
unfolding last_digits
more_digits k n h = rw (le-ltb n 10 h)

-- n + 1 digits are enough
enough : (j k n : ℕ) → n < j → n < k → last_digits j n ≡ last_digits k n
enough zero k n g h = absurd (omega arith)
enough (suc j) zero n g h = absurd (omega arith)
enough (suc j) (suc k) n g h =
    by_size n (λ l. one_digit j n l ∙ sym (one_digit k n l))
    (λ l. more_digits j n l ∙ rw (enough j k (n / 10) (omega arith) (omega arith)) (sym (more_digits k n l)))

pub decimal_one : (n : ℕ) → n < 10 → decimal n ≡ digit n ∷ []
unfolding decimal
decimal_one n h = one_digit n n h

pub decimal_more : (n : ℕ) → 10 ≤ n → decimal n ≡ decimal (n / 10) ++ (digit (n % 10) ∷ [])
unfolding decimal
decimal_more n h = more_digits n n h ∙ rw (enough n (suc (n / 10)) (n / 10) (omega arith) (omega arith))

-- a number of two digits whose first is 1
pub decimal_teen : (n : ℕ) → 10 ≤ n → n < 20 → decimal n ≡ 49 ∷ digit (n - 10) ∷ []
decimal_teen n l h =
    let tens : n / 10 ≡ 1 = omega arith in
    let units : n % 10 ≡ n - 10 = omega arith in
    decimal_more n l ∙ rw (tens, units, decimal_one 1 (omega arith))

module _ (P : ℕ → List ℕ → Type 0) (one : (n : ℕ) → n < 10 → P n (digit n ∷ []))
    (more : (n : ℕ) (s : List ℕ) → 10 ≤ n → P (n / 10) s → P n (s ++ (digit (n % 10) ∷ []))) where
  below : (k n : ℕ) → n < k → P n (decimal n)
  below zero n h = absurd (omega arith)
  below (suc k) n h =
      by_size n (λ l. rw (decimal_one n l) (one n l))
      (λ l. rw (decimal_more n l) (more n (decimal (n / 10)) l (below k (n / 10) (omega arith))))

  pub decimal_ind : (n : ℕ) → P n (decimal n)
  decimal_ind n = below (suc n) n (omega arith)

-- ---- its digits read back, by any reading that takes one digit after the other

module _ (read : ℕ → List ℕ → ℕ) (none : (v : ℕ) → read v [] ≡ v)
    (some : (v b : ℕ) (s : List ℕ) → read v (b ∷ s) ≡ read (v * 10 + (b - digit 0)) s) where
  read_append : (v : ℕ) (s t : List ℕ) → read v (s ++ t) ≡ read (read v s) t
  read_append v [] t = rw (none v)
  read_append v (b ∷ s) t = rw (some v b (s ++ t), some v b s) (read_append (v * 10 + (b - digit 0)) s t)

  pub decimal_read : (n : ℕ) → read 0 (decimal n) ≡ n
  decimal_read =
      decimal_ind (λ n s. read 0 s ≡ n)
      (λ n h. some 0 (digit n) [] ∙ none (0 * 10 + (digit n - digit 0)) ∙ omega arith)
      (λ n s h e.
      read_append 0 s (digit (n % 10) ∷ [])
      ∙ some (read 0 s) (digit (n % 10)) []
      ∙ none (read 0 s * 10 + (digit (n % 10) - digit 0))
      ∙ omega arith)

pub decimal_value : (n : ℕ) → value (decimal n) ≡ n
unfolding value_from
decimal_value = decimal_read value_from (λ v. refl) (λ v b s. refl)

pub decimal_injective : (m n : ℕ) → decimal m ≡ decimal n → m ≡ n
decimal_injective m n e = sym (decimal_value m) ∙ ap value e ∙ decimal_value n

-- ---- it is a numeral

all_append : (s t : List ℕ) → AllDigits s → AllDigits t → AllDigits (s ++ t)
all_append [] t p q = q
all_append (b ∷ s) t (g, h, p) q = (g, h, all_append s t p q)

pub decimal_digits : (n : ℕ) → AllDigits (decimal n)
decimal_digits =
    decimal_ind (λ n s. AllDigits s) (λ n h. (omega arith, omega arith, tt))
    (λ n s h p. all_append s (digit (n % 10) ∷ []) p (omega arith, omega arith, tt))

pub decimal_some : (n : ℕ) → 0 < length (decimal n)
decimal_some =
    decimal_ind (λ n s. 0 < length s) (λ n h. omega arith)
    (λ n s h p. omega (arith, length-append s (digit (n % 10) ∷ [])))

-- a number but 0 has no zero in front
pub decimal_front : (n : ℕ) → 0 < n → digit 0 < get_or (decimal n) 0 0
decimal_front n h =
    (decimal_ind (λ n s. (0 < length s) × (0 < n → digit 0 < get_or s 0 0)) (λ n l. (omega arith, λ g. omega arith))
    (λ n s l p. (
      omega (arith, length-append s (digit (n % 10) ∷ [])),
      λ g.
          rw (get_or-append s (digit (n % 10) ∷ []) 0 0 p.0) (p.1 (omega arith)),
    ))
    n).1 h

pub length_one : (n : ℕ) → n < 10 → length (decimal n) ≡ 1
length_one n h = ap length (decimal_one n h)

pub length_more : (n : ℕ) → 10 ≤ n → length (decimal n) ≡ length (decimal (n / 10)) + 1
length_more n h = ap length (decimal_more n h) ∙ length-append (decimal (n / 10)) (digit (n % 10) ∷ [])

-- below ten to the k there are k digits at most
pub decimal_length : (k n : ℕ) → n < 10 ^ suc k → length (decimal n) ≤ suc k
decimal_length zero n h = omega (arith, length_one n (omega arith))
decimal_length (suc k) n h =
    by_size n (λ l. omega (arith, length_one n l))
    (λ l. omega (arith, length_more n l, decimal_length k (n / 10) (omega arith)))

-- and from ten to the k on there are more than k
pub decimal_longer : (k n : ℕ) → 10 ^ k ≤ n → k < length (decimal n)
decimal_longer zero n h = decimal_some n
decimal_longer (suc k) n h =
    by_size n (λ l. absurd (omega (arith, pow_pos k)))
    (λ l. omega (arith, length_more n l, decimal_longer k (n / 10) (omega arith)))

pub decimal_size : (k n : ℕ) → 10 ^ k ≤ n → n < 10 ^ suc k → length (decimal n) ≡ suc k
decimal_size k n h l = le_antisymm (decimal_length k n l) (decimal_longer k n h)

pub decimal_numeral : (n : ℕ) → Numeral (decimal n)
decimal_numeral n = record { digits = decimal_digits n; some = decimal_some n; front = front (dec_lt n 1) }
  where
    front : Dec (n < 1) → 1 < length (decimal n) → digit 0 < get_or (decimal n) 0 0
    front (yes z) l = absurd (omega (arith, length_one n (omega arith)))
    front (no z) l = decimal_front n (omega arith)

-- ---- and no other numeral has its value

-- digits behind a number
pub decimal_behind : (v : ℕ) (s : List ℕ) → 0 < v → AllDigits s → decimal (value_from v s) ≡ decimal v ++ s
unfolding value_from
decimal_behind v [] h p = sym (append-nil (decimal v))
decimal_behind v (b ∷ s) h (low, high, p) =
    let w = v * 10 + (b - digit 0) in
    let tenth : w / 10 ≡ v = omega arith in
    let last : digit (w % 10) ≡ b = omega arith in
    decimal_behind w s (omega arith) p
    ∙ rw (decimal_more w (omega arith), tenth, last) (append_assoc (decimal v) (b ∷ []) s)

pub decimal_only : (s : List ℕ) → Numeral s → decimal (value s) ≡ s
unfolding value_from
decimal_only [] q = absurd (omega (arith, q.some))
decimal_only (b ∷ []) q =
    let same : digit (0 * 10 + (b - digit 0)) ≡ b = omega (arith, q.digits.0) in
    decimal_one (0 * 10 + (b - digit 0)) (omega (arith, q.digits.1)) ∙ rw same
decimal_only (b ∷ c ∷ s) q =
    let v = 0 * 10 + (b - digit 0) in
    let large : digit 0 < b = q.front (omega arith) in
    let same : digit v ≡ b = omega arith in
    decimal_behind v (c ∷ s) (omega arith) q.digits.2 ∙ rw (decimal_one v (omega (arith, q.digits.1)), same)

-- the decimal notation of n, exactly
pub decimal_exactly : (n : ℕ) (s : List ℕ) → (s ≡ decimal n) ↔ (Numeral s × (value s ≡ n))
decimal_exactly n s =
    (λ e. rw e (decimal_numeral n, decimal_value n), λ q. sym (decimal_only s q.0) ∙ ap decimal q.1)

-- worked examples
decimal_0 : decimal 0 ≡ bytes "0"
unfolding decimal
decimal_0 = refl

decimal_25200 : decimal 25200 ≡ bytes "25200"
unfolding decimal
decimal_25200 = refl

decimal_most : decimal 18446744073709551615 ≡ bytes "18446744073709551615"
unfolding decimal
decimal_most = refl
