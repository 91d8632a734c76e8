-- The seats of a line stored one by one. Assumes nothing.
use Prim.Native.Nat.{ℕ, zero, suc, ◌+◌, ◌<◌}
use mathlib.Core.Path.{◌≡◌, refl, ap}
use mathlib.Core.List.{List, [], ◌∷◌, ◌++◌, map}
use native.Mathlib.Numerals.{add-one}
use native.Mathlib.Omega.{arith}
use lib.ListN.{length, get_or, set, take, drop}
use Rattle.panel_wording.specs.Lines.{seat_of}

-- the first i places have the seats of a line
abbrev pub sown : List ℕ → List ℕ → ℕ → List ℕ
sown line was i = map seat_of (take i line) ++ drop i was

sown_suc : (line was : List ℕ) (i : ℕ) → i < length line → i < length was → set (sown line was i) i (seat_of (get_or line i 0)) ≡ sown line was (suc i)
sown_suc [] was i h l = absurd (omega arith)
sown_suc (b ∷ line) [] i h l = absurd (omega arith)
sown_suc (b ∷ line) (w ∷ was) zero h l = refl
sown_suc (b ∷ line) (w ∷ was) (suc i) h l = ap (λ (r : List ℕ). seat_of b ∷ r) (sown_suc line was i (omega arith) (omega arith))

pub sown_next : (line was : List ℕ) {is : List ℕ} (i : ℕ) {b : ℕ} → i < length line → i < length was → b ≡ seat_of (get_or line i 0) → is ≡ sown line was i
    → set is i b ≡ sown line was (i + 1)
sown_next line was i h l e k = rw (e, k, add-one) (sown_suc line was i h l)
