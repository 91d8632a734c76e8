-- Texts of one piece for each number of a range, as a loop puts them: one piece more after each turn. Assumes nothing.
use Prim.Native.Nat.{ℕ, zero, suc, ◌+◌, ◌-◌, ◌≤◌, ◌<◌, min}
use mathlib.Core.Path.{◌≡◌, sym, ap, ◌∙◌}
use mathlib.Core.List.{List}
use native.Mathlib.Nat.{add-zero}
use native.Mathlib.Omega.{arith}
use lib.ListN.{length}
use Rattle.room.specs.Room.{cap}
pub use Rattle.phrases.specs.Phrases.{Text, counted}
use Rattle.phrases.specs.Puts.{Puts}
use Rattle.phrases.proofs.Laws.{puts_then, puts_as, puts_none}

module _ (f : ℕ → Text) where
  counted_more : (i c : ℕ) (r : List ℕ) → counted f i (suc c) r ≡ counted f i c (f (i + c) r)
  unfolding counted
  counted_more i zero r = rw add-zero
  counted_more i (suc c) r = ap (f i) (counted_more (suc i) c r) ∙ ap (λ (k : ℕ). f i (counted f (suc i) c (f k r))) (omega arith)

  -- a loop starts at `place`, adds a piece in each turn, and ends at its bound
  pub counted_start : (i : ℕ) {a : List ℕ} {at r : ℕ} → length a < cap → r ≡ min at cap → Puts a a at (counted f i (i - i)) r
  unfolding counted
  counted_start i h e =
      let z : i - i ≡ 0 = omega arith in
      rw z (puts_none h e)

  pub counted_next : (first i : ℕ) {a b c : List ℕ} {at m r : ℕ} → first ≤ i → Puts a b at (counted f first (i - first)) m → Puts b c m (f i) r
      → Puts a c at (counted f first (i + 1 - first)) r
  counted_next first i h p q =
      let e : i + 1 - first ≡ suc (i - first) = omega arith in
      let k : first + (i - first) ≡ i = omega arith in
      rw e
      (puts_as (counted f first (suc (i - first)))
      (λ t. sym (counted_more first (i - first) t ∙ ap (λ (j : ℕ). counted f first (i - first) (f j t)) k))
      (puts_then p q))

  pub counted_end : (first i bound : ℕ) {g : Text} {a b : List ℕ} {at m : ℕ} → bound ≤ i → i - first ≤ bound - first
      → ((t : List ℕ) → counted f first (bound - first) t ≡ g t) → Puts a b at (counted f first (i - first)) m → Puts a b at g m
  counted_end first i bound {g} h l e p =
      let k : i - first ≡ bound - first = omega arith in
      puts_as g e (rw k at p)
