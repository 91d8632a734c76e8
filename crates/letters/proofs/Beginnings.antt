-- Whether the bytes from a place on begin with others: one byte more, or the end. Assumes nothing.
use Prim.Native.Nat.{ℕ, ◌+◌, ◌≤◌, ◌<◌}
use mathlib.Core.Path.{◌≡◌, sym}
use mathlib.Core.Bool.{true, false}
use mathlib.Core.List.{List}
use lib.ListN.{length, get_or, drop, drop_of_length-le}
use borrow.Author.Tests.{eq-eqb, ne_eqb}
use Rattle.marks_on_a_card.specs.Bytes.{begun}
use Rattle.marks_on_a_card.proofs.Lists.{drop_at}

module _ (t s : List ℕ) (i j : ℕ) where
  pub begun_on : i < length t → j < length s → get_or s j 0 ≡ get_or t i 0 → begun (drop i t) (drop j s) ≡ begun (drop (i + 1) t) (drop (j + 1) s)
  begun_on h g e = rw (drop_at t i h, drop_at s j g, eq-eqb (get_or t i 0) (get_or s j 0) (sym e))

  pub begun_off : i < length t → j < length s → (get_or s j 0 ≡ get_or t i 0 → ⊥) → begun (drop i t) (drop j s) ≡ false
  begun_off h g e = rw (drop_at t i h, drop_at s j g, ne_eqb (get_or t i 0) (get_or s j 0) (λ q. e (sym q)))

  pub begun_all : length t ≤ i → begun (drop i t) (drop j s) ≡ true
  begun_all h = rw (drop_of_length-le t h)
