-- Reordering the seats changes nothing that the panel shows: it keeps the number of seats, their states and every count. Assumes nothing.
use Prim.Native.Nat.{ℕ, suc}
use mathlib.Core.Path.{◌≡◌, refl, sym, ap, ◌∙◌}
use mathlib.Core.List.{List}
use native.Mathlib.Omega.{arith}
use lib.ListN.{length}
use Rattle.card.specs.Card.{Card}
use Rattle.meaning.specs.Seats.{Seating, ValidSeating, count, counts, counted}
use Rattle.meaning.specs.Position.{position}
use Rattle.meaning.specs.Panel.{panel}
use Rattle.meaning.specs.Reordered.{Swapped, done, keep, swap, then, Reordered}
use Rattle.meaning.proofs.Sums.{upto_cong}
use Rattle.meaning.proofs.Counting.{Within}
use Rattle.meaning.proofs.Panel.{equal_counts}

swapped_length : {x y : List ℕ} → Swapped x y → length x ≡ length y
swapped_length done = refl
swapped_length (keep a r) = ap suc (swapped_length r)
swapped_length (swap a b x) = refl
swapped_length (then r s) = swapped_length r ∙ swapped_length s

swapped_within : (k : ℕ) {x y : List ℕ} → Swapped x y → Within k x → Within k y
swapped_within k done w = tt
swapped_within k (keep a r) w = (w.0, swapped_within k r w.1)
swapped_within k (swap a b x) w = (w.1.0, (w.0, w.1.1))
swapped_within k (then r s) w = swapped_within k s (swapped_within k r w)

swapped_count : (d : ℕ) {x y : List ℕ} → Swapped x y → count d x ≡ count d y
swapped_count d done = refl
swapped_count d (keep a r) = omega (arith, swapped_count d r)
swapped_count d (swap a b x) = omega arith
swapped_count d (then r s) = swapped_count d r ∙ swapped_count d s

pub reordered_length : {x y : Seating} → Reordered x y → length x.each ≡ length y.each
reordered_length r = swapped_length r.seats

pub reordered_valid : (c : Card) {x y : Seating} → Reordered x y → ValidSeating c x → ValidSeating c y
reordered_valid c r ok = record {
  seats = sym (reordered_length r) ∙ ok.seats;
  states = swapped_within c.k r.seats ok.states;
  shared = rw r.shared at ok.shared;
}

pub reordered_counts : (k : ℕ) {x y : Seating} → Reordered x y → counted k x ≡ counted k y
unfolding counts
reordered_counts k r = λ i. position (upto_cong (suc k) _ _ (λ d l. swapped_count d r.seats) i) (r.shared i)

pub reordered_panel : (c : Card) {x y : Seating} → Reordered x y → ValidSeating c x → panel c x ≡ panel c y
reordered_panel c {x} {y} r ok = equal_counts c x y ok (reordered_valid c r ok) (reordered_counts c.k r)
