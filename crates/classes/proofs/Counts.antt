-- Class counts: each seat is in one class, and each state's seats are in its class; so they add up to the seats, and the counts of the states
-- tell them. They are also the counts of the list of the seats' classes. Assumes nothing.
use Prim.Native.Nat.{ℕ, suc, ◌≤◌}
use mathlib.Core.Path.{◌≡◌, refl, sym, ap, ◌∙◌}
use mathlib.Core.Bool.{Bool, true, false}
use mathlib.Core.List.{List, map}
use native.Mathlib.Omega.{arith}
use lib.Dec.{eqb}
use lib.ListN.{length, length-map}
use Rattle.card.specs.Limits.{top_class, public_classes}
use Rattle.card.specs.Valid.{Every}
use Rattle.meaning.specs.Sums.{gate, sum, upto}
use Rattle.meaning.specs.Seats.{count, counts}
use Rattle.meaning.specs.Reduced.{no_of}
use Rattle.meaning.proofs.Sums.{gate_zero, sum_every, sum_one, sum_gate, sum_map, length_upto, upto_cong, every_upto, sum_below, sum_upto, below_cong, below_exchange, below_pick}
use Rattle.meaning.proofs.Counting.{Within, no_count, count_le}
use Rattle.seating.proofs.Judging.{within_at}
use Rattle.classes.specs.Classes.{class_of, ValidClasses, in_class, class_counts, in_class_at, class_counts_at}

-- ---- from the counts of the states

gate_swap : (b c : Bool) (w : ℕ) → gate b (gate c w) ≡ gate c (gate b w)
gate_swap true c w = refl
gate_swap false c w = sym (gate_zero c)

module _ (k : ℕ) (list : List ℕ) (x : List ℕ) (long : length list ≡ suc k) (w : Within k x) where
  class_by_counts : (g : ℕ) → in_class list x g ≡ in_class_at list (counts k x) g
  class_by_counts g = sym (states ∙ by_seats ∙ below_exchange (suc k) (λ d a. gate (here d) (gate (eqb a d) 1)) x ∙ sum_every x w each)
    where
      here : ℕ → Bool
      here d = eqb (class_of list d) g

      states : in_class_at list (counts k x) g ≡ sum_below (suc k) (λ d. gate (here d) (no_of (counts k x) d))
      states = rw long (sum_upto (λ d. gate (here d) (no_of (counts k x) d)) (suc k) (λ d. d))

      by_seats : sum_below (suc k) (λ d. gate (here d) (no_of (counts k x) d)) ≡ sum_below (suc k) (λ d. sum (λ a. gate (here d) (gate (eqb a d) 1)) x)
      by_seats = below_cong (suc k) (λ d. gate (here d) (no_of (counts k x) d)) (λ d. sum (λ a. gate (here d) (gate (eqb a d) 1)) x)
          (λ d l. ap (gate (here d)) (no_count k x w d) ∙ sum_gate (here d) (λ a. gate (eqb a d) 1) x)

      each : (a : ℕ) → a ≤ k → sum_below (suc k) (λ d. gate (here d) (gate (eqb a d) 1)) ≡ gate (here a) 1
      each a h =
          below_cong (suc k) (λ d. gate (here d) (gate (eqb a d) 1)) (λ d. gate (eqb a d) (gate (here d) 1)) (λ d l. gate_swap (here d) (eqb a d) 1)
          ∙ below_pick (suc k) a (λ d. gate (here d) 1) (omega arith)

  pub by_counts : class_counts list x ≡ class_counts_at list (counts k x)
  unfolding class_counts class_counts_at
  by_counts = upto_cong public_classes (in_class list x) (in_class_at list (counts k x)) (λ g l. class_by_counts g)

-- ---- all of them together

pub adds_up : (k : ℕ) (list : List ℕ) (x : List ℕ) → ValidClasses k list → Within k x → sum (λ v. v) (class_counts list x) ≡ length x
unfolding class_counts
adds_up k list x ok w =
    below_exchange public_classes (λ g a. gate (eqb (class_of list a) g) 1) x ∙ sum_every x w one ∙ sum_one x
  where
    one : (a : ℕ) → a ≤ k → sum_below public_classes (λ g. gate (eqb (class_of list a) g) 1) ≡ 1
    one a h =
        let low : class_of list a ≤ top_class = within_at top_class list ok.classes a (omega (arith, ok.states)) in
        below_pick public_classes (class_of list a) (λ g. 1) (omega arith)

-- ---- none is above the number of seats

module _ (list : List ℕ) (x : List ℕ) where
  -- the seats' classes, seat by seat
  abbrev seats_classes : List ℕ
  seats_classes = map (class_of list) x

  class_count : (g : ℕ) → in_class list x g ≡ count g seats_classes
  class_count g = sym (sum_map (λ a. gate (eqb a g) 1) (class_of list) x)

  -- as the code counts them: the seats by the number that the list gives each
  pub classes_counted : upto public_classes (λ g. count g seats_classes) ≡ class_counts list x
  unfolding class_counts
  classes_counted = sym (upto_cong public_classes (in_class list x) (λ g. count g seats_classes) (λ g l. class_count g))

  pub class_most : (g : ℕ) → in_class list x g ≤ length x
  class_most g = rw (class_count g) (omega (arith, count_le g seats_classes, length-map x (class_of list)))

  pub each_most : Every (λ v. v ≤ length x) (class_counts list x)
  unfolding class_counts
  each_most = every_upto (λ v. v ≤ length x) public_classes (in_class list x) (λ g l. class_most g)

  pub how_many : length (class_counts list x) ≡ public_classes
  unfolding class_counts
  how_many = length_upto public_classes (in_class list x)
