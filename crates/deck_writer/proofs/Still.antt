-- A text put part by part: each part leaves the rest still to be put. Assumes nothing.
use Prim.Native.Nat.{ℕ, ◌≤◌, ◌<◌, min}
use mathlib.Core.Path.{◌≡◌, refl, ◌∙◌}
use mathlib.Core.List.{List, [], ◌++◌}
use native.Mathlib.Omega.{arith}
use lib.ListN.{length}
use Rattle.room.specs.Room.{cap, Put}
use Rattle.room.proofs.Laws.{then, put_as, put_none, put_length}

-- whoever puts what is left at `to` has put all at `at`
pub record Still (was is : List ℕ) (at : ℕ) (all left : List ℕ) (to : ℕ) : Type 0 where
  pub completes : (b : List ℕ) (r : ℕ) → Put is b to left r → Put was b at all r
  pub long : length is ≡ length was
  pub small : length is < cap
  pub capped : to ≤ cap

pub still_all : {was : List ℕ} {at to : ℕ} (all : List ℕ) → length was < cap → to ≡ min at cap → Still was was at all all to
still_all all s e = record { completes = λ b r p. then (put_none s e) p; long = refl; small = s; capped = omega arith }

module _ {was is all left : List ℕ} {at to : ℕ} (s : Still was is at all left to) where
  pub still_none : left ≡ [] → Put was is at all to
  still_none e = s.completes is to (put_as e (put_none s.small (omega (arith, s.capped))))

  pub still_less : {b part : List ℕ} {m : ℕ} (rest : List ℕ) → left ≡ part ++ rest → Put is b to part m → Still was b at all rest m
  still_less {b} {part} {m} rest e p = record {
    completes = λ d r q. s.completes d r (put_as e (then p q));
    long = put_length p ∙ s.long;
    small = omega (arith, put_length p, s.small);
    capped = omega (arith, p.next);
  }
