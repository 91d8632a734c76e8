-- The full walk by seats gives what the walk by counts gives: a statement has as many turns as its counts say that seats are able to take it, so it
-- is a choice exactly where the counts let it pass. So only counts matter, and not the order of the seats. Assumes nothing.
use Prim.Native.Nat.{ℕ, suc, ◌<◌}
use mathlib.Core.Path.{◌≡◌, refl, sym, ap, ◌∙◌}
use mathlib.Core.Bool.{Bool, true, false}
use mathlib.Core.List.{List, [], ◌∷◌, ◌++◌}
use mathlib.Core.Option.{some}
use borrow.Author.Tests.{lt-ltb}
use lib.Dec.{ltb}
use native.Mathlib.Omega.{arith}
use lib.ListN.{length}
use Rattle.card.specs.Text.{when◌then◌else◌}
use Rattle.card.specs.Card.{Statement, Card}
use Rattle.meaning.specs.Position.{Position}
use Rattle.meaning.specs.Steps.{Turn}
use Rattle.meaning.specs.Choices.{choice, choices_of}
use Rattle.meaning.specs.Seats.{Seating, ValidSeating, counted, turns_by, choices_from}
use Rattle.meaning.specs.Reordered.{Reordered}
use Rattle.meaning.specs.ByCounts.{able}
use Rattle.meaning.proofs.Counting.{Within}
use Rattle.meaning.proofs.Turns.{turns_length}
use Rattle.meaning.proofs.Reorder.{reordered_valid, reordered_counts}
use Rattle.moving.specs.FirstMove.{first_of, first_move, first_at}

-- states at most k, which need not be the card's
module _ (k : ℕ) (x : Seating) (w : Within k x.each) where
  pub walks_alike : (q : ℕ) (l : List Statement) → first_of (choices_from q l x) ≡ first_at (length x.each) (counted k x) q l
  unfolding choices_of first_at
  walks_alike q [] = refl
  walks_alike q (s ∷ l) = go (turns_by s x) (turns_length k x w s) (walks_alike (suc q) l)
    where
      go : (m : List (Turn Seating)) → length m ≡ able (length x.each) (counted k x) s → first_of (choices_from (suc q) l x) ≡ first_at (length x.each) (counted k x) (suc q) l
          → first_of (choice q m ++ choices_from (suc q) l x) ≡ (when ltb 0 (able (length x.each) (counted k x) s) then some q else first_at (length x.each) (counted k x) (suc q) l)
      go [] e h = rw (← e) h
      go (t ∷ m) e h = let some-able : 0 < able (length x.each) (counted k x) s = omega arith in rw (lt-ltb 0 (able (length x.each) (counted k x) s) some-able)

pub first_by_counts : (c : Card) (x : Seating) → ValidSeating c x → first_move c x ≡ first_at c.n (counted c.k x) 1 c.statements
unfolding first_move
first_by_counts c x ok = walks_alike c.k x ok.states 1 c.statements ∙ rw ok.seats

pub equal_counts : (c : Card) (x y : Seating) → ValidSeating c x → ValidSeating c y → counted c.k x ≡ counted c.k y → first_move c x ≡ first_move c y
equal_counts c x y ok ok' e =
    first_by_counts c x ok ∙ ap (λ (v : Position). first_at c.n v 1 c.statements) e ∙ sym (first_by_counts c y ok')

pub reordered_first : (c : Card) {x y : Seating} → Reordered x y → ValidSeating c x → first_move c x ≡ first_move c y
reordered_first c {x} {y} r ok = equal_counts c x y ok (reordered_valid c r ok) (reordered_counts c.k r)

-- what stands behind the statement that is given changes nothing
pub rest_unread : (n : ℕ) (v : Position) (p q : ℕ) (l m : List Statement) → first_at n v p l ≡ some q → first_at n v p (l ++ m) ≡ some q
unfolding first_at
rest_unread n v p q [] m e = let z : ◌≡◌ {A = ℕ} 0 1 = cc in absurd (omega arith)
rest_unread n v p q (s ∷ l) m e = go (ltb 0 (able n v s)) e (rest_unread n v (suc p) q l m)
  where
    go : (b : Bool) → (when b then some p else first_at n v (suc p) l) ≡ some q → (first_at n v (suc p) l ≡ some q → first_at n v (suc p) (l ++ m) ≡ some q)
        → (when b then some p else first_at n v (suc p) (l ++ m)) ≡ some q
    go true e h = e
    go false e h = h e
