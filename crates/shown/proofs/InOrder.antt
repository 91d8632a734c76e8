-- A panel's lines are in order: a block's moves are listed by old state, by new state and by the shared number, so what stands in a later list
-- has a larger one, and so are its stays; and places count up along the card, or the one is 0. Assumes nothing.
use Prim.Native.Nat.{ℕ, zero, suc, ◌≤◌, ◌<◌}
use mathlib.Core.Path.{◌≡◌, refl, sym, ◌∙◌}
use mathlib.Core.Logic.{inl, inr}
use mathlib.Core.Bool.{Bool, true, false, not, ◌&&◌}
use mathlib.Core.List.{List, [], ◌∷◌, ◌++◌, map}
use mathlib.Core.Option.{Option, none, some}
use native.Mathlib.Omega.{arith}
use lib.Dec.{eqb, ltb}
use Rattle.card.specs.Text.{when◌then◌else◌}
use Rattle.card.specs.Card.{Mode, nondeterministic, probabilistic, Statement}
use Rattle.card.specs.Valid.{Every}
use Rattle.meaning.specs.Sums.{upto, flat}
use Rattle.meaning.specs.Steps.{Turn, weight}
use Rattle.meaning.specs.Choices.{Choice, choice, choices_of, or_stay}
use Rattle.meaning.specs.Seats.{Seating, turns_by, choices_from, choices, steps}
use Rattle.meaning.specs.Panel.{Move, Stay, stay_line, move_line, moves_from, Block, stays_with, goes_with, block, block_of, one_of, blocks, panel}
use Rattle.meaning.specs.Position.{shared_values}
use Rattle.meaning.proofs.Sums.{every_append, every_imp}
use Rattle.shown.specs.InOrder.{Rising, Before, StayBefore, places, Ordered}

-- ---- lists one after the other

module _ {A : Type 0} where
  every_flat_upto : (P : A → Type 0) (n : ℕ) (f : ℕ → List A) → ((i : ℕ) → Every P (f i)) → Every P (flat (upto n f))
  every_flat_upto P zero f h = tt
  every_flat_upto P (suc n) f h = every_append P (f 0) (flat (upto n (λ i. f (suc i)))) (h 0) (every_flat_upto P n (λ i. f (suc i)) (λ i. h (suc i)))

  every_both : {B : Type 0} (P : B → A → Type 0) (xs : List A) → ((b : B) → Every (P b) xs) → Every (λ x. (b : B) → P b x) xs
  every_both P [] h = tt
  every_both P (x ∷ xs) h = (λ b. (h b).0, every_both P xs (λ b. (h b).1))

  module _ (R : A → A → Type 0) where
    rising_append : (xs ys : List A) → Rising R xs → Rising R ys → Every (λ x. Every (R x) ys) xs → Rising R (xs ++ ys)
    rising_append [] ys p q h = q
    rising_append (x ∷ xs) ys p q h = (every_append (R x) xs ys p.0 h.0, rising_append xs ys p.1 q h.1)

    -- lists that rise, each before the next
    rising_flat : (n : ℕ) (f : ℕ → List A) → ((i : ℕ) → Rising R (f i)) → ((i j : ℕ) → i < j → Every (λ x. Every (R x) (f j)) (f i)) → Rising R (flat (upto n f))
    rising_flat zero f each across = tt
    rising_flat (suc n) f each across =
        rising_append (f 0) (flat (upto n (λ i. f (suc i)))) (each 0)
        (rising_flat n (λ i. f (suc i)) (λ i. each (suc i)) (λ i j l. across (suc i) (suc j) (omega arith)))
        (every_imp (λ x. (i : ℕ) → Every (R x) (f (suc i))) (f 0) (every_both (λ i x. Every (R x) (f (suc i))) (f 0) (λ i. across 0 (suc i) (omega arith)))
        (λ x h. every_flat_upto (R x) n (λ i. f (suc i)) h))

-- ---- stays

stays_rise : (values : ℕ) (w : ℕ → ℕ) → Rising StayBefore (flat (upto values (λ h. stay_line h (w h))))
stays_rise values w = rising_flat StayBefore values (λ h. stay_line h (w h)) (λ h. alone h (w h) (ltb 0 (w h)))
    (λ i j l. every_line i (w i) _ (λ s e. every_line j (w j) _ (λ t f. omega arith)))
  where
    alone : (h v : ℕ) (t : Bool) → Rising StayBefore (when t then record { weight = v; shared = h } ∷ [] else [])
    alone h v true = (tt, tt)
    alone h v false = tt

    every_line : (h v : ℕ) (P : Stay → Type 0) → ((s : Stay) → s.shared ≡ h → P s) → Every P (stay_line h v)
    every_line h v P q = go (ltb 0 v)
      where
        go : (t : Bool) → Every P (when t then record { weight = v; shared = h } ∷ [] else [])
        go true = (q (record { weight = v; shared = h }) refl, tt)
        go false = tt

-- ---- moves

-- a line of its two states and the shared number, or none
module _ (P : Move → Type 0) (a b h w : ℕ) where
  line_is : ((m : Move) → m.old ≡ a → m.new ≡ b → m.shared ≡ h → P m) → Every P (move_line a b h w)
  line_is q = go (not (eqb a b) && ltb 0 w)
    where
      go : (t : Bool) → Every P (when t then record { old = a; new = b; weight = w; shared = h } ∷ [] else [])
      go true = (q (record { old = a; new = b; weight = w; shared = h }) refl refl refl, tt)
      go false = tt

line_rises : (a b h w : ℕ) → Rising Before (move_line a b h w)
line_rises a b h w = go (not (eqb a b) && ltb 0 w)
  where
    go : (t : Bool) → Rising Before (when t then record { old = a; new = b; weight = w; shared = h } ∷ [] else [])
    go true = (tt, tt)
    go false = tt

module _ (k values : ℕ) (w : ℕ → ℕ → ℕ → ℕ) where
  -- from a to b
  abbrev pair : ℕ → ℕ → List Move
  pair a b = flat (upto values (λ h. move_line a b h (w a b h)))

  pair_is : (P : Move → Type 0) (a b : ℕ) → ((m : Move) → m.old ≡ a → m.new ≡ b → P m) → Every P (pair a b)
  pair_is P a b q = every_flat_upto P values (λ h. move_line a b h (w a b h)) (λ h. line_is P a b h (w a b h) (λ m e f g. q m e f))

  pair_rises : (a b : ℕ) → Rising Before (pair a b)
  pair_rises a b = rising_flat Before values (λ h. move_line a b h (w a b h)) (λ h. line_rises a b h (w a b h))
      (λ i j l. line_is _ a b i (w a b i) (λ m e f g. line_is _ a b j (w a b j) (λ o e' f' g'. inr (e ∙ sym e', inr (f ∙ sym f', omega arith)))))

  abbrev row : ℕ → List Move
  row a = moves_from k values a (w a)

  row_is : (P : Move → Type 0) (a : ℕ) → ((m : Move) → m.old ≡ a → P m) → Every P (row a)
  row_is P a q = every_flat_upto P (suc k) (pair a) (λ b. pair_is P a b (λ m e f. q m e))

  -- moves to a lower state stand before those to a higher one, whatever the shared number becomes
  pairs_apart : (a i j : ℕ) → i < j → Every (λ m. Every (Before m) (pair a j)) (pair a i)
  pairs_apart a i j l = pair_is _ a i (λ m e f. pair_is _ a j (λ o e' f'. inr (e ∙ sym e', inl (omega arith))))

  row_rises : (a : ℕ) → Rising Before (row a)
  row_rises a = rising_flat Before (suc k) (pair a) (pair_rises a) (pairs_apart a)

  -- and moves from a lower state before those from a higher one
  rows_apart : (i j : ℕ) → i < j → Every (λ m. Every (Before m) (row j)) (row i)
  rows_apart i j l = row_is _ i (λ m e. row_is _ j (λ o g. inl (omega arith)))

  rows_rise : Rising Before (flat (upto (suc k) row))
  rows_rise = rising_flat Before (suc k) row row_rises rows_apart

module _ (k values : ℕ) (q : Option ℕ) (x : Seating) (l : Turn Seating) where
  block_rises : Rising Before (block_of k values q x l).moves
  unfolding block_of block
  block_rises = rows_rise k values (λ a b h. weight (goes_with x a b h) l)

  block_stays : Rising StayBefore (block_of k values q x l).stays
  unfolding block_of block
  block_stays = stays_rise values (λ h. weight (stays_with x h) l)

-- ---- choices

module _ (k values : ℕ) (x : Seating) where
  abbrev block_at : Choice Seating → Block
  block_at q = block_of k values (some q.place) x (one_of q.turns)

  moves_rise : (l : List (Choice Seating)) → Every (λ (b : Block). Rising Before b.moves) (map block_at l)
  moves_rise [] = tt
  moves_rise (q ∷ l) = (block_rises k values (some q.place) x (one_of q.turns), moves_rise l)

  each_stays : (l : List (Choice Seating)) → Every (λ (b : Block). Rising StayBefore b.stays) (map block_at l)
  each_stays [] = tt
  each_stays (q ∷ l) = (block_stays k values (some q.place) x (one_of q.turns), each_stays l)

  -- from place q on
  pub record From (q : ℕ) (l : List ℕ) : Type 0 where
    pub above : Every (λ p. q ≤ p) l
    pub rises : Rising ◌<◌ l

  from_less : (q : ℕ) (l : List ℕ) → From (suc q) l → From q l
  from_less q l f = record { above = every_imp (λ p. suc q ≤ p) l f.above (λ p h. omega arith); rises = f.rises }

  from_more : (q : ℕ) (l : List ℕ) → From (suc q) l → From q (q ∷ l)
  from_more q l f = record { above = (omega arith, (from_less q l f).above); rises = (every_imp (λ p. suc q ≤ p) l f.above (λ p h. omega arith), f.rises) }

  places_rise : (q : ℕ) (l : List Statement) → From q (places (map block_at (choices_from q l x)))
  unfolding choices_of block_of block
  places_rise q [] = record { above = tt; rises = tt }
  places_rise q (s ∷ l) = go (turns_by s x) (places_rise (suc q) l)
    where
      go : (t : List (Turn Seating)) → From (suc q) (places (map block_at (choices_from (suc q) l x)))
          → From q (places (map block_at (choice q t ++ choices_from (suc q) l x)))
      go [] f = from_less q (places (map block_at (choices_from (suc q) l x))) f
      go (t ∷ ts) f = from_more q (places (map block_at (choices_from (suc q) l x))) f

  -- the stuck choice is alone
  stuck_rises : (l : List (Choice Seating)) → Rising ◌<◌ (places (map block_at l)) → Rising ◌<◌ (places (map block_at (or_stay x l)))
  unfolding block_of block
  stuck_rises [] h = (tt, tt)
  stuck_rises (q ∷ l) h = h

-- ---- the panel

pub ordered : Ordered
unfolding panel choices
ordered c x = record { stays = stays c.mode; moves = moves c.mode; choices = rise c.mode }
  where
    values : ℕ
    values = shared_values c.shared

    stays : (m : Mode) → Every (λ (b : Block). Rising StayBefore b.stays) (blocks m c x)
    stays nondeterministic = each_stays c.k values x (choices c x)
    stays probabilistic = (block_stays c.k values none x (steps c x), tt)

    moves : (m : Mode) → Every (λ (b : Block). Rising Before b.moves) (blocks m c x)
    moves nondeterministic = moves_rise c.k values x (choices c x)
    moves probabilistic = (block_rises c.k values none x (steps c x), tt)

    rise : (m : Mode) → Rising ◌<◌ (places (blocks m c x))
    rise nondeterministic = stuck_rises c.k values x (choices_from 1 c.statements x) (places_rise c.k values x 1 c.statements).rises
    rise probabilistic = tt
