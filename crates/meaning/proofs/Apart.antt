-- A turn stores the branch's end at its own seat, which a list of states keeps everywhere else; and statements without turns are no choices, so the turns of all choices are
-- those of all statements. Assumes nothing.
use Prim.Native.Nat.{ℕ, suc, ◌<◌}
use mathlib.Core.Path.{◌≡◌, refl, ap, ◌∙◌}
use mathlib.Core.List.{List, [], ◌∷◌, ◌++◌, map}
use lib.ListN.{length, length-set}
use lib.Seq.{get_or-set_same, get_or-set_other}
use Rattle.card.specs.Card.{Branch, Statement, Card}
use Rattle.meaning.specs.Sums.{flat}
use Rattle.meaning.specs.Steps.{Turn}
use Rattle.meaning.specs.Choices.{Choice, choice, choices_of, turns_in}
use Rattle.meaning.specs.Offers.{OneForOne}
use Rattle.meaning.specs.Seats.{Seating, seat_step_by, turn, turns_by, turns, Stuck}
use Rattle.meaning.specs.Apart.{SeatStep, takers}
use Rattle.meaning.proofs.Stuck.{moving}

pub own_seat : (s : Statement) (x : Seating) (i : ℕ) → i < length x.each → OneForOne (SeatStep x i) s.branches (turn s x i)
unfolding turn
own_seat s x i l = go s.branches
  where
    go : (m : List Branch) → OneForOne (SeatStep x i) m (map (seat_step_by x i) m)
    go [] = tt
    go (b ∷ m) = (
      record {
        weighs = refl;
        seats = length-set x.each i b.end;
        own = get_or-set_same x.each i b.end 0 l;
        rest = λ j n. get_or-set_other x.each i j b.end 0 n;
        shared = refl;
      },
      go m,
    )

-- the turns of all choices, from place q on
all_turns : {A S : Type 0} (of : A → List (Turn S)) (q : ℕ) (l : List A) → turns_in (choices_of of q l) ≡ flat (map of l)
unfolding choices_of
all_turns of q [] = refl
all_turns {S = S} of q (a ∷ l) = go (of a) (all_turns of (suc q) l)
  where
    go : (m : List (Turn S)) → turns_in (choices_of of (suc q) l) ≡ flat (map of l) → turns_in (choice q m ++ choices_of of (suc q) l) ≡ m ++ flat (map of l)
    go [] h = h
    go (t ∷ m) h = ap (λ (r : List (Turn S)). (t ∷ m) ++ r) h

pub pairs : (c : Card) (x : Seating) → (Stuck c x → ⊥) → turns c x ≡ flat (map (λ s. map (turn s x) (takers s x)) c.statements)
unfolding turns turns_by
pairs c x h = ap (λ (l : List (Choice Seating)). turns_in l) (moving c x h) ∙ all_turns (λ s. turns_by s x) 1 c.statements
