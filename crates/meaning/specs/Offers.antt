-- Two states that offer the same, the steps of the one seen through a map of states. Assumes nothing.
use Rattle.std.specs.Prelude.{ℕ, ◌≤◌, ◌≡◌, List, [], ◌∷◌, length}
use Rattle.card.specs.Card.{Mode, nondeterministic, probabilistic}
use Rattle.card.specs.Valid.{Every}
use Rattle.meaning.specs.Sums.{sum}
use Rattle.meaning.specs.Steps.{Turn, seen}
use Rattle.meaning.specs.Choices.{Choice, turns_in}

-- two lists, one for one, in order
abbrev pub OneForOne : {A B : Type 0} → (A → B → Type 0) → List A → List B → Type 0
OneForOne R [] [] = Unit {0}
OneForOne R [] (b ∷ m) = ⊥
OneForOne R (a ∷ l) [] = ⊥
OneForOne R (a ∷ l) (b ∷ m) = R a b × OneForOne R l m

-- two choices at one place: the second has one turn, and every turn of the first, of which there is one at least, is seen as that list of steps
pub record SameChoice {S T : Type 0} (h : S → T) (a : Choice S) (b : Choice T) : Type 0 where
  pub place : a.place ≡ b.place
  pub turn : Turn T
  pub only : b.turns ≡ turn ∷ []
  pub some : 1 ≤ length a.turns
  pub each : Every (λ t. seen h t ≡ turn) a.turns

-- on a probabilistic card any number of a turn has the same sum over the turns of both; on a nondeterministic one the choices are the same
abbrev pub Offers : {S T : Type 0} → Mode → (S → T) → List (Choice S) → List (Choice T) → Type 0
Offers {S} {T} probabilistic h l m = (f : Turn T → ℕ) → sum (λ t. f (seen h t)) (turns_in l) ≡ sum f (turns_in m)
Offers nondeterministic h l m = OneForOne (SameChoice h) l m
