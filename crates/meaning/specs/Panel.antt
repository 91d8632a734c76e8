-- What the panel shows, as data ("Texts, byte for byte"; document 02, 2026-10), from the steps of the seats. Assumes nothing.
use Rattle.std.specs.Prelude.{ℕ, suc, ◌+◌, ◌*◌, Bool, false, not, ◌&&◌, ◌||◌, List, [], ◌∷◌, map, eqb, ltb, length}
use Rattle.std.proofs.Math.Option.{Option, none, some}
use Rattle.card.specs.Limits.{unit}
use Rattle.card.specs.Text.{same, when◌then◌else◌}
use Rattle.card.specs.Card.{Mode, nondeterministic, probabilistic, Shared, Card}
use Rattle.meaning.specs.Sums.{sum, upto, flat}
use Rattle.meaning.specs.Position.{shared_values}
use Rattle.meaning.specs.Steps.{Turn, weight}
use Rattle.meaning.specs.Choices.{Choice}
use Rattle.meaning.specs.Seats.{Seating, counts, choices, turns, steps}

-- move old new weight, and what the shared number becomes
pub record Move : Type 0 where
  pub old : ℕ
  pub new : ℕ
  pub weight : ℕ
  pub shared : ℕ

-- stay weight, and the same
pub record Stay : Type 0 where
  pub weight : ℕ
  pub shared : ℕ

-- the weights of no seat's change and the moves; on a nondeterministic card under the place of the statement taken, 0 where none can be
pub record Block : Type 0 where
  pub choice : Option ℕ
  pub stays : List Stay
  pub moves : List Move

pub record Panel : Type 0 where
  pub mode : Mode
  pub seats : ℕ
  pub enabled : ℕ
  pub counts : List ℕ
  pub shared : Option ℕ  -- none on a card without a shared number
  pub blocks : List Block

abbrev pub shared_shown : Option Shared → ℕ → Option ℕ
shared_shown none g = none
shared_shown (some s) g = some g

-- what a block's lines add up to, and what they should
unfoldable pub block_total : Block → ℕ
block_total b = sum (λ (s : Stay). s.weight) b.stays + sum (λ (m : Move). m.weight) b.moves

abbrev pub due : Mode → ℕ → ℕ
due probabilistic enabled = enabled * unit
due nondeterministic enabled = unit

-- ---- the lines of a block

-- none where the weight is 0
abbrev pub stay_line : ℕ → ℕ → List Stay
stay_line h w = when ltb 0 w then record { weight = w; shared = h } ∷ [] else []

-- none where no seat changes or the weight is 0
abbrev pub move_line : ℕ → ℕ → ℕ → ℕ → List Move
move_line a b h w = when not (eqb a b) && ltb 0 w then record { old = a; new = b; weight = w; shared = h } ∷ [] else []

-- from state a, by new state, then by what the shared number becomes, of which there are so many values
abbrev pub moves_from : ℕ → ℕ → ℕ → (ℕ → ℕ → ℕ) → List Move
moves_from k values a w = flat (upto (suc k) (λ b. flat (upto values (λ h. move_line a b h (w b h)))))

-- for the weights stay h and w a b h, by old, then new, then the shared number
unfoldable pub block : ℕ → ℕ → Option ℕ → (ℕ → ℕ) → (ℕ → ℕ → ℕ → ℕ) → Block
block k values q stay w = record {
  choice = q;
  stays = flat (upto values (λ h. stay_line h (stay h)));
  moves = flat (upto (suc k) (λ a. moves_from k values a (w a)));
}

-- ---- by seats

-- does a seat go from state a to state b between two seatings?
abbrev pub goes : ℕ → ℕ → List ℕ → List ℕ → Bool
goes a b [] [] = false
goes a b [] (t ∷ y) = false
goes a b (j ∷ x) [] = false
goes a b (j ∷ x) (t ∷ y) = eqb j a && eqb t b || goes a b x y

-- into a seating whose shared number is h: no seat changes, or one goes from state a to state b
abbrev pub stays_with : Seating → ℕ → Seating → Bool
stays_with x h y = same y.each x.each && eqb y.shared h

abbrev pub goes_with : Seating → ℕ → ℕ → ℕ → Seating → Bool
goes_with x a b h y = goes a b x.each y.each && eqb y.shared h

-- the block of some steps from the seating x
unfoldable pub block_of : ℕ → ℕ → Option ℕ → Seating → Turn Seating → Block
unfolding block weight
block_of k values q x l = block k values q (λ h. weight (stays_with x h) l) (λ a b h. weight (goes_with x a b h) l)

-- of one seat: the first that may take the statement
abbrev pub one_of : List (Turn Seating) → Turn Seating
one_of [] = []
one_of (t ∷ l) = t

-- pairs of a seat and a statement that it may take; or statements that can be taken; or the stuck step
abbrev pub enabled : Mode → Card → Seating → ℕ
enabled probabilistic c x = length (turns c x)
enabled nondeterministic c x = length (choices c x)

abbrev pub blocks : Mode → Card → Seating → List Block
blocks probabilistic c x = block_of c.k (shared_values c.shared) none x (steps c x) ∷ []
blocks nondeterministic c x = map (λ (q : Choice Seating). block_of c.k (shared_values c.shared) (some q.place) x (one_of q.turns)) (choices c x)

unfoldable pub panel : Card → Seating → Panel
unfolding counts steps block_of
panel c x = record {
  mode = c.mode;
  seats = c.n;
  enabled = enabled c.mode c x;
  counts = counts c.k x.each;
  shared = shared_shown c.shared x.shared;
  blocks = blocks c.mode c x;
}
