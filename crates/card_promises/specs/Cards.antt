-- What holds of weights and of cards in their struct ("Shape of a card", "What the box holds"). Assumes nothing.
use Rattle.std.specs.Prelude.{ℕ, ◌+◌, ◌*◌, ◌^◌, ◌<◌, ◌≡◌, ◌↔◌, length, get_or}
use Rattle.std.proofs.Math.Option.{some}
use Rattle.card.specs.Limits.{most_statements, most_nodes, node_places, branch_places}
use Rattle.card.specs.Card.{Mode, Statement, Card}
use Rattle.card.specs.Valid.{ValidCard}
use Rattle.card.specs.Refusals.{wrong_weight}
use Rattle.card.specs.Weight.{Weight, decimal, Worth, units_of}
use Rattle.weights.specs.Judged.{judged_of, weight_number, weight_units}
use Rattle.card.specs.Lent.{head_of, lent_of, card_in}
use Rattle.meaning.specs.CardA.{card_a}
use Rattle.card.specs.Laid.{op_of, left_of, right_of, op_leaf, guard_size, laid, card_of}

-- the struct's arrays can hold a card: they are as long as it lies there, and each of its numbers fits 32 bits
pub record Fits (c : Card) : Type 0 where
  pub statements : length (laid c).statements ≡ most_statements
  pub nodes : length (laid c).nodes ≡ node_places
  pub branches : length (laid c).branches ≡ branch_places
  pub node : (i : ℕ) → get_or (laid c).nodes i 0 < 2 ^ 32
  pub branch : (i : ℕ) → get_or (laid c).branches i 0 < 2 ^ 32

pub record Cards : Type 0 where
  -- there are valid cards: card A, in either mode
  pub card_a_holds : (mode : Mode) → ValidCard (card_a mode)
  -- a weight counts so many units exactly when it is worth them
  pub weights : (w : Weight) (u : ℕ) → (units_of w ≡ some u) ↔ Worth w u
  pub hundredths : units_of (decimal 0 2 37) ≡ some 102564
  -- what the weights' constructors answer, in document 01's numbers: 0 with the units, or 7
  pub weight_taken : (w : Weight) (u : ℕ) → ((weight_number (judged_of (units_of w)) ≡ 0) × (weight_units (judged_of (units_of w)) ≡ u)) ↔ Worth w u
  pub weight_refused : (w : Weight) → (weight_number (judged_of (units_of w)) ≡ wrong_weight) ↔ ((u : ℕ) → Worth w u → ⊥)
  -- every valid card has its struct
  pub fits : (c : Card) → ValidCard c → Fits c
  -- a card in its struct is the card, so two cards that lie there alike are the same
  pub comes_back : (c : Card) → ValidCard c → card_of (laid c) ≡ c
  pub once : (c e : Card) → ValidCard c → ValidCard e → laid c ≡ laid e → c ≡ e
  -- and so is one in lent arrays, beside its head
  pub lent_comes_back : (c : Card) → ValidCard c → card_in (head_of c) (lent_of c) ≡ c
  -- the children of node j of statement i have smaller numbers than it has
  pub falls : (c : Card) → ValidCard c → (i : ℕ) → i < length c.statements → (d : Statement) (j : ℕ) → j < guard_size (get_or c.statements i d).guard
      → (x : ℕ) → x ≡ get_or (laid c).nodes (i * most_nodes + j) 0
      → (op_of x ≡ op_leaf → ⊥) → (left_of x < i * most_nodes + j) × (right_of x < i * most_nodes + j)
