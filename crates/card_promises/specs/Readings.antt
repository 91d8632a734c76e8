-- Demand 2, its first half: which bytes are a card, which card they are, and which refusal is given where ("Marks on a card", "Shape of a
-- card", "Refusal numbers"). The words on the right are in `grammar/specs/Verdicts.antt`. Assumes nothing.
use Rattle.std.specs.Prelude.{ℕ, ◌≤◌, ◌≡◌, ◌↔◌, List, map}
use Rattle.std.proofs.Math.Option.{some}
use Rattle.card.specs.Card.{everyone, others, Card}
use Rattle.card.specs.Weight.{card_rule}
use Rattle.card.specs.Valid.{ValidCard}
use Rattle.card.specs.Refusals.{too_long, outside_rules, out_of_shape, past_limit, above_top, not_due, wrong_weight, decimal_weight, OfCard}
use Rattle.marks_on_a_card.specs.Marks.{marks_of}
use Rattle.reading.specs.Group.{Literal}
use Rattle.reading.specs.Judgements.{kind_of}
use Rattle.grammar.specs.Rules.{OnceEach}
use Rattle.reading.specs.Reading.{taken, refused, read_of}
use Rattle.grammar.specs.Verdicts.{Accepted, TooLong, OutsideRules, OutOfShape, PastLimit, Broken}
use Rattle.card_promises.specs.CardMarks.{mark_of, CardMarks}

pub record Readings : Type 0 where
  -- a card is taken exactly when its marks have the grammar's shape within the limits and keep the rules; and it is the grammar's card
  pub accepted : (s : List ℕ) (c : Card) → (read_of s ≡ taken c) ↔ Accepted card_rule s c
  -- it is then valid: within all limits, its states at most k, its groups symmetric, its weights adding up
  pub valid : (s : List ℕ) (c : Card) → read_of s ≡ taken c → ValidCard c
  -- its marks, with the words that are due and no others
  pub words : (s : List ℕ) (c : Card) → read_of s ≡ taken c → CardMarks c (map mark_of (marks_of s))
  -- whose seats a group names: those of everyone or of the others, exactly where they stand in it once each
  pub names_everyone : (n : ℕ) (ls : List Literal) → (kind_of n ls ≡ some everyone) ↔ OnceEach 1 n ls
  pub names_others : (n : ℕ) (ls : List Literal) → 1 ≤ n → (kind_of n ls ≡ some others) ↔ OnceEach 2 n ls
  -- each row of the table of refusals
  pub row_1 : (s : List ℕ) (p : ℕ) → (read_of s ≡ refused too_long p) ↔ TooLong s p
  pub row_2 : (s : List ℕ) (p : ℕ) → (read_of s ≡ refused outside_rules p) ↔ OutsideRules s p
  pub row_3 : (s : List ℕ) (p : ℕ) → (read_of s ≡ refused out_of_shape p) ↔ OutOfShape s p
  pub row_4 : (s : List ℕ) (p : ℕ) → (read_of s ≡ refused past_limit p) ↔ PastLimit s p
  pub row_5 : (s : List ℕ) (p : ℕ) → (read_of s ≡ refused above_top p) ↔ Broken card_rule above_top s p
  pub row_6 : (s : List ℕ) (p : ℕ) → (read_of s ≡ refused not_due p) ↔ Broken card_rule not_due s p
  pub row_7 : (s : List ℕ) (p : ℕ) → (read_of s ≡ refused wrong_weight p) ↔ Broken card_rule wrong_weight s p
  pub row_17 : (s : List ℕ) (p : ℕ) → (read_of s ≡ refused decimal_weight p) ↔ Broken card_rule decimal_weight s p
  -- there is no other refusal of a card
  pub no_other : (s : List ℕ) {r p : ℕ} → read_of s ≡ refused r p → (too_long ≤ r) × OfCard r
