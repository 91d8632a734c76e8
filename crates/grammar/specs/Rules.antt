-- The rules that refusals 5, 6, 7 and 17 guard ("Shape of a card", "Refusal numbers"), said of each judgement without computing it.
-- Assumes nothing.
use Rattle.std.specs.Prelude.{ℕ, ◌+◌, ◌≤◌, ◌<◌, ◌≡◌, ◌⊎◌, true, false, List, [], ◌∷◌, length, eqb}
use Rattle.card.specs.Limits.{unit}
use Rattle.card.specs.Refusals.{above_top, not_due, wrong_weight, decimal_weight}
use Rattle.card.specs.Text.{when◌then◌else◌}
use Rattle.card.specs.Card.{Relation}
use Rattle.card.specs.Weight.{Weight, Worth, Rule, allowed}
use Rattle.card.specs.Valid.{Every}
use Rattle.reading.specs.Reader.{Place}
use Rattle.reading.specs.Group.{Literal, Literals}
use Rattle.reading.specs.Judgements.{Judgement, state, word, one_group, weight, sum, total_units}

-- ---- symmetric groups

-- how many literals of the list name the seat i
abbrev pub times_in : ℕ → List Literal → ℕ
times_in i [] = 0
times_in i (l ∷ ls) = (when eqb l.seat i then 1 else 0) + times_in i ls

-- the seats a to n once each, and no others
pub record OnceEach (a n : ℕ) (ls : List Literal) : Type 0 where
  pub once : (i : ℕ) → a ≤ i → i ≤ n → times_in i ls ≡ 1
  pub only : (i : ℕ) → (i < a) ⊎ (n < i) → times_in i ls ≡ 0

-- one literal at least, one relation, one d, and the seats 1 to n or 2 to n
pub record Symmetric (n : ℕ) (ls : List Literal) : Type 0 where
  pub some : 1 ≤ length ls
  pub relation : Relation
  pub relations : Every (λ l. l.relation ≡ relation) ls
  pub d : ℕ
  pub ds : Every (λ l. l.d ≡ d) ls
  pub seats : OnceEach 1 n ls ⊎ OnceEach 2 n ls

-- ---- each judgement, on a card of n seats

-- in a sum a weight that has no worth counts nothing: it is refused before the sum
abbrev pub Kept : ℕ → Judgement → Type 0
Kept n (state most v p) = v ≤ most
Kept n (word due was p) = was ≡ due
Kept n (one_group g) = Symmetric n g.literals
Kept n (weight decimals w p) = (allowed decimals w ≡ true) × ((u : ℕ) × Worth w u)
Kept n (sum ws p) = total_units ws ≡ unit

-- the rows of the table: how a rule is broken, and the refusal that is due
pub data Breaks (n : ℕ) : ℕ → Judgement → Type 0 where
  above : {most v : ℕ} {p : Place} → most < v → Breaks n above_top (state most v p)
  other : {due was : ℕ} {p : Place} → (was ≡ due → ⊥) → Breaks n not_due (word due was p)
  uneven : {g : Literals} → (Symmetric n g.literals → ⊥) → Breaks n not_due (one_group g)
  worthless : {decimals : Rule} {w : Weight} {p : Place} → allowed decimals w ≡ true → ((u : ℕ) → Worth w u → ⊥) → Breaks n wrong_weight (weight decimals w p)
  retired : {decimals : Rule} {w : Weight} {p : Place} → allowed decimals w ≡ false → Breaks n decimal_weight (weight decimals w p)
  unequal : {ws : List Weight} {p : Place} → (total_units ws ≡ unit → ⊥) → Breaks n wrong_weight (sum ws p)
