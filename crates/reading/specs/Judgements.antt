-- What refusals 5, 6, 7 and 17 judge on a card of the right shape, and how ("Refusal numbers", "Shape of a card"). Assumes nothing.
use Rattle.std.specs.Prelude.{ℕ, zero, suc, ◌+◌, ◌-◌, Bool, true, false, ◌&&◌, ◌||◌, List, [], ◌∷◌, eqb, leb, length}
use Rattle.std.proofs.Math.Option.{Option, none, some}
use Rattle.card.specs.Limits.{unit}
use Rattle.card.specs.Refusals.{above_top, not_due, wrong_weight}
use Rattle.card.specs.Text.{when◌then◌else◌}
use Rattle.card.specs.Card.{Kind, everyone, others, Sign, Relation, is, isnt, Leaf, group, shared_is, Formula, Guard}
use Rattle.card.specs.Formulas.{over, each_atom}
use Rattle.card.specs.Weight.{Weight, units_of, Rule, allowed, weight_refusal}
use Rattle.reading.specs.Reader.{Place}
use Rattle.reading.specs.Guard.{is_some}
use Rattle.reading.specs.Group.{Literal, Literals, Tested, of_seats, of_shared}

-- ---- symmetric groups

abbrev pub has : ℕ → List Literal → Bool
has i [] = false
has i (l ∷ ls) = eqb l.seat i || has i ls

-- each of the c seats from i on
abbrev pub has_from : ℕ → ℕ → List Literal → Bool
has_from i zero ls = true
has_from i (suc c) ls = has i ls && has_from (suc i) c ls

-- as many literals as seats, and each seat among them: each once
abbrev pub once : ℕ → ℕ → List Literal → Bool
once i c ls = eqb (length ls) c && has_from i c ls

-- seats 1 to n once each, or 2 to n once each
abbrev pub kind_of : ℕ → List Literal → Option Kind
kind_of n ls = when once 1 n ls then some everyone else (when once 2 (n - 1) ls then some others else none)

abbrev pub same_relation : Relation → Relation → Bool
same_relation is is = true
same_relation is isnt = false
same_relation isnt is = false
same_relation isnt isnt = true

-- one relation and one d
abbrev pub alike : Literal → List Literal → Bool
alike l [] = true
alike l (x ∷ ls) = same_relation l.relation x.relation && eqb l.d x.d && alike l ls

abbrev pub symmetric : ℕ → List Literal → Bool
symmetric n [] = false
symmetric n (l ∷ ls) = alike l ls && is_some (kind_of n (l ∷ ls))

-- ---- what is judged, and where

pub data Judgement : Type 0 where
  state : ℕ → ℕ → Place → Judgement  -- the most that l, j, d or t may be, or the shared number, and what stands there
  word : ℕ → ℕ → Place → Judgement  -- the number due in a word, and the one that stands there
  one_group : Literals → Judgement
  weight : Rule → Weight → Place → Judgement  -- the rule by which it is judged
  sum : List Weight → Place → Judgement  -- a statement's weights; its `;`

abbrev pub place_in : Judgement → Place
place_in (state most v p) = p
place_in (word due was p) = p
place_in (one_group g) = g.place
place_in (weight decimals w p) = p
place_in (sum ws p) = p

abbrev pub or_zero : Option ℕ → ℕ
or_zero none = 0
or_zero (some u) = u

-- a weight in units; one that has no worth counts nothing
abbrev pub units_in : Weight → ℕ
units_in w = or_zero (units_of w)

abbrev pub total_units : List Weight → ℕ
total_units [] = 0
total_units (w ∷ ws) = units_in w + total_units ws

abbrev pub unless : Bool → ℕ → Option ℕ
unless true r = none
unless false r = some r

-- the refusal due to it on a card of n seats, if any
abbrev pub broken : ℕ → Judgement → Option ℕ
broken n (state most v p) = unless (leb v most) above_top
broken n (word due was p) = unless (eqb was due) not_due
broken n (one_group g) = unless (symmetric n g.literals) not_due
broken n (weight decimals w p) = unless (allowed decimals w && is_some (units_of w)) (weight_refusal decimals w)
broken n (sum ws p) = unless (eqb (total_units ws) unit) wrong_weight

-- the first that is broken: its refusal and its place
pub data Verdict : Type 0 where
  fine : Verdict
  wrong : ℕ → Place → Verdict

abbrev pub or_else : Option ℕ → Place → Verdict → Verdict
or_else none p v = v
or_else (some r) p v = wrong r p

abbrev pub first_broken : ℕ → List Judgement → Verdict
first_broken n [] = fine
first_broken n (j ∷ js) = or_else (broken n j) (place_in j) (first_broken n js)

-- ---- of a guard, in the order of the text: each group of literals, then its first d, which may be the top state k; in a test of the
-- shared number what it is compared with, which may be m

abbrev pub first_state : ℕ → List Literal → List Judgement
first_state k [] = []
first_state k (l ∷ ls) = state k l.d l.place ∷ []

abbrev pub judged_group : ℕ → Literals → List Judgement
judged_group k g = one_group g ∷ first_state k g.literals

abbrev pub judged_test : ℕ → ℕ → Tested → List Judgement
judged_test k m (of_seats g) = judged_group k g
judged_test k m (of_shared x) = state m x.value.value x.value.place ∷ []

abbrev pub judged_guard : ℕ → ℕ → Formula Tested → List Judgement
judged_guard k m g = each_atom (judged_test k m) g

-- ---- and the guard itself, once nothing is broken

abbrev pub or_everyone : Option Kind → Kind
or_everyone none = everyone
or_everyone (some kind) = kind

abbrev pub group_in : ℕ → Sign → List Literal → Leaf
group_in n s [] = group everyone s is 0
group_in n s (l ∷ ls) = group (or_everyone (kind_of n (l ∷ ls))) s l.relation l.d

-- the leaf that stands there
abbrev pub leaf_in : ℕ → Tested → Leaf
leaf_in n (of_seats x) = group_in n x.sign x.literals
leaf_in n (of_shared x) = shared_is x.relation x.value.value

abbrev pub guard_in : ℕ → Formula Tested → Guard
guard_in n g = over (leaf_in n) g
