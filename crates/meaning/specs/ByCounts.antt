-- The panel from the counts alone, as a program computes it. proofs/Panel.antt shows that it is the panel by seats. Assumes nothing.
use Rattle.std.specs.Prelude.{ℕ, zero, suc, ◌*◌, Bool, ◌&&◌, List, [], ◌∷◌, ◌++◌, eqb, ltb}
use Rattle.std.proofs.Math.Option.{Option, none, some}
use Rattle.card.specs.Limits.{unit}
use Rattle.card.specs.Text.{when◌then◌else◌}
use Rattle.card.specs.Card.{Mode, nondeterministic, probabilistic, Guard, Branch, Statement, Card}
use Rattle.meaning.specs.Sums.{gate, or_one, sum}
use Rattle.meaning.specs.Formulas.{value, value_or}
use Rattle.meaning.specs.Position.{Position, shared_values, set_to}
use Rattle.meaning.specs.Reduced.{no_of, passes, counter_of}
use Rattle.meaning.specs.Panel.{Block, Panel, block, shared_shown}

-- ---- one statement, at counts v of n seats, with the shared number beside them

-- a guard, each leaf by its counter test
abbrev pub held_at : ℕ → ℕ → Position → Guard → Bool
held_at n j v g = value (λ a. passes v (counter_of n j a)) g

abbrev pub held_or : ℕ → ℕ → Position → Option Guard → Bool
held_or n j v g = value_or (λ a. passes v (counter_of n j a)) g

-- how many seats may take it
unfoldable pub able : ℕ → Position → Statement → ℕ
able n v s = gate (held_or n s.own v s.guard) (no_of v.each s.own)

-- the units of its branches to t
unfoldable pub units_to : ℕ → List Branch → ℕ
units_to t l = sum (λ (b : Branch). gate (eqb b.end t) b.units) l

-- of those that make h of the shared number g
unfoldable pub units_into : ℕ → ℕ → ℕ → List Branch → ℕ
units_into g t h l = sum (λ (b : Branch). gate (eqb b.end t && eqb (set_to g b.sets) h) b.units) l

-- of one seat that takes it, where the shared number is g and becomes h: the weight of no change of its state, and from a to b
unfoldable pub stay_of : ℕ → Statement → ℕ → ℕ
unfolding units_into
stay_of g s h = units_into g s.own h s.branches

unfoldable pub move_of : ℕ → Statement → ℕ → ℕ → ℕ → ℕ
unfolding units_into
move_of g s a b h = gate (eqb s.own a) (units_into g b h s.branches)

-- ---- statements of a probabilistic card: over all seats that may take them

unfoldable pub all_able : ℕ → Position → List Statement → ℕ
unfolding able
all_able n v l = sum (able n v) l

unfoldable pub all_stay : ℕ → Position → List Statement → ℕ → ℕ
unfolding able stay_of
all_stay n v l h = sum (λ s. able n v s * stay_of v.shared s h) l

unfoldable pub all_move : ℕ → Position → List Statement → ℕ → ℕ → ℕ → ℕ
unfolding able move_of
all_move n v l a b h = sum (λ s. able n v s * move_of v.shared s a b h) l

-- ---- statements of a nondeterministic card, from place q on: a block for each that some seat may take

unfoldable pub choice_blocks : ℕ → ℕ → ℕ → Position → ℕ → List Statement → List Block
unfolding able block stay_of move_of
choice_blocks n k values v q [] = []
choice_blocks n k values v q (s ∷ l) =
    (when ltb 0 (able n v s) then block k values (some q) (stay_of v.shared s) (move_of v.shared s) ∷ [] else []) ++ choice_blocks n k values v (suc q) l

-- ---- what can be taken

-- the blocks of what can be taken
unfoldable pub taken_blocks : Mode → ℕ → ℕ → ℕ → Position → List Statement → List Block
unfolding block all_stay all_move choice_blocks
taken_blocks probabilistic n k values v l = block k values none (all_stay n v l) (all_move n v l) ∷ []
taken_blocks nondeterministic n k values v l = choice_blocks n k values v 1 l

-- how much: pairs of a seat and a statement, or statements
unfoldable pub count_taken : Mode → ℕ → Position → List Statement → ℕ
unfolding all_able able
count_taken probabilistic n v l = all_able n v l
count_taken nondeterministic n v l = sum (λ s. gate (ltb 0 (able n v s)) 1) l

-- ---- nothing can be taken: one step, which changes nothing; so the number of steps is never 0

abbrev pub stuck_place : Mode → Option ℕ
stuck_place probabilistic = none
stuck_place nondeterministic = some 0

abbrev pub stuck_block : Mode → ℕ → Block
stuck_block m g = record { choice = stuck_place m; stays = record { weight = unit; shared = g } ∷ []; moves = [] }

-- the blocks of so much that can be taken
abbrev pub or_stuck : Mode → ℕ → ℕ → List Block → List Block
or_stuck m g zero l = stuck_block m g ∷ []
or_stuck m g (suc taken) l = l

-- ---- the panel

unfoldable pub count_blocks : Mode → ℕ → ℕ → ℕ → Position → List Statement → List Block
unfolding taken_blocks count_taken
count_blocks m n k values v l = or_stuck m v.shared (count_taken m n v l) (taken_blocks m n k values v l)

unfoldable pub count_enabled : Mode → ℕ → Position → List Statement → ℕ
unfolding count_taken
count_enabled m n v l = or_one (count_taken m n v l)

unfoldable pub count_panel : Card → Position → Panel
unfolding count_blocks count_enabled
count_panel c v = record {
  mode = c.mode;
  seats = c.n;
  enabled = count_enabled c.mode c.n v c.statements;
  counts = v.each;
  shared = shared_shown c.shared v.shared;
  blocks = count_blocks c.mode c.n c.k (shared_values c.shared) v c.statements;
}
