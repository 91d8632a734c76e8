-- What refusals 5, 6, 7 and 17 judge on a whole card, in the order of the text, and the card itself, once nothing is broken
-- ("Refusal numbers", "Shape of a card"). Assumes nothing.
use Rattle.std.specs.Prelude.{ℕ, suc, List, [], ◌∷◌, ◌++◌, map, length}
use Rattle.std.proofs.Math.Option.{Option, none, some}
use Rattle.card.specs.Card.{Formula, Guard, Branch, Statement, Shared, Card}
use Rattle.card.specs.Weight.{Weight, Rule}
use Rattle.reading.specs.Reader.{Numbered}
use Rattle.reading.specs.Group.{Tested}
use Rattle.reading.specs.Judgements.{Judgement, state, word, weight, sum, units_in, judged_guard, guard_in}
use Rattle.reading.specs.Shape.{BranchShape, StatementShape, Range, CardShape}

-- a state that may be k at most; or what the shared number is, which may be m at most
abbrev pub judged_state : ℕ → Numbered → Judgement
judged_state k x = state k x.value x.place

-- the words of a run, and the numbers due in them; a word beyond the last of these is not one that is due, so no word goes unjudged
abbrev pub judged_words : List ℕ → List Numbered → List Judgement
judged_words [] [] = []
judged_words [] (w ∷ ws) = word (suc w.value) w.value w.place ∷ judged_words [] ws
judged_words (due ∷ dues) [] = []
judged_words (due ∷ dues) (w ∷ ws) = word due w.value w.place ∷ judged_words dues ws

abbrev pub judged_set : ℕ → Option Numbered → List Judgement
judged_set m none = []
judged_set m (some v) = judged_state m v ∷ []

-- its weight by the rule of a weight
abbrev pub judged_branch : Rule → ℕ → ℕ → BranchShape → List Judgement
judged_branch decimals k m b =
    weight decimals b.weight b.place
    ∷ (judged_words (1 ∷ []) b.words
    ++ (judged_state k b.end
    ∷ judged_set m b.sets))

abbrev pub judged_each : {A : Type 0} → (A → List Judgement) → List A → List Judgement
judged_each f [] = []
judged_each f (x ∷ xs) = f x ++ judged_each f xs

abbrev pub judged_or : ℕ → ℕ → Option (Formula Tested) → List Judgement
judged_or k m none = []
judged_or k m (some g) = judged_guard k m g

abbrev pub weight_in : BranchShape → Weight
weight_in b = b.weight

abbrev pub judged_statement : Rule → ℕ → ℕ → StatementShape → List Judgement
judged_statement decimals k m x =
    judged_words (1 ∷ []) x.words
    ++ (judged_state k x.own
    ∷ (judged_or k m x.guard
    ++ (judged_each (judged_branch decimals k m) x.branches
    ++ (sum (map weight_in x.branches) x.close ∷ []))))

-- module processi = process1 [s1=si, si=s1] endmodule
abbrev pub module_dues : ℕ → List ℕ
module_dues i = i ∷ 1 ∷ 1 ∷ i ∷ i ∷ 1 ∷ []

-- from i on
abbrev pub judged_modules : ℕ → List (List Numbered) → List Judgement
judged_modules i [] = []
judged_modules i (m ∷ ms) = judged_words (module_dues i) m ++ judged_modules (suc i) ms

-- what the shared number starts at
abbrev pub judged_shared : Option Range → List Judgement
judged_shared none = []
judged_shared (some r) = judged_state r.top r.start ∷ []

-- the most that it may be; on a card without one nothing tests or sets it
abbrev pub most_in : Option Range → ℕ
most_in none = 0
most_in (some r) = r.top

abbrev pub judged_card : Rule → CardShape → List Judgement
judged_card decimals c =
    judged_shared c.shared
    ++ (judged_words (1 ∷ 1 ∷ []) c.words
    ++ (judged_state c.k c.l
    ∷ (judged_each (judged_statement decimals c.k (most_in c.shared)) c.statements
    ++ judged_modules 2 c.modules)))

-- ---- the card: what its weights are worth does not hang on the rule

abbrev pub value_or : Option Numbered → Option ℕ
value_or none = none
value_or (some v) = some v.value

abbrev pub branch_in : BranchShape → Branch
branch_in b = record { units = units_in b.weight; end = b.end.value; sets = value_or b.sets }

abbrev pub guard_or : ℕ → Option (Formula Tested) → Option Guard
guard_or n none = none
guard_or n (some g) = some (guard_in n g)

abbrev pub statement_in : ℕ → StatementShape → Statement
statement_in n x = record { own = x.own.value; guard = guard_or n x.guard; branches = map branch_in x.branches }

-- n is the number of modules
abbrev pub seats_in : CardShape → ℕ
seats_in c = suc (length c.modules)

abbrev pub shared_in : Option Range → Option Shared
shared_in none = none
shared_in (some r) = some (record { most = r.top; start = r.start.value })

abbrev pub card_in : CardShape → Card
card_in c = record {
  mode = c.mode;
  shared = shared_in c.shared;
  n = seats_in c;
  k = c.k;
  l = c.l.value;
  statements = map (statement_in (seats_in c)) c.statements;
}
