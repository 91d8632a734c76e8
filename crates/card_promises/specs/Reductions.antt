-- What demand 3 alone does not fix of the reduced program ("What a card means", "Texts, byte for byte"): its mode, its counters' range, how
-- many copies there are, and where a raised counter is cut. Assumes nothing.
use Rattle.std.specs.Prelude.{ℕ, ◌-◌, ◌*◌, ◌/◌, ◌≤◌, ◌<◌, ◌≡◌, List, [], ◌∷◌, map}
use Rattle.std.proofs.Math.Option.{Option, none, some}
use Rattle.card.specs.Limits.{unit}
use Rattle.card.specs.Text.{bytes}
use Rattle.card.specs.Card.{nondeterministic, probabilistic, Kind, everyone, others, Sign, all, any, Relation, is, isnt, group, shared_is, atom, neg, and, or, Branch, Statement, Card}
use Rattle.texts.specs.ReducedText.{reduced_of}
use Rattle.card.specs.Formulas.{over_or}
use Rattle.card.specs.Valid.{Every, ValidCard}
use Rattle.meaning.specs.CardA.{card_a}
use Rattle.meaning.specs.Position.{Position, shared_values}
use Rattle.meaning.specs.Steps.{Step}
use Rattle.meaning.specs.Sums.{upto, flat}
use Rattle.meaning.specs.Reduced.{Bound, equal_to, more_than, less_than, counter, shared_test, counter_of, Test, keep, shift, Outcome, Reduced, update_of, copy, reduce, reduced_steps}

-- document 01's one-seat card
abbrev pub one_seat : Card
one_seat = record { mode = nondeterministic; shared = none; n = 1; k = 1; l = 0; statements = record { own = 0; guard = none; branches = record { units = unit; end = 1; sets = none } ∷ [] } ∷ [] }

-- two seats, and a guard of two groups
abbrev pub joined : Card
joined = record {
  mode = nondeterministic;
  shared = none;
  n = 2;
  k = 1;
  l = 0;
  statements =
      record {
        own = 0;
        guard = some (and (atom (group others all is 0)) (neg (atom (group everyone all is 1))));
        branches = record { units = 3 * (unit / 4); end = 0; sets = none } ∷ record { units = unit / 4; end = 1; sets = none } ∷ [];
      }
      ∷ [];
}

-- the same on a probabilistic card, with `|` twice and a branch of weight 0
abbrev pub either : Card
either = record {
  mode = probabilistic;
  shared = none;
  n = 2;
  k = 1;
  l = 1;
  statements =
      record {
        own = 1;
        guard = some (or (atom (group others any isnt 0)) (neg (or (atom (group others all isnt 1)) (atom (group everyone any is 1)))));
        branches = record { units = 0; end = 0; sets = none } ∷ record { units = unit; end = 1; sets = none } ∷ [];
      }
      ∷ [];
}

-- ---- a reduced statement, written down

abbrev pub outcome : ℕ → Rattle.meaning.specs.Reduced.Update → Outcome
outcome units update = record { units = units; update = update; sets = none }

abbrev pub line : ℕ → ℕ → Option Test → List Outcome → Reduced
line own least guard outcomes = record { own = own; least = least; guard = guard; outcomes = outcomes }

-- card A's two statements, with the first test no_j>m
abbrev pub first : ℕ → Reduced
first m = line 0 m (some (atom (counter 0 (more_than 1)))) (outcome (unit / 2) (shift 0 1 3) ∷ outcome (unit / 2) (shift 0 2 3) ∷ [])

abbrev pub second : ℕ → Reduced
second m = line 1 m (some (atom (counter 2 (equal_to 0)))) (outcome (unit / 4) (shift 1 2 3) ∷ outcome (3 * (unit / 4)) keep ∷ [])

-- the test that a group becomes, in a statement with local state j, for n seats
abbrev pub becomes : ℕ → ℕ → Kind → Sign → Relation → ℕ → Bound → Type 0
becomes n j kind s q d b = counter_of n j (group kind s q d) ≡ counter d b

-- the table of document 01, row by row, place by place: everyone; others, d=j; others, d not j
pub record Table : Type 0 where
  pub all_is : (n j d : ℕ) → becomes n j everyone all is d (equal_to n) × becomes n d others all is d (equal_to n) × ((j ≡ d → ⊥) → becomes n j others all is d (equal_to (n - 1)))
  pub some_is : (n j d : ℕ) → becomes n j everyone any is d (more_than 0) × becomes n d others any is d (more_than 1) × ((j ≡ d → ⊥) → becomes n j others any is d (more_than 0))
  pub all_isnt : (n j d : ℕ) → becomes n j everyone all isnt d (equal_to 0) × becomes n d others all isnt d (equal_to 1) × ((j ≡ d → ⊥) → becomes n j others all isnt d (equal_to 0))
  pub some_isnt : (n j d : ℕ) → becomes n j everyone any isnt d (less_than n) × becomes n d others any isnt d (less_than n) × ((j ≡ d → ⊥) → becomes n j others any isnt d (less_than (n - 1)))

-- of every card: mode and range, a statement's copies, and what becomes of a branch
pub record Translation : Type 0 where
  pub mode : (c : Card) → (reduce c).mode ≡ c.mode
  pub most : (c : Card) → (reduce c).most ≡ c.n
  -- the shared number as the card declares it, tests of it as they stand, and what each branch sets (document 02, 2026-10)
  pub shared : (c : Card) → (reduce c).shared ≡ c.shared
  pub test : (n j : ℕ) (q : Relation) (v : ℕ) → counter_of n j (shared_is q v) ≡ shared_test q v
  pub sets : (n : ℕ) (s : Statement) (m : ℕ) → map (λ (o : Outcome). o.sets) (copy n s m).outcomes ≡ map (λ (b : Branch). b.sets) s.branches
  -- n copies running, from no_j>0 to no_j>n-1; or one
  pub copies : (c : Card) → c.mode ≡ probabilistic → (reduce c).statements ≡ flat (map (λ s. upto c.n (λ m. copy c.n s m)) c.statements)
  pub one_copy : (c : Card) → c.mode ≡ nondeterministic → (reduce c).statements ≡ flat (map (λ s. copy c.n s 0 ∷ []) c.statements)
  -- each leaf of the guard by its test in the table
  pub guard : (n : ℕ) (s : Statement) (m : ℕ) → (copy n s m).guard ≡ over_or (counter_of n s.own) s.guard
  -- a branch to j keeps every counter, any other lowers no_j and raises no_t
  pub stays : (n j : ℕ) → update_of n j j ≡ keep
  pub moves : (n j t : ℕ) → (j ≡ t → ⊥) → update_of n j t ≡ shift j t n

pub record Reductions : Type 0 where
  pub table : Table
  pub translation : Translation
  -- document 01's text of its one-seat card, letter for letter
  pub one_seat_text : reduced_of one_seat
      ≡ bytes "nondeterministic\nmodule generic_process\nno_0 : [0..1] init 1;\nno_1 : [0..1] init 0;\n[] (no_0>0) -> 1:(no_0'=no_0-1) & (no_1'=min(no_1+1,1));\nendmodule\n"
  -- a joined guard with its brackets, and the update `true`
  pub joined_text : reduced_of joined
      ≡ bytes "nondeterministic\nmodule generic_process\nno_0 : [0..2] init 2;\nno_1 : [0..2] init 0;\n[] (no_0>0) & ((no_0=2) & !(no_1=2)) -> 3/4:true + 1/4:(no_0'=no_0-1) & (no_1'=min(no_1+1,2));\nendmodule\n"
  -- the copies of a statement on a probabilistic card, one behind the other
  pub either_text : reduced_of either
      ≡ bytes "probabilistic\nmodule generic_process\nno_0 : [0..2] init 0;\nno_1 : [0..2] init 2;\n[] (no_1>0) & ((no_0<1) | !((no_1=1) | (no_1>0))) -> 0:(no_1'=no_1-1) & (no_0'=min(no_0+1,2)) + 1:true;\n[] (no_1>1) & ((no_0<1) | !((no_1=1) | (no_1>0))) -> 0:(no_1'=no_1-1) & (no_0'=min(no_0+1,2)) + 1:true;\nendmodule\n"
  pub card_a_text : reduced_of (card_a probabilistic)
      ≡ bytes "probabilistic\nmodule generic_process\nno_0 : [0..3] init 3;\nno_1 : [0..3] init 0;\nno_2 : [0..3] init 0;\n[] (no_0>0) & (no_0>1) -> 1/2:(no_0'=no_0-1) & (no_1'=min(no_1+1,3)) + 1/2:(no_0'=no_0-1) & (no_2'=min(no_2+1,3));\n[] (no_0>1) & (no_0>1) -> 1/2:(no_0'=no_0-1) & (no_1'=min(no_1+1,3)) + 1/2:(no_0'=no_0-1) & (no_2'=min(no_2+1,3));\n[] (no_0>2) & (no_0>1) -> 1/2:(no_0'=no_0-1) & (no_1'=min(no_1+1,3)) + 1/2:(no_0'=no_0-1) & (no_2'=min(no_2+1,3));\n[] (no_1>0) & (no_2=0) -> 1/4:(no_1'=no_1-1) & (no_2'=min(no_2+1,3)) + 3/4:true;\n[] (no_1>1) & (no_2=0) -> 1/4:(no_1'=no_1-1) & (no_2'=min(no_2+1,3)) + 3/4:true;\n[] (no_1>2) & (no_2=0) -> 1/4:(no_1'=no_1-1) & (no_2'=min(no_2+1,3)) + 3/4:true;\nendmodule\n"
  pub one_seat_holds : reduce one_seat ≡ record { mode = nondeterministic; shared = none; most = 1; start = 1 ∷ 0 ∷ []; statements = line 0 0 none (outcome unit (shift 0 1 1) ∷ []) ∷ [] }
  pub card_a_holds : reduce (card_a probabilistic)
      ≡ record { mode = probabilistic; shared = none; most = 3; start = 3 ∷ 0 ∷ 0 ∷ []; statements = first 0 ∷ first 1 ∷ first 2 ∷ second 0 ∷ second 1 ∷ second 2 ∷ [] }
  pub card_a_free : reduce (card_a nondeterministic) ≡ record { mode = nondeterministic; shared = none; most = 3; start = 3 ∷ 0 ∷ 0 ∷ []; statements = first 0 ∷ second 0 ∷ [] }
  -- all of a reduced program can be read off its text
  pub read_off : (c d : Card) → ValidCard c → ValidCard d → reduced_of c ≡ reduced_of d → reduce c ≡ reduce d
  -- from counters in their range every step leads to counters in their range
  pub stays_within : (c : Card) (v : Position) → Every (λ a. a ≤ c.n) v.each → Every (λ (s : Step Position). Every (λ a. a ≤ (reduce c).most) s.next.each) (reduced_steps (reduce c) v)
  -- and so does the shared number (document 02, 2026-10)
  pub shared_within : (c : Card) → ValidCard c → (v : Position) → v.shared < shared_values c.shared
      → Every (λ (s : Step Position). s.next.shared < shared_values c.shared) (reduced_steps (reduce c) v)
