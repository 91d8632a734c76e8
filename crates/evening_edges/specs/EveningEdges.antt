-- The edges of document 02, 2026-13: what each seat does at a table, and exact chances over whole evenings, worked out by seats told apart and once more by counts. Assumes nothing.
use Rattle.std.specs.Prelude.{ℕ, ◌*◌, ◌≡◌, List, [], ◌∷◌, ◌++◌}
use Prim.Native.String.{String}
use Rattle.std.proofs.Math.Option.{Option, none, some}
use Rattle.card.specs.Text.{bytes}
use Rattle.card.specs.Card.{Mode, nondeterministic, probabilistic, others, all, any, is, isnt, group, shared_is, atom, Guard, Branch, Statement, Shared, Card}
use Rattle.reading.specs.Reading.{taken, read_of}
use Rattle.meaning.specs.Position.{Position, position}
use Rattle.meaning.specs.Steps.{Step}
use Rattle.meaning.specs.Seats.{Seating, counted, turns}
use Rattle.meaning.specs.Reduced.{reduce, reduced_turns}
use Rattle.meaning.specs.CardA.{card_a}
use Rattle.asking.specs.Meant.{of_all, one_in, shared_at, Question}
use Rattle.evenings.specs.Rounds.{Aim, largest, smallest}
use Rattle.evenings.specs.Scales.{Close}
use Rattle.evenings.specs.Evenings.{exact, whole}
use Rattle.evenings.specs.Leader.{leader_card}
use Rattle.evenings.specs.Night.{night_card}
use Rattle.chances.specs.Chances.{by_seats, by_counts}

-- within m steps from a seating the question becomes true with chance a / b, by the seats and by their counts
abbrev pub Within : (c : Card) → Aim → Question → Seating → (m a b : ℕ) → Type 0
Within c aim q x m a b =
    (b * exact c aim (by_seats c q) m x ≡ a * whole c m)
    × (b * exact c aim (by_counts c q) m (counted c.k x) ≡ a * whole c m)

abbrev pub seats : List ℕ → Seating
seats each = position each 0

-- some seat is in state 2; no seat is; exactly one is in state 1; every seat is; the shared number is 1
abbrev pub some_two : Question
some_two = atom (of_all any is 2)

abbrev pub no_two : Question
no_two = atom (of_all all isnt 2)

abbrev pub one_leader : Question
one_leader = atom (one_in 1)

abbrev pub all_one : Question
all_one = atom (of_all all is 1)

abbrev pub shared_one : Question
shared_one = atom (shared_at is 1)

-- ---- cards, each as a text and as a value

abbrev pub mode_text : Mode → List ℕ
mode_text probabilistic = bytes "probabilistic\n"
mode_text nondeterministic = bytes "nondeterministic\n"

-- what is declared behind the mode, the highest state, the statements and further modules
abbrev pub text_of : (declared top statements further : String) → Mode → List ℕ
text_of declared top statements further mode =
    mode_text mode ++ bytes declared ++ bytes "module process1\ns1 : [0.." ++ bytes top ++ bytes "] init 0;\n" ++ bytes statements ++ bytes "endmodule\n" ++ bytes further

abbrev pub second : String
second = "module process2 = process1 [s1=s2, s2=s1] endmodule\n"

abbrev pub day_or_night : String
day_or_night = "global g : [0..1] init 0;\n"

-- two seats in states 0 and 1
abbrev pub pair : Option Shared → List Statement → Mode → Card
pair shared statements mode = record { mode = mode; shared = shared; n = 2; k = 1; l = 0; statements = statements }

abbrev pub two_values : Option Shared
two_values = some (record { most = 1; start = 0 })

abbrev pub rule : ℕ → Option Guard → List Branch → Statement
rule own guard branches = record { own = own; guard = guard; branches = branches }

-- while the other seat is in state d; while the shared number is v
abbrev pub besides : ℕ → Option Guard
besides d = some (atom (group others all is d))

abbrev pub while_at : ℕ → Option Guard
while_at v = some (atom (shared_is is v))

abbrev pub to : ℕ → ℕ → Branch
to units end = record { units = units; end = end; sets = none }

-- and the shared number becomes v
abbrev pub to_and : ℕ → ℕ → ℕ → Branch
to_and units end v = record { units = units; end = end; sets = some v }

-- apart, either seat may go where the other is; together they are stuck
abbrev pub meeting_text : Mode → List ℕ
meeting_text = text_of "" "1" "[] s1=0 & (s2=1) -> 1/2:(s1'=1) + 1/2:(s1'=0);\n[] s1=1 & (s2=0) -> 1/4:(s1'=0) + 3/4:(s1'=1);\n" second

abbrev pub meeting_card : Mode → Card
meeting_card = pair none (rule 0 (besides 1) (to 138600 1 ∷ to 138600 0 ∷ []) ∷ rule 1 (besides 0) (to 69300 0 ∷ to 207900 1 ∷ []) ∷ [])

abbrev pub leaving_text : Mode → List ℕ
leaving_text = text_of "" "1" "[] s1=0 -> 1:(s1'=1);\n" second

abbrev pub leaving_card : Mode → Card
leaving_card = pair none (rule 0 none (to 277200 1 ∷ []) ∷ [])

-- the second seat to leave may be helped by the first
abbrev pub helped_text : Mode → List ℕ
helped_text = text_of "" "1" "[] s1=0 -> 1/3:(s1'=1) + 2/3:(s1'=0);\n[] s1=0 & (s2=1) -> 3/4:(s1'=1) + 1/4:(s1'=0);\n" second

abbrev pub helped_card : Mode → Card
helped_card = pair none (rule 0 none (to 92400 1 ∷ to 184800 0 ∷ []) ∷ rule 0 (besides 1) (to 207900 1 ∷ to 69300 0 ∷ []) ∷ [])

-- one seat, stuck in state 1 or in state 2
abbrev pub fork_text : Mode → List ℕ
fork_text = text_of "" "2" "[] s1=0 -> 1/3:(s1'=1) + 1/3:(s1'=2) + 1/3:(s1'=0);\n[] s1=0 -> 1/2:(s1'=1) + 1/2:(s1'=2);\n" ""

abbrev pub fork_card : Mode → Card
fork_card mode = record {
  mode = mode;
  shared = none;
  n = 1;
  k = 2;
  l = 0;
  statements = rule 0 none (to 92400 1 ∷ to 92400 2 ∷ to 92400 0 ∷ []) ∷ rule 0 none (to 138600 1 ∷ to 138600 2 ∷ []) ∷ [];
}

-- night may fall before a seat has left, and then all are stuck
abbrev pub dusk_text : Mode → List ℕ
dusk_text = text_of day_or_night "1"
    "[] s1=0 & (g=0) -> 1/2:(s1'=1) + 1/4:(s1'=0) & (g'=1) + 1/4:(s1'=0);\n[] s1=0 & (g=0) -> 1/3:(s1'=1) + 1/3:(s1'=0) & (g'=1) + 1/3:(s1'=0);\n" second

abbrev pub dusk_card : Mode → Card
dusk_card = pair two_values (
    rule 0 (while_at 0) (to 138600 1 ∷ to_and 69300 0 1 ∷ to 69300 0 ∷ [])
    ∷ rule 0 (while_at 0) (to 92400 1 ∷ to_and 92400 0 1 ∷ to 92400 0 ∷ [])
    ∷ []
    )

-- a seat stays or moves and makes it night, or makes it day again
abbrev pub calling_text : Mode → List ℕ
calling_text = text_of day_or_night "1"
    "[] s1=0 & (g=0) -> 1/2:(s1'=0) & (g'=1) + 1/2:(s1'=1);\n[] s1=0 & (g=0) -> 3/4:(s1'=1) & (g'=1) + 1/4:(s1'=0);\n[] s1=1 & (g=1) -> 2/3:(s1'=1) & (g'=0) + 1/3:(s1'=0);\n" second

abbrev pub calling_card : Mode → Card
calling_card = pair two_values (
    rule 0 (while_at 0) (to_and 138600 0 1 ∷ to 138600 1 ∷ [])
    ∷ rule 0 (while_at 0) (to_and 207900 1 1 ∷ to 69300 0 ∷ [])
    ∷ rule 1 (while_at 1) (to_and 184800 1 0 ∷ to 92400 0 ∷ [])
    ∷ []
    )

abbrev pub night_text : Mode → List ℕ
night_text = text_of day_or_night "1" "[] s1=0 & (g=0) -> 1/2:(s1'=0) & (g'=1) + 1/2:(s1'=0);\n[] s1=0 & (g=1) -> 1:(s1'=1);\n" ""

abbrev pub Reads : (Mode → List ℕ) → (Mode → Card) → Type 0
Reads text card = (mode : Mode) → read_of (text mode) ≡ taken (card mode)

-- ---- what is asked of them

abbrev pub OnCardA : Mode → Aim → (m a b : ℕ) → Type 0
OnCardA mode aim m a b = Within (card_a mode) aim some_two (seats (0 ∷ 0 ∷ 1 ∷ [])) m a b

abbrev pub Elects : Aim → (m a b : ℕ) → Type 0
Elects aim m a b = Within leader_card aim one_leader (seats (0 ∷ 1 ∷ 1 ∷ [])) m a b

-- the shared number is 0 by day
abbrev pub Wakes : (time m a b : ℕ) → Type 0
Wakes time m a b = Within (night_card probabilistic) largest all_one (position (0 ∷ []) time) m a b

-- the seats are in states i and j
abbrev pub Meets : Mode → Aim → (i j m a b : ℕ) → Type 0
Meets mode aim i j m a b = Within (meeting_card mode) aim all_one (seats (i ∷ j ∷ [])) m a b

abbrev pub Helped : Aim → (i j m a b : ℕ) → Type 0
Helped aim i j m a b = Within (helped_card nondeterministic) aim all_one (seats (i ∷ j ∷ [])) m a b

abbrev pub Forks : Mode → Aim → (m a b : ℕ) → Type 0
Forks mode aim m a b = Within (fork_card mode) aim all_one (seats (0 ∷ [])) m a b

abbrev pub LeavesByDay : Mode → Aim → (m a b : ℕ) → Type 0
LeavesByDay mode aim m a b = Within (dusk_card mode) aim all_one (seats (0 ∷ 1 ∷ [])) m a b

abbrev pub Calls : Aim → (m a b : ℕ) → Type 0
Calls aim m a b = Within (calling_card nondeterministic) aim shared_one (seats (0 ∷ 0 ∷ [])) m a b

abbrev pub step : ℕ → List ℕ → Step Position
step units each = record { units = units; next = position each 0 }

pub record EveningEdges : Type 0 where
  -- the texts are these cards, in either mode; those of card A and of the leader election are in the other edges
  pub cards : Reads meeting_text meeting_card × Reads leaving_text leaving_card × Reads helped_text helped_card × Reads fork_text fork_card
      × Reads dusk_text dusk_card × Reads calling_text calling_card × Reads night_text night_card
  -- each seat has turns of its own, in which it moves and the other does not
  pub told_apart : turns (meeting_card probabilistic) (seats (0 ∷ 1 ∷ []))
      ≡ (step 138600 (1 ∷ 1 ∷ []) ∷ step 138600 (0 ∷ 1 ∷ []) ∷ []) ∷ (step 69300 (0 ∷ 0 ∷ []) ∷ step 207900 (0 ∷ 1 ∷ []) ∷ []) ∷ []
  -- also where turns are chosen: one for each seat, and by counts one for both
  pub one_each : (turns (leaving_card nondeterministic) (seats (0 ∷ 0 ∷ [])) ≡ (step 277200 (1 ∷ 0 ∷ []) ∷ []) ∷ (step 277200 (0 ∷ 1 ∷ []) ∷ []) ∷ [])
      × (reduced_turns (reduce (leaving_card nondeterministic)) (counted 1 (seats (0 ∷ 0 ∷ []))) ≡ (step 277200 (1 ∷ 1 ∷ []) ∷ []) ∷ [])
  -- turns that are drawn: within no step, one and two, and the aim makes no difference
  pub drawn : OnCardA probabilistic largest 0 0 1 × OnCardA probabilistic largest 1 5 12 × OnCardA probabilistic largest 2 29 48 × OnCardA probabilistic smallest 2 29 48
  -- turns that are chosen: the largest and the smallest over the seats' choices
  pub chosen : OnCardA nondeterministic largest 1 1 2 × OnCardA nondeterministic smallest 2 7 16
  pub elected : Elects largest 1 1 2 × Elects largest 2 3 4 × Elects smallest 2 0 1
  -- what one seat may do hangs on the other, and so on who has moved before
  pub helped : Helped largest 0 1 2 15 16 × Helped smallest 0 1 2 5 9 × Helped largest 0 0 3 23 48 × Helped smallest 0 0 3 7 27
  -- a stuck seating keeps its chance, 0 where the question does not hold and 1 where it does
  pub stuck : Within (card_a nondeterministic) smallest no_two (seats (0 ∷ 1 ∷ 2 ∷ [])) 2 0 1 × Within (card_a probabilistic) largest no_two (seats (0 ∷ 1 ∷ 2 ∷ [])) 2 0 1
      × Within (card_a nondeterministic) smallest some_two (seats (0 ∷ 1 ∷ 2 ∷ [])) 2 1 1
  -- tables that get stuck on the way: drawn, in either order of the seats; and chosen, where the smallest leads to a stuck table and is 0 there
  pub stuck_later : Meets probabilistic largest 0 1 1 1 4 × Meets probabilistic largest 1 0 2 13 32 × Meets probabilistic smallest 0 1 3 129 256
      × Meets nondeterministic largest 0 1 2 3 4 × Meets nondeterministic smallest 0 1 2 0 1
  -- one branch goes on, and the others get stuck
  pub forked : Forks nondeterministic largest 2 1 2 × Forks nondeterministic smallest 3 13 27 × Forks probabilistic largest 2 35 72
  -- with a shared number: by day, and by night
  pub shared : Wakes 0 1 0 1 × Wakes 0 2 1 2 × Wakes 0 3 3 4 × Wakes 1 1 1 1
  -- a seat that stays sets it, and the table is stuck
  pub shared_stuck : LeavesByDay nondeterministic largest 3 21 32 × LeavesByDay nondeterministic smallest 3 13 27 × LeavesByDay probabilistic largest 2 155 288
  -- a question asks for it, and seats that stay or move set it
  pub shared_asked : Calls largest 1 3 4 × Calls smallest 1 1 2 × Calls largest 2 15 16 × Calls smallest 2 3 4
  -- a third in millionths: a part of one short is close by one, and not by none; above it, or more than one short, is not close by one
  pub close : Close 1 3 333333 1 × (Close 0 3 333333 1 → ⊥) × (Close 1 3 333334 1 → ⊥) × (Close 1 3 333332 1 → ⊥)
