-- How long the two texts of a card can be, reckoned from the limits: rooms that are always enough, and for a written card bytes that are
-- enough for its seats and statements, so that the text need not be measured. That they are enough is proved in proofs/WrittenShort.antt
-- and proofs/ReducedShort.antt. Assumes nothing.
use Rattle.std.specs.Prelude.{ℕ, ◌+◌, ◌-◌, ◌*◌, ◌/◌}
use Rattle.card.specs.Limits.{most_seats, most_states, most_statements, most_branches, most_nodes}
use Rattle.phrases.specs.Phrases.{weight_most}

-- ---- both texts: leaves of so many bytes and one more, branches of so many

-- half of a guard's nodes are leaves at most, since each sign that joins has two parts
abbrev pub most_leaves : ℕ
most_leaves = most_nodes / 2

-- the sign before a guard; a byte for each node; the first leaf, and each further one with a sign and its brackets
abbrev pub test_most : ℕ → ℕ
test_most further = 3 + (further + (most_leaves - 1) * (further + 4) + most_nodes)

-- the signs between branches
abbrev pub branches_most : ℕ → ℕ
branches_most most = most_branches * (3 + most) - 3

-- a statement behind its first test, with " -> " and ";\n"
abbrev pub tail_most : ℕ → ℕ → ℕ
tail_most further most = test_most further + 4 + branches_most most + 2

-- "\nglobal g : [0..7] init 7;", and " & (g'=7)" last in a branch
abbrev pub declaration_most : ℕ
declaration_most = 26

abbrev pub set_most : ℕ
set_most = 9

-- ---- the written card

-- the first module without its statements: the mode's word, the declaration, the lines up to the statements with k and l, the last line
abbrev pub head_most : ℕ
head_most = 16 + declaration_most + 26 + 1 + 7 + 1 + 2 + 10

-- " & s16!=7" for each seat of a group, and in all two bytes less: it has brackets, and no first sign
abbrev pub literal_most : ℕ
literal_most = 9

abbrev pub group_most : ℕ → ℕ
group_most n = literal_most * n - 1

-- a weight, ":(s1'=7)" and what is set
abbrev pub branch_most : ℕ
branch_most = 8 + weight_most + set_most

-- what each seat adds to a statement, and all else in it, with "[] s1=7"
abbrev pub seat_most : ℕ
seat_most = literal_most * most_leaves

abbrev pub bare_most : ℕ
bare_most = 7 + tail_most 0 branch_most - 2 * most_leaves

abbrev pub statement_most : ℕ → ℕ
statement_most n = bare_most + seat_most * n

-- a further module: its seat's number three times, and 49 bytes round it
abbrev pub module_most : ℕ
module_most = 3 * 2 + 49

abbrev pub written_most : ℕ → ℕ → ℕ
written_most n count = head_most + count * statement_most n + n * module_most

-- a room in which every written card fits
abbrev pub written_room : ℕ
written_room = written_most most_seats most_statements

-- ---- the reduced text

-- "(no_7<16)"
abbrev pub counter_most : ℕ
counter_most = 9

-- "(no_7'=no_7-1) & (no_7'=min(no_7+1,16))" and what is set, and with a weight and ":"
abbrev pub update_most : ℕ
update_most = 39 + set_most

abbrev pub outcome_most : ℕ
outcome_most = 1 + weight_most + update_most

-- a copy behind its first test, kept beside the room while the copies are put
abbrev pub tail_places : ℕ
tail_places = 10 + tail_most (counter_most - 1) outcome_most

-- a copy with its first test, "[] (no_7>16)"
abbrev pub copy_most : ℕ
copy_most = 11 + tail_places

-- "no_7 : [0..16] init 16;\n"
abbrev pub declared_most : ℕ
declared_most = 24

-- the mode's word, the declaration, the module's two lines, a counter for each state, and so many copies of each statement as there are seats
abbrev pub reduced_room : ℕ
reduced_room = 16 + declaration_most + 24 + most_states * declared_most + most_statements * (most_seats * copy_most) + 10
