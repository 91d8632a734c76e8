-- The limits of a card and the unit of its weights ("What the box holds", "Shape of a card"), and those of a deck of cards and of public
-- classes (document 02, 2026-02 and 2026-05). Each number has its only home here, and its constant for the code in src/limits.rt, the unit's in the crate `weights`. Assumes nothing.
use Rattle.std.specs.Prelude.{ℕ, suc, ◌*◌, ◌^◌}

-- bytes of a card
abbrev pub card_bytes : ℕ
card_bytes = 16384

-- seats, of which there is one at least
abbrev pub most_seats : ℕ
most_seats = 16

-- the top state k, and how many states there are then
abbrev pub top_state : ℕ
top_state = 7

abbrev pub most_states : ℕ
most_states = suc top_state

-- the most that the number shared by all seats may be, and how many values it can have (document 02, 2026-10)
abbrev pub top_shared : ℕ
top_shared = 7

abbrev pub most_shared : ℕ
most_shared = suc top_shared

-- statements of a card, of which there is one at least; branches, guard nodes, open brackets and `!` of one statement
abbrev pub most_statements : ℕ
most_statements = 32

abbrev pub most_branches : ℕ
most_branches = 8

abbrev pub most_nodes : ℕ
most_nodes = 32

abbrev pub most_depth : ℕ
most_depth = 8

-- digits of a number, of the fraction of a decimal, and of the number in a seat or module word
abbrev pub number_digits : ℕ
number_digits = 6

abbrev pub further_digits : ℕ
further_digits = 6

abbrev pub word_digits : ℕ
word_digits = 5

-- each number that a card can spell is below this
abbrev pub numbers : ℕ
numbers = 10 ^ number_digits

-- a weight of 1, in units; digits that the fraction of a decimal weight may have
abbrev pub unit : ℕ
unit = 277200

abbrev pub weight_digits : ℕ
weight_digits = 2

-- the card's arrays: so many nodes and branches in all
abbrev pub node_places : ℕ
node_places = most_statements * most_nodes

abbrev pub branch_places : ℕ
branch_places = most_statements * most_branches

-- what a branch sets the shared number to has so many values: none, or one of its own
abbrev pub set_places : ℕ
set_places = suc most_shared

-- a statement's row has so many numbers: its own state, how many nodes, how many branches
abbrev pub row_numbers : ℕ
row_numbers = 3

abbrev pub row_places : ℕ
row_places = most_statements * row_numbers

-- bytes of a deck, and its cards, of which there is one at least
abbrev pub deck_bytes : ℕ
deck_bytes = 65535

abbrev pub most_cards : ℕ
most_cards = 64

-- a deck's contents: bytes of the count and of an entry; an entry starts with its card number, and its other fields stand from here on in it
abbrev pub count_bytes : ℕ
count_bytes = 1

abbrev pub entry_bytes : ℕ
entry_bytes = 8

abbrev pub offset_at : ℕ
offset_at = 2

abbrev pub size_at : ℕ
size_at = 4

abbrev pub flag_at : ℕ
flag_at = 6

abbrev pub zero_byte_at : ℕ
zero_byte_at = 7

-- a number of two bytes is below this
abbrev pub word_numbers : ℕ
word_numbers = 65536

-- places in an expansion count from here
abbrev pub expansion_from : ℕ
expansion_from = 65536

-- the top class of those that a spectator sees, and how many there are
abbrev pub top_class : ℕ
top_class = 7

abbrev pub public_classes : ℕ
public_classes = suc top_class
