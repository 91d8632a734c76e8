-- The edges of document 02, 2026-11, as whole decks: what is made of each, or which card is named, and the room. Assumes nothing.
use Rattle.std.specs.Prelude.{ℕ, ◌+◌, ◌≡◌, List, [], ◌∷◌, ◌++◌, replicate}
use Prim.Native.String.{String}
use Rattle.card.specs.Text.{bytes}
use Rattle.entry.specs.Said.{Said, says, refused}
use Rattle.entry.specs.Contract.{valued, left, in_room}
use Rattle.converting.specs.Converting.{convert_said}
use Rattle.edges.specs.Edges.{head}
use Rattle.mending_edges.specs.MendingEdges.{row, live, gone, card, repaired, Mends}

-- a card with these branches
abbrev pub card_of : String → List ℕ
card_of branches = head ++ bytes branches ++ bytes ";\nendmodule\n"

-- one with decimals, 99 bytes, and its written form, 98
abbrev pub halves : List ℕ
halves = card_of " -> 0.5:(s1'=1) + 0.50:(s1'=2)"

abbrev pub halves_written : List ℕ
halves_written = card_of " -> 1/2:(s1'=1) + 1/2:(s1'=2)"

-- 100 bytes, which become 104
abbrev pub parts : List ℕ
parts = card_of " -> 0.37:(s1'=1) + 0.63:(s1'=2)"

abbrev pub parts_written : List ℕ
parts_written = card_of " -> 37/100:(s1'=1) + 63/100:(s1'=2)"

-- one that shares a number, 141 bytes, with this weight twice
abbrev pub shared : String → List ℕ
shared w =
    bytes "probabilistic\nglobal g : [0..2] init 0;\nmodule process1\ns1 : [0..1] init 0;\n[] s1=0 & (g=1) -> "
    ++ bytes w ++ bytes ":(s1'=0) + " ++ bytes w ++ bytes ":(s1'=1) & (g'=2);\nendmodule\n"

abbrev pub Becomes : (deck new : List ℕ) → Type 0
Becomes deck new = convert_said deck ≡ says new

abbrev pub Stays : List ℕ → Type 0
Stays deck = Becomes deck deck

abbrev pub Turned : List ℕ → (number place : ℕ) → Type 0
Turned deck number place = convert_said deck ≡ refused number place

-- the answer for a room, and the room afterwards
abbrev pub Ends : (deck room : List ℕ) → Said ℕ → (room' : List ℕ) → Type 0
Ends deck room answer room' = (valued (in_room room (convert_said deck)) ≡ answer) × (left room (in_room room (convert_said deck)) ≡ room')

-- behind a card of so many bytes a withdrawn one of 65,280 and some more
abbrev pub full : (first : List ℕ) (long more : ℕ) → List ℕ
full first long more = 2 ∷ live 3 17 long ++ (4 ∷ 0 ∷ (17 + long) ∷ 0 ∷ more ∷ 255 ∷ 0 ∷ 0 ∷ []) ++ first ++ replicate 65280 46 ++ replicate more 46

pub record ConvertingEdges : Type 0 where
  -- decimals are written as fractions or whole numbers, also where one of two weights is a decimal, and where the form is longer
  pub decimals : Becomes (1 ∷ live 3 9 99 ++ halves) (1 ∷ live 3 9 98 ++ halves_written)
  pub one_decimal : Becomes (1 ∷ live 3 9 98 ++ card_of " -> 1/2:(s1'=1) + 0.5:(s1'=2)") (1 ∷ live 3 9 98 ++ halves_written)
  pub longer : Becomes (1 ∷ live 3 9 100 ++ parts) (1 ∷ live 3 9 104 ++ parts_written)
  pub whole : Becomes (1 ∷ live 3 9 84 ++ card_of " -> 1.0:(s1'=1)") (1 ∷ live 3 9 82 ++ card)
  -- all else of such a card is written anew too: its blanks go, and its comments
  pub blanks_go : Becomes (1 ∷ live 3 9 85 ++ card_of "  -> 1.0:(s1'=1)") (1 ∷ live 3 9 82 ++ card)
  pub comment_goes : Becomes (1 ∷ live 3 9 92 ++ card_of " // 0.5\n -> 1.0:(s1'=1)") (1 ∷ live 3 9 82 ++ card)
  pub shared_number : Becomes (1 ∷ live 3 9 141 ++ shared "0.5") (1 ∷ live 3 9 141 ++ shared "1/2")
  pub nothing : Becomes (1 ∷ live 3 9 97 ++ card_of " -> 1:(s1'=1) + 0.00:(s1'=2)") (1 ∷ live 3 9 94 ++ card_of " -> 1:(s1'=1) + 0:(s1'=2)")
  -- two live cards, each its own
  pub two_live : Becomes (2 ∷ live 3 17 99 ++ live 4 116 100 ++ halves ++ parts) (2 ∷ live 3 17 98 ++ live 4 115 104 ++ halves_written ++ parts_written)
  -- no decimal weight: byte for byte, with its blanks, and with a decimal in a comment
  pub unchanged : Stays (1 ∷ live 3 9 82 ++ card)
  pub blanks_stay : Stays (1 ∷ live 3 9 83 ++ card_of "  -> 1:(s1'=1)")
  pub comment : Stays (1 ∷ live 3 9 90 ++ card_of " // 0.5\n -> 1:(s1'=1)")
  -- also weights that would be written otherwise
  pub unreduced : Stays (1 ∷ live 3 9 98 ++ card_of " -> 2/4:(s1'=1) + 1/2:(s1'=2)")
  pub no_units : Stays (1 ∷ live 3 9 97 ++ card_of " -> 1:(s1'=1) + 0/11:(s1'=2)")
  -- a withdrawn card is not read: decimals stay, and so does what is no card
  pub withdrawn : Stays (2 ∷ gone 3 17 99 ++ gone 4 116 2 ++ halves ++ bytes "AB")
  pub empty : Stays (1 ∷ gone 3 9 0)
  -- gaps go, and the bodies behind a converted one move up
  pub gaps_closed : Becomes (2 ∷ live 3 18 99 ++ gone 4 118 2 ++ bytes "." ++ halves ++ bytes ".AB.") (2 ∷ live 3 17 98 ++ gone 4 115 2 ++ halves_written ++ bytes "AB")
  -- converted a second time
  pub again : Stays (2 ∷ live 3 17 98 ++ gone 4 115 2 ++ halves_written ++ bytes "AB")
  -- mending reads by the new rule: it drops a live card with a decimal, and keeps the converted one; a withdrawn card keeps its decimals
  pub mended : Mends (2 ∷ live 2 17 99 ++ gone 3 116 2 ++ halves ++ bytes "AB") repaired "dropped 4\nkept\n"
  pub converted_first : Mends (2 ∷ live 3 17 98 ++ gone 4 115 2 ++ halves_written ++ bytes "AB") (2 ∷ live 3 17 98 ++ gone 4 115 2 ++ halves_written ++ bytes "AB") "kept\nkept\n"
  pub withdrawn_mended : Mends (1 ∷ gone 3 9 99 ++ halves) (1 ∷ gone 3 9 99 ++ halves) "kept\n"
  -- refused under the old rule: no card, no byte, a decimal above 1
  pub no_card : Turned (1 ∷ live 3 9 2 ++ bytes "AB") 18 3
  pub no_byte : Turned (1 ∷ live 3 9 0) 18 3
  pub wrong_decimal : Turned (1 ∷ live 3 9 85 ++ card_of " -> 1.01:(s1'=1)") 18 3
  -- by its number, which may be 0 and may have two bytes; the first such card is named, behind cards that are converted or withdrawn
  pub number_0 : Turned (1 ∷ live 0 9 0) 18 0
  pub two_bytes : Turned (1 ∷ 2 ∷ 1 ∷ 9 ∷ 0 ∷ 0 ∷ 0 ∷ 1 ∷ 0 ∷ []) 18 258
  pub first_such : Turned (4 ∷ gone 2 33 2 ++ live 3 35 99 ++ live 7 134 2 ++ live 9 136 2 ++ bytes "AB" ++ halves ++ bytes "CDEF") 18 7
  -- as many bytes as a deck may have, and one more: the withdrawn card behind is named
  pub most_bytes : Becomes (full parts 100 134) (full parts_written 104 134) × Turned (full parts 100 135) 18 4
  -- card 4 would end a byte past the deck's most, card 5 behind it is no card: 4 is named
  pub first_past : Turned (3 ∷ (3 ∷ 0 ∷ 25 ∷ 0 ∷ 127 ∷ 255 ∷ 0 ∷ 0 ∷ []) ++ (4 ∷ 0 ∷ 152 ∷ 255 ∷ 100 ∷ 0 ∷ 1 ∷ 0 ∷ []) ++ (5 ∷ 0 ∷ 252 ∷ 255 ∷ 0 ∷ 0 ∷ 1 ∷ 0 ∷ [])
      ++ replicate 65280 46 ++ replicate 127 46 ++ parts) 18 4
  -- 11 at the first wrong field, before 18
  pub malformed : Turned [] 11 0 × Turned (2 ∷ live 3 17 2 ++ live 3 19 0 ++ bytes "AB") 11 9 × Turned (1 ∷ row 3 9 2 1 1 ++ bytes "AB") 11 8
  -- 18 before 10; a room to spare, an exact one, and one that is a byte short
  pub card_first : Ends (1 ∷ live 3 9 2 ++ bytes "AB") [] (refused 18 3) []
  pub room_to_spare : Ends (1 ∷ gone 3 10 2 ++ bytes ".AB") (bytes "------------") (says 11) (1 ∷ gone 3 9 2 ++ bytes "AB-")
  pub exact_room : Ends (1 ∷ gone 3 10 2 ++ bytes ".AB") (bytes "-----------") (says 11) (1 ∷ gone 3 9 2 ++ bytes "AB")
  pub room_short : Ends (1 ∷ gone 3 10 2 ++ bytes ".AB") (bytes "----------") (refused 10 11) (bytes "----------")
