-- The edges of document 02, 2026-09, as whole decks: what is kept of each, the list, and both rooms. Assumes nothing.
use Rattle.std.specs.Prelude.{ℕ, ◌≡◌, List, [], ◌∷◌, ◌++◌, replicate}
use Prim.Native.String.{String}
use Rattle.card.specs.Text.{bytes}
use Rattle.entry.specs.Said.{Said, says, refused}
use Rattle.entry.specs.Contract.{Two, two, valued, left, in_rooms}
use Rattle.mending.specs.Mending.{mend_said}
use Rattle.edges.specs.Edges.{head}

-- an entry by its number, offset, length, flag and zero byte, all below 256; one that is live, and one that is withdrawn
abbrev pub row : (n o s flag z : ℕ) → List ℕ
row n o s flag z = n ∷ 0 ∷ o ∷ 0 ∷ s ∷ 0 ∷ flag ∷ z ∷ []

abbrev pub live : (n o s : ℕ) → List ℕ
live n o s = row n o s 1 0

abbrev pub gone : (n o s : ℕ) → List ℕ
gone n o s = row n o s 0 0

-- 82 bytes that are a card
abbrev pub card : List ℕ
card = head ++ bytes " -> 1:(s1'=1);\nendmodule\n"

-- what comes out of it: a deck, and the lines
abbrev pub Mends : (deck new : List ℕ) → String → Type 0
Mends deck new lines = mend_said deck ≡ says (two new (bytes lines))

abbrev pub Turned : List ℕ → Type 0
Turned deck = mend_said deck ≡ refused 11 0

-- the answer for two rooms, and the rooms afterwards
abbrev pub Ends : (deck room list : List ℕ) → Said (Two ℕ) → (room' list' : List ℕ) → Type 0
Ends deck room list answer room' list' =
    (valued (in_rooms (two room list) (mend_said deck)) ≡ answer) × (left (two room list) (in_rooms (two room list) (mend_said deck)) ≡ two room' list')

-- card 3, withdrawn, two bytes; its deck behind an entry that is dropped, and by itself
abbrev pub damaged : List ℕ
damaged = 2 ∷ row 2 17 0 2 0 ++ gone 3 18 2 ++ bytes ".AB."

abbrev pub repaired : List ℕ
repaired = 1 ∷ gone 3 9 2 ++ bytes "AB"

pub record MendingEdges : Type 0 where
  -- a live card that is accepted and one that is withdrawn, without gaps: byte for byte
  pub same : Mends (2 ∷ live 3 17 82 ++ gone 4 99 2 ++ card ++ bytes "AB") (2 ∷ live 3 17 82 ++ gone 4 99 2 ++ card ++ bytes "AB") "kept\nkept\n"
  -- gaps before, between and behind the bodies are closed
  pub gaps_closed : Mends (2 ∷ gone 3 19 2 ++ gone 4 22 1 ++ bytes "..AB.C..") (2 ∷ gone 3 17 2 ++ gone 4 19 1 ++ bytes "ABC") "kept\nkept\n"
  -- rule 1: a flag of 2, a zero byte of 1
  pub wrong_flag : Mends damaged repaired "dropped 1\nkept\n"
  pub wrong_zero_byte : Mends (2 ∷ row 2 17 0 1 1 ++ gone 3 17 2 ++ bytes "AB") repaired "dropped 1\nkept\n"
  -- rule 2: the same number, and a lower one
  pub same_number : Mends (2 ∷ gone 3 17 2 ++ gone 3 19 0 ++ bytes "AB") repaired "kept\ndropped 2\n"
  pub number_falls : Mends (2 ∷ gone 3 17 2 ++ gone 2 19 0 ++ bytes "AB") repaired "kept\ndropped 2\n"
  -- rule 3: into the contents, past the deck, into the last body kept
  pub in_contents : Mends (2 ∷ gone 2 16 1 ++ gone 3 17 2 ++ bytes "AB") repaired "dropped 3\nkept\n"
  pub past_deck : Mends (2 ∷ gone 3 17 2 ++ gone 4 19 1 ++ bytes "AB") repaired "kept\ndropped 3\n"
  pub overlap : Mends (2 ∷ gone 3 17 2 ++ gone 4 18 1 ++ bytes "AB") repaired "kept\ndropped 3\n"
  -- rule 4: a live card that is not accepted; withdrawn it is kept with any body
  pub not_a_card : Mends (2 ∷ live 2 17 2 ++ gone 3 17 2 ++ bytes "AB") repaired "dropped 4\nkept\n"
  pub empty_card : Mends (2 ∷ live 2 17 0 ++ gone 3 17 2 ++ bytes "AB") repaired "dropped 4\nkept\n"
  -- the first rule broken is named
  pub first_broken : Mends (4 ∷ gone 3 33 2 ++ row 3 0 9 2 0 ++ gone 3 0 9 ++ live 4 0 9 ++ bytes "AB") repaired "kept\ndropped 1\ndropped 2\ndropped 3\n"
  -- what is dropped is no measure for what follows, neither by its number nor by its end
  pub number_stays : Mends (3 ∷ gone 3 25 1 ++ gone 9 30 1 ++ gone 4 26 1 ++ bytes "AB") (2 ∷ gone 3 17 1 ++ gone 4 18 1 ++ bytes "AB") "kept\ndropped 3\nkept\n"
  pub end_stays : Mends (3 ∷ gone 3 25 1 ++ gone 2 26 2 ++ gone 4 26 1 ++ bytes "ABC") (2 ∷ gone 3 17 1 ++ gone 4 18 1 ++ bytes "AB") "kept\ndropped 2\nkept\n"
  -- so does none that breaks rule 1, 2 or 4
  pub flag_moves_nothing : Mends (3 ∷ row 9 25 2 2 0 ++ gone 3 25 1 ++ gone 4 26 1 ++ bytes "AB") (2 ∷ gone 3 17 1 ++ gone 4 18 1 ++ bytes "AB") "dropped 1\nkept\nkept\n"
  pub number_moves_nothing : Mends (3 ∷ gone 3 25 2 ++ gone 1 27 0 ++ gone 2 27 0 ++ bytes "AB") repaired "kept\ndropped 2\ndropped 2\n"
  pub card_moves_nothing : Mends (3 ∷ live 9 25 2 ++ gone 3 25 1 ++ gone 4 26 1 ++ bytes "AB") (2 ∷ gone 3 17 1 ++ gone 4 18 1 ++ bytes "AB") "dropped 4\nkept\nkept\n"
  -- the first number may be 0, and then no other
  pub number_0 : Mends (2 ∷ gone 0 17 0 ++ gone 0 17 0) (1 ∷ gone 0 9 0) "kept\ndropped 2\n"
  -- the contents are those of the deck as it was, which end at 25: the new ones end at 9
  pub old_contents : Mends (3 ∷ row 1 25 0 2 0 ++ gone 2 24 1 ++ gone 3 25 2 ++ bytes "AB") repaired "dropped 1\ndropped 3\nkept\n"
  -- an empty range at the contents' end, at the deck's end, before the contents' end, past the deck
  pub empty_first : Mends (2 ∷ gone 3 17 0 ++ gone 4 17 2 ++ bytes "AB") (2 ∷ gone 3 17 0 ++ gone 4 17 2 ++ bytes "AB") "kept\nkept\n"
  pub empty_last : Mends (2 ∷ gone 3 17 2 ++ gone 4 19 0 ++ bytes "AB") (2 ∷ gone 3 17 2 ++ gone 4 19 0 ++ bytes "AB") "kept\nkept\n"
  pub empty_early : Mends (2 ∷ gone 2 16 0 ++ gone 3 17 2 ++ bytes "AB") repaired "dropped 3\nkept\n"
  pub empty_past : Mends (2 ∷ gone 3 17 2 ++ gone 4 20 0 ++ bytes "AB") repaired "kept\ndropped 3\n"
  pub empty_inside : Mends (2 ∷ gone 3 17 2 ++ gone 4 18 0 ++ bytes "AB") repaired "kept\ndropped 3\n"
  -- one that is kept moves the last end to where it stands
  pub empty_moves_end : Mends (2 ∷ gone 3 18 0 ++ gone 4 17 2 ++ bytes "AB") (1 ∷ gone 3 9 0) "kept\ndropped 3\n"
  -- no byte, no card, 65 cards, contents cut short
  pub no_head : Turned [] × Turned (0 ∷ []) × Turned (65 ∷ replicate 520 0) × Turned (1 ∷ 3 ∷ 0 ∷ 9 ∷ 0 ∷ 0 ∷ 0 ∷ 1 ∷ [])
  -- a byte too many, and as many as a deck may have
  pub most_bytes : Turned (1 ∷ gone 3 9 0 ++ replicate 65527 46) × Mends (1 ∷ gone 3 9 0 ++ replicate 65526 46) (1 ∷ gone 3 9 0) "kept\n"
  -- nothing kept
  pub nothing_kept : Turned (1 ∷ live 3 9 2 ++ bytes "AB") × Turned (1 ∷ row 3 9 2 2 0 ++ bytes "AB")
  -- 11 before 10
  pub head_first : Ends [] [] [] (refused 11 0) [] []
  pub kept_first : Ends (1 ∷ live 3 9 2 ++ bytes "AB") [] [] (refused 11 0) [] []
  -- both rooms, with bytes to spare and without
  pub both_fit : Ends damaged (bytes ".............") (bytes "----------------") (says (two 11 15)) (repaired ++ bytes "..") (bytes "dropped 1\nkept\n-")
  pub exact_rooms : Ends damaged (bytes "...........") (bytes "---------------") (says (two 11 15)) repaired (bytes "dropped 1\nkept\n")
  -- a byte short: 10 for the deck also where the list does not fit, then for the list; nothing is written in either
  pub deck_first : Ends damaged (bytes "..........") [] (refused 10 11) (bytes "..........") []
  pub list_short : Ends damaged (bytes "...........") (bytes "--------------") (refused 10 15) (bytes "...........") (bytes "--------------")
