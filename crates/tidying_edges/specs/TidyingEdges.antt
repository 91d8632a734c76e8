-- The edges of document 02, 2026-12, as whole decks: the answer, and the lent deck afterwards. Assumes nothing.
use Rattle.std.specs.Prelude.{ℕ, zero, suc, ◌≡◌, List, [], ◌∷◌, ◌++◌, replicate}
use Rattle.card.specs.Text.{bytes}
use Rattle.entry.specs.Said.{Said, says, refused}
use Rattle.entry.specs.Contract.{valued, left, in_place}
use Rattle.tidying.specs.Tidying.{tidy_said, add_said}
use Rattle.edges.specs.Edges.{head}
use Rattle.mending_edges.specs.MendingEdges.{row, live, gone, card}

-- the answer, and the deck afterwards
abbrev pub Ends : (deck : List ℕ) → Said (List ℕ) → Said ℕ → (after : List ℕ) → Type 0
Ends deck said answer after = (valued (in_place deck said) ≡ answer) × (left deck (in_place deck said) ≡ after)

abbrev pub Tidies : (deck : List ℕ) → Said ℕ → (after : List ℕ) → Type 0
Tidies deck answer after = Ends deck (tidy_said deck) answer after

abbrev pub Adds : (deck : List ℕ) (number : ℕ) (card : List ℕ) → Said ℕ → (after : List ℕ) → Type 0
Adds deck number body answer after = Ends deck (add_said deck number body) answer after

-- a refusal leaves the deck as it was
abbrev pub NotTidied : (deck : List ℕ) (number place : ℕ) → Type 0
NotTidied deck number place = Tidies deck (refused number place) deck

abbrev pub NotAdded : (deck : List ℕ) (number : ℕ) (card : List ℕ) (wrong place : ℕ) → Type 0
NotAdded deck number body wrong place = Adds deck number body (refused wrong place) deck

-- cards 3 and 5, one byte each, and so many bytes behind
abbrev pub pair : ℕ → List ℕ
pair n = 2 ∷ live 3 17 1 ++ live 5 18 1 ++ bytes "AB" ++ replicate n 46

-- empty cards, so many live ones from a number on, whose bodies start behind 64 entries
abbrev pub crowd : (number count : ℕ) → List ℕ
crowd number zero = []
crowd number (suc c) = number ∷ 0 ∷ 1 ∷ 2 ∷ 0 ∷ 0 ∷ 1 ∷ 0 ∷ crowd (suc number) c

-- a card of 65,526 bytes in a deck of 65,535
abbrev pub longest : List ℕ
longest = 1 ∷ 3 ∷ 0 ∷ 9 ∷ 0 ∷ 246 ∷ 255 ∷ 1 ∷ 0 ∷ replicate 65526 46

pub record TidyingEdges : Type 0 where
  -- nothing to do
  pub same : Tidies (pair 0) (says 19) (pair 0)
  -- gaps before, between and behind the bodies are closed, and zero bytes follow
  pub gaps_closed : Tidies (2 ∷ live 3 19 2 ++ live 4 22 1 ++ bytes "..AB.C..") (says 20) (2 ∷ live 3 17 2 ++ live 4 19 1 ++ bytes "ABC" ++ replicate 5 0)
  pub unused_end : Tidies (1 ∷ live 3 9 2 ++ bytes "AB....") (says 11) (1 ∷ live 3 9 2 ++ bytes "AB" ++ replicate 4 0)
  -- withdrawn entries are dropped: the contents shrink too
  pub around : Tidies (3 ∷ gone 2 25 1 ++ live 3 26 2 ++ gone 4 28 1 ++ bytes "XABY") (says 11) (1 ∷ live 3 9 2 ++ bytes "AB" ++ replicate 18 0)
  pub between : Tidies (3 ∷ live 2 25 1 ++ gone 3 26 2 ++ live 4 28 1 ++ bytes "AXYB") (says 19) (2 ∷ live 2 17 1 ++ live 4 18 1 ++ bytes "AB" ++ replicate 10 0)
  -- a body longer than the way that it moves
  pub overlaps_itself : Tidies (1 ∷ live 3 10 6 ++ bytes ".ABCDEF") (says 15) (1 ∷ live 3 9 6 ++ bytes "ABCDEF" ++ 0 ∷ [])
  -- live cards with empty bodies stay, and the number 0 is a number
  pub empty_bodies : Tidies (2 ∷ live 0 18 0 ++ live 1 19 0 ++ bytes "...") (says 17) (2 ∷ live 0 17 0 ++ live 1 17 0 ++ replicate 3 0)
  -- what was tidied is its own tidying
  pub again : Tidies (1 ∷ live 3 9 2 ++ bytes "AB" ++ replicate 18 0) (says 11) (1 ∷ live 3 9 2 ++ bytes "AB" ++ replicate 18 0)
  -- no live card; a field that is wrong comes before
  pub none_live : NotTidied (2 ∷ gone 3 17 1 ++ gone 4 18 1 ++ bytes "AB") 12 0
  pub field_first : NotTidied (2 ∷ gone 3 17 1 ++ row 4 18 1 0 1 ++ bytes "AB") 11 16
  pub overlap : NotTidied (2 ∷ live 3 17 2 ++ live 4 18 1 ++ bytes "AB") 11 11
  -- no byte, no card; a byte too many, and as many as a deck may have
  pub no_head : NotTidied [] 11 0 × NotTidied (0 ∷ []) 11 0
  pub most_bytes : (tidy_said (1 ∷ live 3 9 0 ++ replicate 65527 46) ≡ refused 11 0) × (tidy_said (1 ∷ live 3 9 0 ++ replicate 65526 46) ≡ says (1 ∷ live 3 9 0))
  -- a card before, between and behind the others, in just the room needed
  pub before_all : Adds (pair 90) 0 card (says 109) (3 ∷ live 0 25 82 ++ live 3 107 1 ++ live 5 108 1 ++ card ++ bytes "AB")
  pub in_between : Adds (pair 90) 4 card (says 109) (3 ∷ live 3 25 1 ++ live 4 26 82 ++ live 5 108 1 ++ bytes "A" ++ card ++ bytes "B")
  pub behind_all : Adds (pair 90) 65535 card (says 109) (3 ∷ live 3 25 1 ++ live 5 26 1 ++ (255 ∷ 255 ∷ 27 ∷ 0 ∷ 82 ∷ 0 ∷ 1 ∷ 0 ∷ []) ++ bytes "AB" ++ card)
  -- with room to spare zero bytes follow; a byte short is 10 at the length needed
  pub room_to_spare : Adds (pair 92) 6 card (says 109) (3 ∷ live 3 25 1 ++ live 5 26 1 ++ live 6 27 82 ++ bytes "AB" ++ card ++ 0 ∷ 0 ∷ [])
  pub byte_short : NotAdded (pair 89) 4 card 10 109
  -- a withdrawn card makes room, and its number may be added
  pub from_withdrawn : Adds (2 ∷ live 3 17 1 ++ gone 5 18 83 ++ bytes "A" ++ replicate 83 46) 4 card (says 100) (2 ∷ live 3 17 1 ++ live 4 18 82 ++ bytes "A" ++ card ++ 0 ∷ [])
  pub withdrawn_number : Adds (2 ∷ live 3 17 1 ++ gone 5 18 83 ++ bytes "A" ++ replicate 83 46) 5 card (says 100) (2 ∷ live 3 17 1 ++ live 5 18 82 ++ bytes "A" ++ card ++ 0 ∷ [])
  -- a number that is live: its entry in the deck as lent, before 10
  pub live_already : NotAdded (2 ∷ gone 3 17 1 ++ live 5 18 1 ++ bytes "AB") 5 card 19 9
  -- a 64th live card, where a withdrawn one was
  pub sixty_fourth : Adds (64 ∷ crowd 1 63 ++ (64 ∷ 0 ∷ 1 ∷ 2 ∷ 82 ∷ 0 ∷ 0 ∷ 0 ∷ []) ++ replicate 82 46) 64 card (says 595)
      (64 ∷ crowd 1 63 ++ (64 ∷ 0 ∷ 1 ∷ 2 ∷ 82 ∷ 0 ∷ 1 ∷ 0 ∷ []) ++ card)
  -- a 65th live card, before 10; a number that is live before it
  pub too_many : NotAdded (64 ∷ crowd 1 64) 65 card 19 0
  pub live_before_many : NotAdded (64 ∷ crowd 1 64) 64 card 19 505
  -- 12 before the card, and the card before 19
  pub none_live_first : NotAdded (1 ∷ gone 3 9 0) 3 [] 12 0
  pub card_first : NotAdded (pair 0) 3 [] 3 0
  -- by the rule of today, and before 10
  pub decimal : NotAdded (pair 0) 4 (head ++ bytes " -> 0.5:(s1'=1) + 0.5:(s1'=2);\nendmodule\n") 17 61
  -- the length needed may be more than a deck may have
  pub past_most : add_said longest 4 card ≡ refused 10 65625
  -- a lent deck of a byte more than a deck may have
  pub too_long_holds : add_said (1 ∷ live 3 9 0 ++ replicate 65527 46) 4 card ≡ refused 11 0
