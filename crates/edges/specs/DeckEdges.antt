-- Edges of a box, each as the whole input and the whole answer (document 02, 2026-02). Assumes nothing.
use Rattle.std.specs.Prelude.{ℕ, ◌≡◌, true, false, List, [], ◌∷◌, replicate}
use Rattle.card.specs.Text.{bytes}
use Rattle.entry.specs.Said.{says, refused}
use Rattle.deck.specs.Deck.{Entry, deck_of, deck_text}
use Rattle.deck.specs.Lookup.{find, find_with, Part, located_with}

abbrev pub live : ℕ → List ℕ → Entry
live number body = record { number = number; live = true; body = body }

abbrev pub withdrawn : ℕ → List ℕ → Entry
withdrawn number body = record { number = number; live = false; body = body }

abbrev pub part : ℕ → ℕ → ℕ → Part
part which offset size = record { which = which; offset = offset; size = size }

-- one entry: number 3 from byte 9 on, two bytes
abbrev pub one_entry : List ℕ
one_entry = 1 ∷ 3 ∷ 0 ∷ 9 ∷ 0 ∷ 2 ∷ 0 ∷ 1 ∷ 0 ∷ bytes "AB"

-- number 0 at byte 19 and 300 at byte 22, with gaps before, between and behind the bodies
abbrev pub gaps : List ℕ
gaps = 2 ∷ 0 ∷ 0 ∷ 19 ∷ 0 ∷ 2 ∷ 0 ∷ 1 ∷ 0 ∷ 44 ∷ 1 ∷ 22 ∷ 0 ∷ 1 ∷ 0 ∷ 1 ∷ 0 ∷ bytes "..AB.C.."

-- empty bodies, the last of them at the deck's end
abbrev pub empties : List ℕ
empties = 2 ∷ 3 ∷ 0 ∷ 17 ∷ 0 ∷ 0 ∷ 0 ∷ 1 ∷ 0 ∷ 4 ∷ 0 ∷ 17 ∷ 0 ∷ 0 ∷ 0 ∷ 0 ∷ 0 ∷ []

-- another deck with a live card 3, and an expansion with 3 withdrawn and 5 live
abbrev pub another : List ℕ
another = 1 ∷ 3 ∷ 0 ∷ 9 ∷ 0 ∷ 3 ∷ 0 ∷ 1 ∷ 0 ∷ bytes "CDE"

abbrev pub expansion : List ℕ
expansion = 2 ∷ 3 ∷ 0 ∷ 17 ∷ 0 ∷ 1 ∷ 0 ∷ 0 ∷ 0 ∷ 5 ∷ 0 ∷ 18 ∷ 0 ∷ 2 ∷ 0 ∷ 1 ∷ 0 ∷ bytes "XYZ"

-- a deck of one entry with nothing behind it, by the eight bytes of the entry
abbrev pub bare : (n m o p s t flag z : ℕ) → List ℕ
bare n m o p s t flag z = 1 ∷ n ∷ m ∷ o ∷ p ∷ s ∷ t ∷ flag ∷ z ∷ []

pub record DeckEdges : Type 0 where
  pub one_entry_holds : (deck_of one_entry ≡ says (live 3 (bytes "AB") ∷ [])) × (find one_entry 3 ≡ says (bytes "AB")) × (find one_entry 4 ≡ refused 12 0)
  pub written : deck_text (live 3 (bytes "AB") ∷ []) ≡ one_entry
  -- gaps are allowed, and are not written again
  pub with_gaps : (deck_of gaps ≡ says (live 0 (bytes "AB") ∷ live 300 (bytes "C") ∷ [])) × (find gaps 300 ≡ says (bytes "C"))
  pub without_gaps : deck_text (live 0 (bytes "AB") ∷ live 300 (bytes "C") ∷ [])
      ≡ 2 ∷ 0 ∷ 0 ∷ 17 ∷ 0 ∷ 2 ∷ 0 ∷ 1 ∷ 0 ∷ 44 ∷ 1 ∷ 19 ∷ 0 ∷ 1 ∷ 0 ∷ 1 ∷ 0 ∷ bytes "ABC"
  -- an empty card that is live is found, and one that is withdrawn is not
  pub empty_bodies : (deck_of empties ≡ says (live 3 [] ∷ withdrawn 4 [] ∷ [])) × (find empties 3 ≡ says []) × (find empties 4 ≡ refused 12 0)
  -- in the expansion if live there, else in the base; withdrawn there falls through
  pub falls_through : (find_with one_entry expansion 3 ≡ says (bytes "AB")) × (located_with one_entry expansion 3 ≡ says (part 0 9 2))
  pub from_expansion : (find_with one_entry expansion 5 ≡ says (bytes "YZ")) × (located_with one_entry expansion 5 ≡ says (part 1 18 2))
  pub expansion_first : (find_with one_entry another 3 ≡ says (bytes "CDE")) × (located_with one_entry another 3 ≡ says (part 1 9 3))
  pub in_neither : find_with one_entry expansion 4 ≡ refused 12 0
  -- the end of the contents is the first place for a body; an offset past the deck shows as a length past it, with length 0 too
  pub first_place : (deck_of (bare 3 0 9 0 0 0 1 0) ≡ says (live 3 [] ∷ [])) × (deck_of (bare 3 0 8 0 0 0 1 0) ≡ refused 11 3)
  pub past_deck : (deck_of (bare 3 0 10 0 0 0 1 0) ≡ refused 11 5) × (deck_of (bare 3 0 9 0 1 0 1 0) ≡ refused 11 5)
  -- a flag of 2, a byte that is not 0, and both
  pub last_fields : (deck_of (bare 3 0 9 0 0 0 2 0) ≡ refused 11 7) × (deck_of (bare 3 0 9 0 0 0 1 1) ≡ refused 11 8)
      × (deck_of (bare 3 0 9 0 0 0 2 1) ≡ refused 11 7)
  -- the same number twice, and bodies that overlap: at the second entry's number and offset
  pub same_number : deck_of (2 ∷ 3 ∷ 0 ∷ 17 ∷ 0 ∷ 0 ∷ 0 ∷ 1 ∷ 0 ∷ 3 ∷ 0 ∷ 17 ∷ 0 ∷ 0 ∷ 0 ∷ 1 ∷ 0 ∷ []) ≡ refused 11 9
  pub overlap : deck_of (2 ∷ 3 ∷ 0 ∷ 17 ∷ 0 ∷ 2 ∷ 0 ∷ 1 ∷ 0 ∷ 4 ∷ 0 ∷ 18 ∷ 0 ∷ 1 ∷ 0 ∷ 1 ∷ 0 ∷ bytes "AB") ≡ refused 11 11
  -- no byte, no card, 65 cards with as many entries, contents cut short
  pub wrong_count : (deck_of [] ≡ refused 11 0) × (deck_of (0 ∷ []) ≡ refused 11 0) × (deck_of (65 ∷ replicate 520 0) ≡ refused 11 0)
      × (deck_of (1 ∷ 3 ∷ 0 ∷ 9 ∷ 0 ∷ 0 ∷ 0 ∷ 1 ∷ []) ≡ refused 11 0)
  -- the base is judged first; the expansion's places count from 65,536
  pub two_decks : (find_with (bare 3 0 8 0 0 0 1 0) [] 3 ≡ refused 11 3) × (find_with one_entry [] 3 ≡ refused 11 65536)
      × (find_with one_entry (bare 3 0 8 0 0 0 1 0) 3 ≡ refused 11 65539)
