-- What has to be known when the new deck is put. Assumes nothing.
use Rattle.std.specs.Prelude.{ℕ, ◌+◌, ◌≤◌, ◌≡◌, List, map, length}
use Rattle.card.specs.Valid.{Every}
use Rattle.deck.specs.Contents.{count_of, behind, contents_of}
use Rattle.deck.specs.Deck.{held_by}
use Rattle.deck.specs.Sound.{Sound}
use Rattle.entry.specs.Said.{says}
use Rattle.converted_rows.specs.Notes.{note_of, end_said, bodies_noted}
use Rattle.converted_rows.proofs.Text.{RightRow}

-- bodies that are put from `at` on end in the room
pub record BodiesFit (deck notes : List ℕ) (at : ℕ) (room : List ℕ) : Type 0 where
  pub right : Every (RightRow deck) (contents_of deck)
  pub fits : at + length (bodies_noted deck notes (contents_of deck)) ≤ length room

-- every card can be converted, and the new deck is so long
pub record Ready (deck notes : List ℕ) (need : ℕ) : Type 0 where
  pub sound : Sound deck
  pub are : notes ≡ map note_of (held_by deck)
  pub ends : end_said (behind (count_of deck)) (held_by deck) ≡ says need
