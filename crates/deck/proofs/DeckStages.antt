-- A deck as a stage of an entry: 11 is its only number, and it passes exactly where the deck is sound. Assumes nothing.
use Prim.Native.Nat.{ℕ}
use mathlib.Core.Path.{◌≡◌, refl, sym}
use mathlib.Core.Bool.{true}
use mathlib.Core.List.{List, map}
use Rattle.card.specs.Refusals.{malformed_deck}
use Rattle.entry.specs.Said.{Said, says, refused, ◌>>=◌, ◌>>◌}
use Rattle.entry.specs.Numbers.{only, among, Among}
use Rattle.entry.specs.Stage.{Stage}
use Rattle.entry.proofs.Stages.{says≢refused, same_number, passes_return}
use Rattle.deck.specs.Contents.{Row, contents_of, judged, rows_in}
use Rattle.deck.specs.Deck.{entry_of, held_by, deck_of}
use Rattle.deck.specs.Sound.{Sound}
use Rattle.deck.proofs.Judged.{sound, said, sound_judged, judged_sound}
use Rattle.deck.proofs.FirstWrong.{judged_refused}

module _ (deck : List ℕ) where
  judged_numbers : Among (only malformed_deck) (judged deck)
  judged_numbers = record { number = λ r p e. rw (judged_refused deck r p e).0 }

  pub judged_stage : Stage (judged deck) (only malformed_deck) (Sound deck) (λ _. tt)
  judged_stage = record { numbers = judged_numbers; found = record { each = judged_sound deck; only = λ a e. (sound_judged deck e, refl) } }

  rows_numbers : Among (only malformed_deck) (rows_in deck)
  rows_numbers = record { number = λ r p e. go (judged deck) refl r p e }
    where
      go : (x : Said (Unit {0})) → judged deck ≡ x → (r p : ℕ) → x >> says (contents_of deck) ≡ refused r p → among (only malformed_deck) r ≡ true
      go (says u) k r p e = says≢refused e
      go (refused s q) k r p e = let h : s ≡ malformed_deck = (judged_refused deck s q k).0 in rw (sym (same_number e), h)

  pub rows_stage : Stage (rows_in deck) (only malformed_deck) (Sound deck) (λ _. contents_of deck)
  rows_stage = record { numbers = rows_numbers; found = record { each = said deck; only = λ rows e. sound deck rows e } }

  -- the deck's entries
  pub deck_stage : Stage (deck_of deck) (only malformed_deck) (Sound deck) (λ _. held_by deck)
  deck_stage = record { numbers = numbers; found = passes_return (rows_in deck) (λ (rows : List Row). map (entry_of deck) rows) rows_stage.found }
    where
      go : (x : Said (List Row)) → rows_in deck ≡ x → (r p : ℕ) → x >>= (λ (rows : List Row). says (map (entry_of deck) rows)) ≡ refused r p
          → among (only malformed_deck) r ≡ true
      go (says rows) k r p e = says≢refused e
      go (refused s q) k r p e = rw (sym (same_number e)) (rows_numbers.number s q k)

      numbers : Among (only malformed_deck) (deck_of deck)
      numbers = record { number = λ r p e. go (rows_in deck) refl r p e }
