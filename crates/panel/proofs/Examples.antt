-- Card A's panels, whole, from the meaning by seats ("Texts, byte for byte", "Both sides of the edge"; document 02, 2026-03). Assumes nothing.
use mathlib.Core.Path.{◌≡◌, refl}
use mathlib.Core.List.{[], ◌∷◌}
use Rattle.card.specs.Text.{bytes}
use Rattle.card.specs.Card.{nondeterministic, probabilistic}
use Rattle.room.specs.Digits.{decimal}
use Rattle.meaning.specs.Position.{position}
use Rattle.meaning.specs.Panel.{panel}
use Rattle.meaning.specs.CardA.{card_a}
use Rattle.panel_wording.specs.PanelText.{panel_of}

pub record CardA : Type 0 where
  pub at_001 : panel_of (card_a probabilistic) (position (0 ∷ 0 ∷ 1 ∷ []) 0)
      ≡ bytes "probabilistic\nseats 3 enabled 3\ncounts 2 1 0\nstay 207900\nmove 0 1 277200\nmove 0 2 277200\nmove 1 2 69300\n"
  pub at_100 : panel_of (card_a probabilistic) (position (1 ∷ 0 ∷ 0 ∷ []) 0)
      ≡ bytes "probabilistic\nseats 3 enabled 3\ncounts 2 1 0\nstay 207900\nmove 0 1 277200\nmove 0 2 277200\nmove 1 2 69300\n"
  pub at_012 : panel_of (card_a probabilistic) (position (0 ∷ 1 ∷ 2 ∷ []) 0) ≡ bytes "probabilistic\nseats 3 enabled 1\ncounts 1 1 1\nstay 277200\n"
  pub at_011 : panel_of (card_a probabilistic) (position (0 ∷ 1 ∷ 1 ∷ []) 0) ≡ bytes "probabilistic\nseats 3 enabled 2\ncounts 1 2 0\nstay 415800\nmove 1 2 138600\n"
  pub at_000 : panel_of (card_a probabilistic) (position (0 ∷ 0 ∷ 0 ∷ []) 0) ≡ bytes "probabilistic\nseats 3 enabled 3\ncounts 3 0 0\nmove 0 1 415800\nmove 0 2 415800\n"
  pub choices : panel_of (card_a nondeterministic) (position (0 ∷ 0 ∷ 1 ∷ []) 0)
      ≡ bytes "nondeterministic\nseats 3 enabled 2\ncounts 2 1 0\nchoice 1\nmove 0 1 138600\nmove 0 2 138600\nchoice 2\nstay 207900\nmove 1 2 69300\n"
  pub no_choice : panel_of (card_a nondeterministic) (position (0 ∷ 1 ∷ 2 ∷ []) 0) ≡ bytes "nondeterministic\nseats 3 enabled 1\ncounts 1 1 1\nchoice 0\nstay 277200\n"

pub card_a_law : CardA
unfolding panel_of panel card_a decimal
card_a_law = record { at_001 = refl; at_100 = refl; at_012 = refl; at_011 = refl; at_000 = refl; choices = refl; no_choice = refl }
