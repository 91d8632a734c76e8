-- A panel's text tells the panel: all its data can be read off the bytes ("Texts, byte for byte"). Assumes nothing.
use Rattle.std.specs.Prelude.{ℕ, ◌≡◌, Bool, true, false, List, [], ◌∷◌}
use Rattle.std.proofs.Math.Option.{none, some}
use Rattle.card.specs.Card.{Mode, nondeterministic, probabilistic, Card}
use Rattle.card.specs.Valid.{Every}
use Rattle.meaning.specs.Seats.{Seating}
use Rattle.meaning.specs.Panel.{Move, Stay, Block, Panel, panel}
use Rattle.panel_wording.specs.PanelText.{told, panel_text, panel_of}

-- a block for each choice, or one block without
abbrev pub Chosen : Block → Type 0
Chosen b = (q : ℕ) × (b.choice ≡ some q)

abbrev pub Blocks : Mode → List Block → Type 0
Blocks nondeterministic l = Every Chosen l
Blocks probabilistic l = (b : Block) × (l ≡ b ∷ []) × (b.choice ≡ none)

-- where no shared number is told of, it is 0 and stays so (document 02, 2026-10)
abbrev pub Quiet : Bool → ℕ → Type 0
Quiet false h = h ≡ 0
Quiet true h = Unit {0}

pub record QuietBlock (t : Bool) (b : Block) : Type 0 where
  pub stays : Every (λ (s : Stay). Quiet t s.shared) b.stays
  pub moves : Every (λ (m : Move). Quiet t m.shared) b.moves

pub record Shaped (p : Panel) : Type 0 where
  pub blocks : Blocks p.mode p.blocks
  pub quiet : Every (QuietBlock (told p.shared)) p.blocks

pub record Telling : Type 0 where
  -- of every card and every seating
  pub shaped : (c : Card) (x : Seating) → Shaped (panel c x)
  pub tells : (p q : Panel) → Shaped p → Shaped q → panel_text p ≡ panel_text q → p ≡ q
  -- so: mode, seats, enabled, counts, the shared number and blocks
  pub same_data : (c d : Card) (x y : Seating) → panel_of c x ≡ panel_of d y → panel c x ≡ panel d y
