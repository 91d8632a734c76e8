-- The panel's text ("Texts, byte for byte"; document 02, 2026-10): a line for each thing that the panel by seats shows. Assumes nothing.
use Rattle.std.specs.Prelude.{ℕ, Bool, true, false, List, [], ◌∷◌}
use Prim.Native.String.{String}
use Rattle.std.proofs.Math.Option.{Option, none, some}
use Rattle.card.specs.Card.{Card}
use Rattle.phrases.specs.Phrases.{◌▸◌, num, mode_word}
use Rattle.meaning.specs.Seats.{Seating}
use Rattle.meaning.specs.Panel.{Move, Stay, Block, Panel, panel}

-- numbers, each behind a blank
abbrev pub numbers : List ℕ → List ℕ → List ℕ
numbers [] r = r
numbers (v ∷ l) r = " " ▸ num v (numbers l r)

-- a word and its numbers
abbrev pub line : String → List ℕ → List ℕ → List ℕ
line word l r = word ▸ numbers l ("\n" ▸ r)

-- does the panel tell of a shared number (document 02, 2026-10)?
abbrev pub told : Option ℕ → Bool
told none = false
told (some g) = true

-- then a line of weights ends in what the shared number becomes
abbrev pub ending : Bool → ℕ → List ℕ
ending false h = []
ending true h = h ∷ []

-- old state, new state, weight
abbrev pub moves_text : Bool → List Move → List ℕ → List ℕ
moves_text t [] r = r
moves_text t (m ∷ l) r = line "move" (m.old ∷ m.new ∷ m.weight ∷ ending t m.shared) (moves_text t l r)

-- weights of no change
abbrev pub stays_text : Bool → List Stay → List ℕ → List ℕ
stays_text t [] r = r
stays_text t (s ∷ l) r = line "stay" (s.weight ∷ ending t s.shared) (stays_text t l r)

-- only on a nondeterministic card: the statement's place
abbrev pub choice_text : Option ℕ → List ℕ → List ℕ
choice_text none r = r
choice_text (some q) r = line "choice" (q ∷ []) r

unfoldable pub block_text : Bool → Block → List ℕ → List ℕ
block_text t b r = choice_text b.choice (stays_text t b.stays (moves_text t b.moves r))

abbrev pub blocks_text : Bool → List Block → List ℕ → List ℕ
blocks_text t [] r = r
blocks_text t (b ∷ l) r = block_text t b (blocks_text t l r)

-- only on a card with a shared number: what it is
abbrev pub shared_text : Option ℕ → List ℕ → List ℕ
shared_text none r = r
shared_text (some g) r = line "shared" (g ∷ []) r

unfoldable pub panel_text : Panel → List ℕ
unfolding block_text
panel_text p =
    mode_word p.mode ▸ "\nseats " ▸ num p.seats (line " enabled" (p.enabled ∷ []) (line "counts" p.counts
    (shared_text p.shared (blocks_text (told p.shared) p.blocks []))))

unfoldable pub panel_of : Card → Seating → List ℕ
unfolding panel_text
panel_of c x = panel_text (panel c x)
