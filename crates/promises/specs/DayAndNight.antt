-- Document 02, 2026-10: a card with a number that its seats share. What such a number is, who sees it, and the edges as whole inputs and answers; what
-- the entries make of it stands where each of them is promised (Demands, Questions, FirstMoves, Nights). Assumes nothing.
use Rattle.std.specs.Prelude.{ℕ, suc, ◌≤◌, ◌≡◌, true, ◌↔◌, List, [], ◌∷◌, ◌++◌}
use Rattle.std.proofs.Math.Option.{none, some}
use Rattle.card.specs.Card.{Leaf, shared_is, Relation, is, isnt, Branch, Statement, Shared, Card}
use Rattle.card.specs.Valid.{Every}
use Rattle.card.specs.Formulas.{EveryAtom}
use Rattle.reading.specs.Reading.{taken, read_of}
use Rattle.meaning.specs.Position.{set_to}
use Rattle.meaning.specs.Seats.{Seating, ValidSeating, holds}
use Rattle.meaning.specs.Reduced.{reduce}
use Rattle.meaning.specs.Panel.{panel}
use Rattle.seating.specs.Judged.{seats_due, bytes_of}
use Rattle.asking.specs.Meant.{shared_at, holds_atom}
use Rattle.watch_said.specs.WatchSaid.{watch_said}
use Rattle.night_edges.specs.NightEdges.{ReadingEdges, TextEdges, PanelEdges, OtherEdges}

-- ---- what nothing on a card without the declaration says

abbrev pub NoTest : Leaf → Type 0
NoTest a = (q : Relation) (v : ℕ) → a ≡ shared_is q v → ⊥

pub record Unshared (s : Statement) : Type 0 where
  pub tests : (g : Rattle.card.specs.Card.Guard) → s.guard ≡ some g → EveryAtom NoTest g
  pub sets : Every (λ (b : Branch). b.sets ≡ none) s.branches

pub record DayAndNight : Type 0 where
  -- the declaration: 0 to m with m 7 at the most, and a start that is m at the most
  pub declared : (b : List ℕ) (c : Card) (s : Shared) → read_of b ≡ taken c → c.shared ≡ some s → (s.most ≤ 7) × (s.start ≤ s.most)
  -- without it nothing tests or sets the number
  pub undeclared : (b : List ℕ) (c : Card) → read_of b ≡ taken c → c.shared ≡ none → Every Unshared c.statements
  -- the reduced program declares it as the card does
  pub reduced : (c : Card) → (reduce c).shared ≡ c.shared
  -- a test holds exactly where the number is, or is not, what it names; so on cards and in questions
  pub tested : (x : Seating) (i v : ℕ) → ((holds x i (shared_is is v) ≡ true) ↔ (x.shared ≡ v)) × ((holds x i (shared_is isnt v) ≡ true) ↔ (x.shared ≡ v → ⊥))
  pub asked : (x : Seating) (v : ℕ) → ((holds_atom x (shared_at is v) ≡ true) ↔ (x.shared ≡ v)) × ((holds_atom x (shared_at isnt v) ≡ true) ↔ (x.shared ≡ v → ⊥))
  -- a branch that does not set it leaves it as it is
  pub left : (g : ℕ) → set_to g none ≡ g
  pub made : (g v : ℕ) → set_to g (some v) ≡ v
  -- its byte stands behind the seats
  pub seats : (c : Card) (x : Seating) → c.shared ≡ none → (seats_due c ≡ c.n) × (bytes_of c x ≡ x.each)
  pub seats_and_one : (c : Card) (s : Shared) (x : Seating) → c.shared ≡ some s → (seats_due c ≡ suc c.n) × (bytes_of c x ≡ x.each ++ x.shared ∷ [])
  -- the panel shows it where there is one
  pub shown : (c : Card) (s : Shared) (x : Seating) → c.shared ≡ some s → (panel c x).shared ≡ some x.shared
  pub not_shown : (c : Card) (x : Seating) → c.shared ≡ none → (panel c x).shared ≡ none
  -- a spectator does not: the same seats show the same line, whatever it is
  pub unseen : (card list : List ℕ) (c : Card) → read_of card ≡ taken c → (x y : Seating) → ValidSeating c x → ValidSeating c y → x.each ≡ y.each
      → watch_said card (bytes_of c x) list ≡ watch_said card (bytes_of c y) list
  pub reading_edges : ReadingEdges
  pub text_edges : TextEdges
  pub panel_edges : PanelEdges
  pub other_edges : OtherEdges
