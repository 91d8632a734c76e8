-- What the code hands back for an item: read from the part of the card behind its bracket, which begins at place o of the card. The
-- places in the answer are the part's own. Assumes nothing.
use Rattle.std.specs.Prelude.{ℕ, ◌+◌, ◌≡◌, Bool, true, false, List, leb, length, Option, Some, None, Result as Answer}
use Rattle.card.specs.Refusals.{above_top}
use Rattle.card.specs.Laid.{op_and, op_or, leaf_number}
use Rattle.marks_on_a_card.specs.Marks.{place_of}
use Rattle.marks.specs.Step.{marks_at}
use Rattle.reading.specs.Reader.{Place, State, at as from, Result}
use Rattle.reading.specs.Judgements.{unless}
use Rattle.group.specs.declared.Grouped.{Grouped}
use Rattle.late.specs.Late.{Late, blamed}
use Rattle.items.specs.KeptItems.{wanted_by, bound_by}
use Rattle.group.specs.Found.{Found}
use Rattle.group.specs.GroupRead.{InPart}
use Rattle.items.specs.Language.{Language}

-- with n nodes left, and the bracket at p
pub record ReadItem (L : Language) (o : ℕ) (s : List ℕ) (n : ℕ) (p : Place) (a : L.Item) (behind : State) (r : Grouped) : Type 0 where
  pub rest : marks_at o s r.next ≡ behind.marks
  pub left : behind.nodes ≡ n
  pub past : r.next ≡ 0 → ⊥
  pub node : r.node ≡ leaf_number (L.leaf a)
  -- the seats that it wants, and its first number
  pub judged : (k : ℕ) (x : Late)
      → L.judged k (o + length s) a x
      ≡ blamed (unless (leb r.d (bound_by L.most r.kind k)) above_top) (o + r.first) (wanted_by r.kind r.want (place_of (o + length s) p) x)

abbrev pub ItemRead : (L : Language) → ℕ → List ℕ → ℕ → Place → Result L.Item → Answer Grouped ℕ → Type 0
ItemRead L o s n p = Found (ReadItem L o s n p) o s

-- there is an answer where an item starts, and none elsewhere
abbrev pub ItemIf : (L : Language) → ℕ → List ℕ → ℕ → Place → Bool → Option (Answer Grouped ℕ) → Type 0
ItemIf L o s n p true (Some r) = ItemRead L o s n p (L.item p (from (marks_at o s 0) n)) r
ItemIf L o s n p true None = ⊥
ItemIf L o s n p false (Some r) = ⊥
ItemIf L o s n p false None = Unit {0}

abbrev pub InPartIf : List ℕ → Option (Answer Grouped ℕ) → Type 0
InPartIf s (Some r) = InPart s r
InPartIf s None = Unit {0}

pub record ItemAt (L : Language) (s : List ℕ) (r : Option (Answer Grouped ℕ)) : Type 0 where
  pub read : (o n : ℕ) (p : Place) → ItemIf L o s n p (L.starts (marks_at o s 0)) r
  pub inside : InPartIf s r

-- ---- the two signs that join parts of a guard: `&`, and `|` where a choice is meant

abbrev pub operator_of : Bool → ℕ
operator_of false = op_and
operator_of true = op_or
