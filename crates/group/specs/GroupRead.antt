-- What the code hands back for what reading a group finds ("Shape of a card"). A group is read from a part of the card that begins
-- at place o of it; the places in the answer are the part's own. Assumes nothing.
use Rattle.std.specs.Prelude.{ℕ, ◌+◌, ◌≤◌, ◌≡◌, List, [], ◌∷◌, length, Result as Answer, Ok, Err}
use Rattle.card.specs.Laid.{kind_number, leaf_number}
use Rattle.marks_on_a_card.specs.Marks.{place_of}
use Rattle.marks.specs.Step.{marks_at}
use Rattle.reading.specs.Reader.{Place, State, Result}
use Rattle.reading.specs.Group.{Literals}
use Rattle.reading.specs.Judgements.{state, first_state}
use Rattle.group.specs.declared.Grouped.{Grouped}
use Rattle.group.specs.Found.{Found}
use Rattle.late.specs.Late.{want_of, kind_by, group_by}

-- with n nodes left, and the bracket at p
pub record ReadGroup (o : ℕ) (s : List ℕ) (n : ℕ) (p : Place) (g : Literals) (behind : State) (r : Grouped) : Type 0 where
  pub rest : marks_at o s r.next ≡ behind.marks
  pub left : behind.nodes ≡ n
  pub bracket : g.place ≡ p
  pub want : r.want ≡ want_of g.literals
  pub kind : r.kind ≡ kind_number (kind_by g.literals)
  pub node : r.node ≡ leaf_number (group_by g.sign g.literals)
  -- its first d, and where that stands
  pub numeral : Place
  pub states : (k : ℕ) → first_state k g.literals ≡ state k r.d numeral ∷ []
  pub first : place_of (o + length s) numeral ≡ o + r.first
  pub past : r.next ≡ 0 → ⊥
  pub next_within : r.next ≤ length s
  pub first_within : r.first ≤ length s

abbrev pub GroupRead : ℕ → List ℕ → ℕ → Place → Result Literals → Answer Grouped ℕ → Type 0
GroupRead o s n p = Found (ReadGroup o s n p) o s

-- ---- the places in an answer lie in the part

pub record Inside (s : List ℕ) (r : Grouped) : Type 0 where
  pub next : r.next ≤ length s
  pub first : r.first ≤ length s

abbrev pub InPart : List ℕ → Answer Grouped ℕ → Type 0
InPart s (Ok r) = Inside s r
InPart s (Err r) = r ≤ length s
