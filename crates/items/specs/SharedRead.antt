-- What the code hands back for what reading a test of the shared number finds (document 02, 2026-10), from behind its bracket on. It is read from
-- a part of the card that begins at place o of it; the places in the answer are the part's own. Assumes nothing.
use Rattle.std.specs.Prelude.{ℕ, ◌+◌, ◌≤◌, ◌≡◌, List, length, Result as Answer}
use Rattle.card.specs.Card.{shared_is}
use Rattle.card.specs.Laid.{shared_kind, leaf_number}
use Rattle.marks_on_a_card.specs.Marks.{place_of}
use Rattle.marks.specs.Step.{marks_at}
use Rattle.reading.specs.Reader.{State, Result}
use Rattle.reading.specs.Group.{SharedTest}
use Rattle.group.specs.declared.Grouped.{Grouped}
use Rattle.group.specs.Found.{Found}

-- with n nodes left
pub record ReadTest (o : ℕ) (s : List ℕ) (n : ℕ) (x : SharedTest) (behind : State) (r : Grouped) : Type 0 where
  pub rest : marks_at o s r.next ≡ behind.marks
  pub left : behind.nodes ≡ n
  pub kind : r.kind ≡ shared_kind
  pub node : r.node ≡ leaf_number (shared_is x.relation x.value.value)
  -- what the number is compared with, and where that stands
  pub d : r.d ≡ x.value.value
  pub first : place_of (o + length s) x.value.place ≡ o + r.first
  pub past : r.next ≡ 0 → ⊥
  pub next_within : r.next ≤ length s
  pub first_within : r.first ≤ length s

abbrev pub TestRead : ℕ → List ℕ → ℕ → Result SharedTest → Answer Grouped ℕ → Type 0
TestRead o s n = Found (ReadTest o s n) o s
