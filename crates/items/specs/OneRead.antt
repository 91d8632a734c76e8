-- What the code hands back for what reading an exactly-one finds ("2026-01"), from behind its outer bracket on. It is read from a part
-- of the question that begins at place o of it; the places in the answer are the part's own. Assumes nothing.
use Rattle.std.specs.Prelude.{ℕ, ◌+◌, ◌≤◌, ◌≡◌, List, ◌∷◌, length, Result as Answer}
use Rattle.card.specs.Card.{one}
use Rattle.card.specs.Laid.{one_kind, leaf_number}
use Rattle.marks_on_a_card.specs.Marks.{place_of}
use Rattle.marks.specs.Step.{marks_at}
use Rattle.reading.specs.Reader.{Place, State, Result}
use Rattle.reading.specs.Group.{Literal}
use Rattle.group.specs.declared.Grouped.{Grouped}
use Rattle.group.specs.Found.{Found}
use Rattle.asking.specs.Question.{Item, exactly_one}
use Rattle.term_literals.specs.Wanted.{want_of_terms}

-- with n nodes left, and the outer bracket at p
pub record ReadOne (o : ℕ) (s : List ℕ) (n : ℕ) (p : Place) (x : Item) (behind : State) (r : Grouped) : Type 0 where
  pub rest : marks_at o s r.next ≡ behind.marks
  pub left : behind.nodes ≡ n
  -- its terms: the first literal, the others of the first term, the other terms
  pub head : Literal
  pub more : List Literal
  pub later : List (List Literal)
  pub item : x ≡ exactly_one p ((head ∷ more) ∷ later)
  pub want : r.want ≡ want_of_terms ((head ∷ more) ∷ later)
  pub kind : r.kind ≡ one_kind
  pub node : r.node ≡ leaf_number (one head.d)
  -- its first d, and where that stands
  pub d : r.d ≡ head.d
  pub first : place_of (o + length s) head.place ≡ o + r.first
  pub past : r.next ≡ 0 → ⊥
  pub next_within : r.next ≤ length s
  pub first_within : r.first ≤ length s

abbrev pub OneRead : ℕ → List ℕ → ℕ → Place → Result Item → Answer Grouped ℕ → Type 0
OneRead o s n p = Found (ReadOne o s n p) o s
