-- What the code keeps of a group's literals while it reads them ("Shape of a card"). Assumes nothing.
use Rattle.std.specs.Prelude.{ℕ, ◌+◌, ◌≤◌, ◌<◌, ◌≡◌, Bool, true, false, List, eqb, length, Option, Some, None, Result as Answer}
use Rattle.card.specs.Limits.{numbers}
use Rattle.card.specs.Text.{when◌then◌else◌}
use Rattle.card.specs.Card.{Sign, all, any, is, isnt}
use Rattle.card.specs.Laid.{relation_number}
use Rattle.marks_on_a_card.specs.Marks.{place_of}
use Rattle.marks_on_a_card.specs.Kinds.{kind}
use Rattle.marks.specs.Step.{marks_at}
use Rattle.reading.specs.Reader.{State, at, Result}
use Rattle.reading.specs.Group.{Literal}
use Rattle.literals_due.specs.declared.Tail.{Tail}
use Rattle.group.specs.Found.{Found}

-- ---- one literal

-- a relation's number by the kind of its sign, where that is one
abbrev pub relation_by : ℕ → Option ℕ
relation_by v = when eqb v (kind "=") then Some (relation_number is) else (when eqb v (kind "!=") then Some (relation_number isnt) else None)

-- from behind its seat word on, whose number is i

pub record ReadLiteral (o : ℕ) (s : List ℕ) (from n i : ℕ) (l : Literal) (behind : State) (r : Tail) : Type 0 where
  pub rest : behind ≡ at (marks_at o s r.next) n
  pub seat : l.seat ≡ i
  pub relation : r.relation ≡ relation_number l.relation
  pub d : r.d ≡ l.d
  pub small : r.d < numbers
  pub first : place_of (o + length s) l.place ≡ o + r.first
  pub first_within : r.first ≤ length s
  pub fewer : length (marks_at o s r.next) < length (marks_at o s from)

abbrev pub LiteralRead : ℕ → List ℕ → ℕ → ℕ → ℕ → Result Literal → Answer Tail ℕ → Type 0
LiteralRead o s from n i = Found (ReadLiteral o s from n i) o s

-- ---- the sign that joins them

abbrev pub sign_in : Bool → Sign
sign_in false = all
sign_in true = any
