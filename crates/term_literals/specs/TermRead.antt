-- What the code hands back for what reading a term of an exactly-one finds ("2026-01"); the places in the answer are the part's own,
-- which begins at place o of the question. Assumes nothing.
use Rattle.std.specs.Prelude.{ℕ, ◌+◌, ◌≤◌, ◌<◌, ◌≡◌, List, [], ◌∷◌, length, Result as Answer}
use Rattle.card.specs.Limits.{numbers}
use Rattle.card.specs.Card.{all}
use Rattle.marks_on_a_card.specs.Marks.{place_of}
use Rattle.marks.specs.Step.{marks_at}
use Rattle.reading.specs.Reader.{State, at, Result, Reader, bind, return}
use Rattle.reading.specs.Group.{Literal, joint, literal, others}
use Rattle.asking.specs.Question.{relations, both}
use Rattle.asking.specs.Asking.{each_due}
use Rattle.group.specs.Found.{Found}
use Rattle.term_literals.specs.declared.TermFound.{TermFound}
use Rattle.term_literals.specs.Wanted.{seats_of}

-- a term from behind its bracket on
abbrev pub literals_of : Reader (List Literal)
literals_of = λ s. bind (literal s) (λ l b. bind (others (joint all) (length b.marks) b) (λ ls. return (l ∷ ls)))

-- the i-th term was read from place `from` on, with n nodes left: the literal l and others
pub record ReadTerm (o : ℕ) (s : List ℕ) (from n i : ℕ) (l : Literal) (ls : List Literal) (behind : State) (r : TermFound) : Type 0 where
  pub rest : behind ≡ at (marks_at o s r.next) n
  pub seats : r.seats ≡ seats_of (l ∷ ls)
  pub due : r.due ≡ each_due l.d i (l ∷ ls)
  pub mixed : r.mixed ≡ both (relations (l ∷ ls))
  -- its first d, and where that stands
  pub d : r.d ≡ l.d
  pub small : r.d < numbers
  pub first : place_of (o + length s) l.place ≡ o + r.first
  pub first_within : r.first ≤ length s
  pub fewer : length (marks_at o s r.next) < length (marks_at o s from)

-- a term has a literal
abbrev pub TermOf : ℕ → List ℕ → ℕ → ℕ → ℕ → List Literal → State → TermFound → Type 0
TermOf o s from n i [] behind r = ⊥
TermOf o s from n i (l ∷ ls) behind r = ReadTerm o s from n i l ls behind r

abbrev pub TermRead : ℕ → List ℕ → ℕ → ℕ → ℕ → Result (List Literal) → Answer TermFound ℕ → Type 0
TermRead o s from n i = Found (TermOf o s from n i) o s
