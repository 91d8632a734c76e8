-- What the code hands back for what a question's bytes say ("2026-01"). Assumes nothing.
use Rattle.std.specs.Prelude.{ℕ, ◌≡◌, List, Result, Ok}
use Rattle.card.specs.Formulas.{over}
use Rattle.card.specs.Laid.{below, cells}
use Rattle.card.specs.Stored.{stored}
use Rattle.entry.specs.Said.{Said, says, refused}
use Rattle.card.specs.Verdict.{Refused}
use Rattle.card.specs.declared.Refusal.{Refusal}
use Rattle.asking.specs.Meant.{Question, leaf_for}
use Rattle.asking.specs.Asking.{in_question}

-- the place of the root, or a card's number for what is wrong, without the twenty that a question's refusals have more, and its place
abbrev pub Understood : Type 0
Understood = Result ℕ Refusal

-- it is understood: in the array `was`, which is now `is`, its nodes are stored from the first place on
pub record Understands (q : Question) (was is : List ℕ) (r : Understood) : Type 0 where
  pub root : r ≡ Ok (below (over leaf_for q))
  pub nodes : is ≡ stored was 0 (cells (over leaf_for q) 0)

-- it is refused, and the array holds anything
pub record Refuses (m p : ℕ) (r : Understood) : Type 0 where
  pub number : ℕ
  pub refusal : r ≡ Refused number p
  pub told : m ≡ in_question number
  pub some : number ≡ 0 → ⊥

abbrev pub QuestionRead : Said Question → List ℕ → List ℕ → Understood → Type 0
QuestionRead (says q) was is r = Understands q was is r
QuestionRead (refused m p) was is r = Refuses m p r
