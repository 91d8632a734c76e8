-- One statement in either of the two texts, as the code hands it over: a first test, and what all copies have behind it. Assumes nothing.
use Rattle.std.specs.Prelude.{ℕ, ◌≤◌, ◌<◌, ◌≡◌, List, [], ◌++◌, length}
use Rattle.card.specs.Limits.{most_statements, most_nodes, most_branches, branch_places}
use Rattle.card.specs.Card.{Statement}
use Rattle.card.specs.declared.Statement.{Statement as StatementRow}
use Rattle.meaning.specs.Reduced.{more_than, counter}
use Rattle.phrases.specs.Phrases.{Text, ◌▸◌, num}
use Rattle.texts.specs.Shared.{tail_text}
use Rattle.texts.specs.Lengths.{tail_places}
use Rattle.texts.specs.ReducedText.{counter_text}
use Rattle.leaf_text.specs.Style.{Look, by_form, brackets_of, leaf_text}
use Rattle.branch_text.specs.Branches.{branch_text}

abbrev pub first_text : Look → ℕ → Text
first_text s m r = by_form ("[] s1=" ▸ num s.own r) ("[] " ▸ counter_text (counter s.own (more_than m)) r) s.form

abbrev pub rest_text : Look → Statement → Text
rest_text s x r = tail_text (brackets_of s) (leaf_text s) (branch_text s) x.guard x.branches r

-- copy m; and with what stands behind its first test given
abbrev pub copy_text : Look → Statement → ℕ → Text
copy_text s x m r = first_text s m (rest_text s x r)

abbrev pub kept_copy : Look → List ℕ → ℕ → Text
kept_copy s rest m r = first_text s m (rest ++ r)

-- ---- what the code asks for

-- a statement's nodes and branches have their places in the card's arrays
pub record Fits (branches : List ℕ) (x : StatementRow) (i : ℕ) : Type 0 where
  pub early : i < most_statements
  pub nodes : x.nodes ≤ most_nodes
  pub few : x.branches ≤ most_branches
  pub long : length branches ≡ branch_places

-- where there are several copies, what stands behind the first test is kept beside the room
abbrev pub KeepsTail : (copies : ℕ) → Look → Statement → Type 0
KeepsTail copies s x = (copies ≡ 1 → ⊥) → length (rest_text s x []) ≤ tail_places
