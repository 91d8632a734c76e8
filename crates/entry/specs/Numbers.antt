-- Which refusal numbers a stage may give, as spans of numbers; whether two stages' numbers are apart is computed. Assumes nothing.
use Rattle.std.specs.Prelude.{ℕ, ◌≡◌, Bool, true, false, ◌&&◌, List, [], ◌∷◌, leb, ltb}
use Rattle.card.specs.Text.{when◌then◌else◌}
use Rattle.entry.specs.Said.{Said, refused}

pub record Span : Type 0 where
  pub from : ℕ
  pub to : ℕ

infix 30 ◌to◌
abbrev pub ◌to◌ : ℕ → ℕ → Span
a to b = record { from = a; to = b }

abbrev pub Numbers : Type 0
Numbers = List Span

-- one number
abbrev pub only : ℕ → Numbers
only r = (r to r) ∷ []

abbrev pub inside : Span → ℕ → Bool
inside s r = leb s.from r && leb r s.to

abbrev pub among : Numbers → ℕ → Bool
among [] r = false
among (s ∷ ns) r = when inside s r then true else among ns r

-- no number is in both
abbrev pub past : Span → Span → Bool
past s t = when ltb s.to t.from then true else ltb t.to s.from

abbrev pub clear : Span → Numbers → Bool
clear s [] = true
clear s (t ∷ ns) = past s t && clear s ns

abbrev pub apart : Numbers → Numbers → Bool
apart [] ms = true
apart (s ∷ ns) ms = clear s ms && apart ns ms

-- none is above m
abbrev pub up_to : Numbers → ℕ → Bool
up_to [] m = true
up_to (s ∷ ns) m = leb s.to m && up_to ns m

-- each refusal has one of these numbers
pub record Among {A : Type 0} (ns : Numbers) (x : Said A) : Type 0 where
  pub number : (r p : ℕ) → x ≡ refused r p → among ns r ≡ true
