-- Which marks a card has, and where ("Marks on a card"): blanks and comments separate, and the longest fits first. Assumes nothing.
use Rattle.std.specs.Prelude.{ℕ, ◌+◌, ◌≤◌, ◌<◌, ◌≡◌, true, List, [], ◌∷◌, ◌++◌, length, drop}
use Rattle.card.specs.Text.{bytes}
use Rattle.marks_on_a_card.specs.Bytes.{is_blank, not_lf, every}
use Rattle.marks_on_a_card.specs.Marks.{Mark, text, seat, process, number, decimal, outside, Placed, placed}
use Rattle.spelling.specs.Spells.{Spells}

-- a comment is over before these bytes: LF follows, or nothing
abbrev pub LineOver : List ℕ → Type 0
LineOver [] = Unit {0}
LineOver (b ∷ s) = b ≡ 10

-- the bytes g, where r follows, are blanks and comments
pub data Between : List ℕ → List ℕ → Type 0 where
  nothing : {r : List ℕ} → Between [] r
  blank : {b : ℕ} {g r : List ℕ} → is_blank b ≡ true → Between g r → Between (b ∷ g) r
  comment : (c : List ℕ) {g r : List ℕ} → every not_lf c ≡ true → LineOver (g ++ r) → Between g r → Between (bytes "//" ++ (c ++ g)) r

-- no longer beginning of the bytes s than w spells a mark
abbrev pub Longest : List ℕ → List ℕ → Type 0
Longest w s = (p q : List ℕ) (m : Mark) → s ≡ p ++ q → Spells p m → length p ≤ length w

-- the bytes w, where r follows, are the mark m
pub record Stands (w r : List ℕ) (m : Mark) : Type 0 where
  pub spells : Spells w m
  pub longest : Longest w (w ++ r)
  pub no_comment : (t : List ℕ) → w ++ r ≡ bytes "//" ++ t → ⊥

-- the bytes of a mark, behind which reading goes on. A card is refused at its first mark outside the rules; what is read behind that
-- mark's first byte is of no account
abbrev pub taken : Mark → List ℕ → ℕ
taken (text s) w = length w
taken (seat i) w = length w
taken (process i) w = length w
taken (number v) w = length w
taken (decimal v n f) w = length w
taken outside w = 1

-- the bytes s, from place a of the card on, have these marks: blanks and comments g, then a mark w at the place behind them, and so on
pub data Marked : ℕ → List ℕ → List Placed → Type 0 where
  over : {a : ℕ} {g : List ℕ} → Between g [] → Marked a g []
  next : {a : ℕ} {s g w r : List ℕ} {m : Mark} {ms : List Placed}
      → s ≡ g ++ (w ++ r) → Between g (w ++ r) → Stands w r m
      → Marked (a + length g + taken m w) (drop (taken m w) (w ++ r)) ms
      → Marked a s (placed m (a + length g) ∷ ms)

-- the mark m stands at place p of the card s
pub record StandsAt (s : List ℕ) (p : ℕ) (m : Mark) : Type 0 where
  pub spelt : List ℕ
  pub rest : List ℕ
  pub on_card : p < length s
  pub from_there : drop p s ≡ spelt ++ rest
  pub stands : Stands spelt rest m
