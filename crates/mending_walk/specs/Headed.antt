-- A deck's count, exactly where its head is right. Assumes nothing.
use Rattle.std.specs.Prelude.{ℕ, ◌≡◌, List, Option, MatchOption}
use Rattle.deck.specs.Contents.{count_of}
use Rattle.deck.specs.Sound.{Head}

abbrev pub Headed : (deck : List ℕ) → Option ℕ → Type 0
Headed deck r = MatchOption r (Head deck → ⊥) (λ count. Head deck × (count ≡ count_of deck))
