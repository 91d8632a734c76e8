-- What an entry has to say: something, or a refusal with its number and place. A `do` block is an entry's stages in the order in which
-- they are judged; the first refusal is the entry's ("Refusal numbers"). Assumes nothing.
use Rattle.std.specs.Prelude.{ℕ, ◌+◌, Bool}
use Rattle.card.specs.Text.{when◌then◌else◌}

pub data Said (A : Type 0) : Type 0 where
  says : A → Said A
  refused : ℕ → ℕ → Said A

module _ {A B : Type 0} where
  infixl 10 ◌>>=◌ ◌>>◌
  abbrev pub ◌>>=◌ : Said A → (A → Said B) → Said B
  says a >>= f = f a
  refused number place >>= f = refused number place

  abbrev pub ◌>>◌ : Said A → Said B → Said B
  x >> y = x >>= (λ (a : A). y)

abbrev pub return : {A : Type 0} → A → Said A
return a = says a

-- a stage that only judges
abbrev pub unless : Bool → ℕ → ℕ → Said (Unit {0})
unless fine number place = when fine then says tt else refused number place

module _ {A B : Type 0} where
  -- something else is said of it
  abbrev pub saying : (A → B) → Said A → Said B
  saying f (says a) = says (f a)
  saying f (refused number place) = refused number place

-- places count from another byte, as an expansion's from 65,536
abbrev pub placed_from : {A : Type 0} → ℕ → Said A → Said A
placed_from k (says a) = says a
placed_from k (refused number place) = refused number (place + k)

-- in the document's numbers: 0 if nothing is refused
module _ {A : Type 0} where
  abbrev pub said_number : Said A → ℕ
  said_number (says a) = 0
  said_number (refused number place) = number

  -- what stands beside it: the value as a number, or the refusal's place
  abbrev pub beside_of : (A → ℕ) → Said A → ℕ
  beside_of f (says a) = f a
  beside_of f (refused number place) = place
