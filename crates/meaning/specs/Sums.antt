-- Lists that are made and summed. Assumes nothing.
use Rattle.std.specs.Prelude.{ℕ, zero, suc, ◌+◌, Bool, true, false, List, [], ◌∷◌, ◌++◌}
use Rattle.card.specs.Text.{when◌then◌else◌}

-- w where the test holds, and 0 where it does not
abbrev pub gate : Bool → ℕ → ℕ
gate true w = w
gate false w = 0

-- one at least
abbrev pub or_one : ℕ → ℕ
or_one zero = 1
or_one (suc m) = suc m

-- f summed over a list
abbrev pub sum : {A : Type 0} → (A → ℕ) → List A → ℕ
sum f [] = 0
sum f (a ∷ l) = f a + sum f l

-- f 0, …, f (n - 1)
abbrev pub upto : {A : Type 0} → ℕ → (ℕ → A) → List A
upto zero f = []
upto (suc n) f = f zero ∷ upto n (λ i. f (suc i))

-- those of a list that pass a test, in its order
abbrev pub those : {A : Type 0} → (A → Bool) → List A → List A
those p [] = []
those p (a ∷ l) = (when p a then a ∷ [] else []) ++ those p l

-- lists, one after the other
abbrev pub flat : {A : Type 0} → List (List A) → List A
flat [] = []
flat (l ∷ m) = l ++ flat m
