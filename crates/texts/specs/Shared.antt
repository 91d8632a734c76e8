-- What the written card and the reduced program have in common, over the texts of a guard's leaves and of a branch: how a formula is
-- joined and bracketed, and how a statement goes on behind its first test ("Texts, byte for byte"); and the number that all seats share
-- (document 02, 2026-10). Assumes nothing.
use Rattle.std.specs.Prelude.{ℕ, Bool, true, false, List, [], ◌∷◌}
use Rattle.std.proofs.Math.Option.{Option, none, some}
use Rattle.card.specs.Card.{Relation, is, isnt, Formula, atom, neg, and, or, Shared}
use Rattle.card.specs.Valid.{Level, loose, middle, tight, needs_and, needs_or}
use Rattle.phrases.specs.Phrases.{Text, ◌▸◌, num}

-- ---- formulas

-- brackets round a joined node only where its level needs them; or always
pub data Brackets : Type 0 where
  needed always : Brackets

abbrev pub has_and : Brackets → Level → Bool
has_and needed v = needs_and v
has_and always v = true

abbrev pub has_or : Brackets → Level → Bool
has_or needed v = needs_or v
has_or always v = true

abbrev pub opening : Bool → Text
opening true r = "(" ▸ r
opening false r = r

abbrev pub closing : Bool → Text
closing true r = ")" ▸ r
closing false r = r

-- a blank on each side of a joining sign
unfoldable pub formula_text : {A : Type 0} → Brackets → (A → Text) → Level → Formula A → Text
formula_text k leaf v (atom a) r = leaf a r
formula_text k leaf v (neg g) r = "!" ▸ formula_text k leaf tight g r
formula_text k leaf v (and g h) r = opening (has_and k v) (formula_text k leaf middle g (" & " ▸ formula_text k leaf tight h (closing (has_and k v) r)))
formula_text k leaf v (or g h) r = opening (has_or k v) (formula_text k leaf loose g (" | " ▸ formula_text k leaf middle h (closing (has_or k v) r)))

-- a guard follows the first test
abbrev pub formula_or : {A : Type 0} → Brackets → (A → Text) → Option (Formula A) → Text
formula_or k leaf none r = r
formula_or k leaf (some g) r = " & " ▸ formula_text k leaf middle g r

-- ---- branches

-- all but the first, each after the sign
abbrev pub more : {B : Type 0} → (B → Text) → List B → Text
more branch [] r = r
more branch (b ∷ bs) r = " + " ▸ branch b (more branch bs r)

abbrev pub summed : {B : Type 0} → (B → Text) → List B → Text
summed branch [] r = r
summed branch (b ∷ bs) r = branch b (more branch bs r)

-- ---- a statement behind its first test

abbrev pub tail_text : {A B : Type 0} → Brackets → (A → Text) → (B → Text) → Option (Formula A) → List B → Text
tail_text k leaf branch g bs r = formula_or k leaf g (" -> " ▸ summed branch bs (";\n" ▸ r))

-- ---- the shared number

-- its declaration behind the mode, on a line of its own
abbrev pub declaration : Option Shared → Text
declaration none r = r
declaration (some s) r = "\nglobal g : [0.." ▸ num s.most ("] init " ▸ num s.start (";" ▸ r))

-- a test of it, as it stands on the card
abbrev pub shared_text : Relation → ℕ → Text
shared_text is v r = "(g=" ▸ num v (")" ▸ r)
shared_text isnt v r = "(g!=" ▸ num v (")" ▸ r)

-- what it is set to
abbrev pub set_text : ℕ → Text
set_text v r = "(g'=" ▸ num v (")" ▸ r)

-- the same, last in a branch that does something else too
abbrev pub set_last : Option ℕ → Text
set_last none r = r
set_last (some v) r = " & " ▸ set_text v r
