-- How long what both texts have in common can be, by bounds for a leaf and for a branch: half of a guard's nodes are leaves at most, but
-- for one, and the bounds of all pieces are added up. Assumes nothing.
use Prim.Native.Nat.{ℕ, zero, suc, ◌+◌, ◌-◌, ◌*◌, ◌≤◌}
use mathlib.Core.Path.{◌≡◌, ap}
use mathlib.Core.Bool.{Bool, true, false}
use mathlib.Core.List.{List, [], ◌∷◌}
use mathlib.Core.Option.{Option, none, some}
use native.Mathlib.Nat.{add-mul, suc-mul, mul-le-mul_right, le_trans}
use native.Mathlib.Omega.{arith}
use lib.ListN.{length}
use Rattle.card.specs.Limits.{top_shared, most_shared, most_branches}
use Rattle.card.specs.Card.{Relation, is, isnt, Leaf, atom, neg, and, or, Guard, Branch, Shared}
use Rattle.card.specs.Valid.{Level, loose, middle, tight, size, Every, ValidLeaf, ValidLeaves, ValidGuard, ValidSet, ValidBranch, ValidShared}
use Rattle.phrases.specs.Phrases.{Text, counted}
use Rattle.phrases.proofs.Adds.{Adds, adds_then, adds_up, adds_none, adds_bytes, adds_state}
use Rattle.texts.specs.Shared.{Brackets, has_and, has_or, opening, closing, formula_text, formula_or, more, summed, tail_text, declaration, shared_text, set_text, set_last}
use Rattle.texts.specs.Lengths.{most_leaves, test_most, branches_most, tail_most, declaration_most, set_most}

pub adds_as : {a : ℕ} {f g : Text} → ((r : List ℕ) → g r ≡ f r) → Adds a f → Adds a g
adds_as e p = record { long = λ r. omega (arith, ap length (e r), p.long r) }

-- repetitions, of which each adds so many bytes at most
pub adds_counted : (f : ℕ → Text) (most i c : ℕ) → ((m : ℕ) → m ≤ i + c → Adds most (f m)) → Adds (c * most) (counted f i c)
unfolding counted
adds_counted f most i zero h = adds_up _ (omega arith) adds_none
adds_counted f most i (suc c) h =
    adds_up (suc c * most) (omega (arith, suc-mul c most)) (adds_then (h i (omega arith)) (adds_counted f most (suc i) c (λ m l. h m (omega arith))))

-- ---- the shared number, whose values have one digit

pub adds_declaration : (s : Option Shared) → ValidShared s → Adds declaration_most (declaration s)
adds_declaration none v = adds_up declaration_most (omega arith) adds_none
adds_declaration (some s) v =
    adds_then (adds_bytes "\nglobal g : [0..")
    (adds_then (adds_state s.most v.0) (adds_then (adds_bytes "] init ") (adds_then (adds_state s.start (le_trans v.1 v.0)) (adds_bytes ";"))))

pub adds_shared : (q : Relation) (v : ℕ) → v ≤ top_shared → Adds 6 (shared_text q v)
adds_shared is v h = adds_up 6 (omega arith) (adds_then (adds_bytes "(g=") (adds_then (adds_state v h) (adds_bytes ")")))
adds_shared isnt v h = adds_then (adds_bytes "(g!=") (adds_then (adds_state v h) (adds_bytes ")"))

pub adds_set : (v : ℕ) → v ≤ top_shared → Adds 6 (set_text v)
adds_set v h = adds_then (adds_bytes "(g'=") (adds_then (adds_state v h) (adds_bytes ")"))

pub adds_last : (values : ℕ) → values ≤ most_shared → (s : Option ℕ) → ValidSet values s → Adds set_most (set_last s)
adds_last values h none v = adds_up set_most (omega arith) adds_none
adds_last values h (some x) v = adds_then (adds_bytes " & ") (adds_set x (omega arith))

-- ---- formulas

adds_opening : (b : Bool) → Adds 1 (opening b)
adds_opening true = adds_bytes "("
adds_opening false = adds_up 1 (omega arith) adds_none

adds_closing : (b : Bool) → Adds 1 (closing b)
adds_closing true = adds_bytes ")"
adds_closing false = adds_up 1 (omega arith) adds_none

abbrev joined : Guard → ℕ
joined (atom a) = 0
joined (neg g) = joined g
joined (and g e) = suc (joined g + joined e)
joined (or g e) = suc (joined g + joined e)

-- a joined node has two parts, so that there is one leaf more than joined nodes
half_joined : (g : Guard) → joined g * 2 + 1 ≤ size g
half_joined (atom a) = omega arith
half_joined (neg g) = omega (arith, half_joined g)
half_joined (and g e) = omega (arith, half_joined g, half_joined e)
half_joined (or g e) = omega (arith, half_joined g, half_joined e)

-- a byte for each node, and beyond that: the first leaf, and for each joined node its sign and brackets and a further leaf
abbrev formula_most : ℕ → ℕ → ℕ → ℕ
formula_most further joints nodes = further + joints * (further + 4) + nodes

module _ (n k values : ℕ) (kind : Brackets) (leaf : Leaf → Text) (further : ℕ) (fits : (a : Leaf) → ValidLeaf n k values a → Adds (suc further) (leaf a)) where
  joining : (a b x y : ℕ) → formula_most further a x + (formula_most further b y + 5) ≤ formula_most further (suc (a + b)) (suc (x + y))
  joining a b x y = omega (arith, suc-mul (a + b) (further + 4), add-mul a b (further + 4))

  adds_formula : (v : Level) (g : Guard) → ValidLeaves n k values g → Adds (formula_most further (joined g) (size g)) (formula_text kind leaf v g)
  unfolding formula_text
  adds_formula v (atom a) w = adds_up (formula_most further 0 1) (omega arith) (fits a w)
  adds_formula v (neg g) w = adds_up (formula_most further (joined g) (suc (size g))) (omega arith) (adds_then (adds_bytes "!") (adds_formula tight g w))
  adds_formula v (and g e) w =
      adds_up (formula_most further (suc (joined g + joined e)) (suc (size g + size e))) (omega (arith, joining (joined g) (joined e) (size g) (size e)))
      (adds_then (adds_opening (has_and kind v))
      (adds_then (adds_formula middle g w.0) (adds_then (adds_bytes " & ") (adds_then (adds_formula tight e w.1) (adds_closing (has_and kind v))))))
  adds_formula v (or g e) w =
      adds_up (formula_most further (suc (joined g + joined e)) (suc (size g + size e))) (omega (arith, joining (joined g) (joined e) (size g) (size e)))
      (adds_then (adds_opening (has_or kind v))
      (adds_then (adds_formula loose g w.0) (adds_then (adds_bytes " | ") (adds_then (adds_formula middle e w.1) (adds_closing (has_or kind v))))))

  adds_test : (g : Option Guard) → ValidGuard n k values g → Adds (test_most further) (formula_or kind leaf g)
  adds_test none w = adds_up (test_most further) (omega arith) adds_none
  adds_test (some g) w =
      let joints : joined g ≤ most_leaves - 1 = omega (arith, half_joined g, w.2) in
      adds_up (test_most further) (omega (arith, w.2, mul-le-mul_right (further + 4) joints)) (adds_then (adds_bytes " & ") (adds_formula middle g w.0))

-- ---- branches, with the signs between them

module _ (k values : ℕ) (branch : Branch → Text) (most : ℕ) (fits : (b : Branch) → ValidBranch k values b → Adds most (branch b)) where
  adds_more : (bs : List Branch) → Every (ValidBranch k values) bs → Adds (length bs * (3 + most)) (more branch bs)
  adds_more [] v = adds_up _ (omega arith) adds_none
  adds_more (b ∷ bs) v =
      adds_up (length (b ∷ bs) * (3 + most)) (omega (arith, suc-mul (length bs) (3 + most)))
      (adds_then (adds_bytes " + ") (adds_then (fits b v.0) (adds_more bs v.1)))

  adds_summed : (bs : List Branch) → length bs ≤ most_branches → Every (ValidBranch k values) bs → Adds (branches_most most) (summed branch bs)
  adds_summed [] h v = adds_up (branches_most most) (omega arith) adds_none
  adds_summed (b ∷ bs) h v =
      let few : length bs ≤ most_branches - 1 = omega arith in
      adds_up (branches_most most) (omega (arith, mul-le-mul_right (3 + most) few)) (adds_then (fits b v.0) (adds_more bs v.1))

-- ---- a statement behind its first test

module _ (n k values : ℕ) (kind : Brackets) (leaf : Leaf → Text) (further : ℕ) (leaves : (a : Leaf) → ValidLeaf n k values a → Adds (suc further) (leaf a))
    (branch : Branch → Text) (most : ℕ) (ends : (b : Branch) → ValidBranch k values b → Adds most (branch b)) where
  pub adds_tail : (g : Option Guard) (bs : List Branch) → ValidGuard n k values g → length bs ≤ most_branches → Every (ValidBranch k values) bs
      → Adds (tail_most further most) (tail_text kind leaf branch g bs)
  adds_tail g bs v h w =
      adds_up (tail_most further most) (omega arith)
      (adds_then (adds_test n k values kind leaf further leaves g v) (adds_then (adds_bytes " -> ") (adds_then (adds_summed k values branch most ends bs h w) (adds_bytes ";\n"))))
