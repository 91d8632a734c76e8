-- A block has at most a line for each branch: a weight that is not 0 has a branch in it, and a branch is in one weight alone, by where it ends
-- and by what it makes of the shared number. Assumes nothing.
use Prim.Native.Nat.{ℕ, zero, suc, ◌+◌, ◌*◌, ◌≤◌, ◌<◌}
use mathlib.Core.Path.{◌≡◌, refl, sym, ap, ◌∙◌}
use mathlib.Core.Bool.{Bool, true, false, not, ◌&&◌}
use mathlib.Core.List.{List, [], ◌∷◌}
use native.Mathlib.Nat.{le_trans}
use native.Mathlib.Omega.{arith}
use borrow.Author.Tests.{eqb-true, eq-eqb, lt-ltb}
use lib.Dec.{eqb, ltb, eqb-zero-suc, eqb-suc-suc, eqb-suc-zero}
use lib.ListN.{length}
use Rattle.card.specs.Card.{Branch, Statement}
use Rattle.meaning.specs.Sums.{gate, sum}
use Rattle.meaning.specs.Position.{Position, set_to}
use Rattle.meaning.specs.ByCounts.{able, units_into, stay_of, move_of, all_stay, all_move}
use Rattle.meaning.proofs.Sums.{sum_below, below_cong, below_zero, below_exchange}

le_of_eq : {a b : ℕ} → a ≡ b → a ≤ b
le_of_eq e = omega (arith, e)

add_le_add : {a b c d : ℕ} → a ≤ b → c ≤ d → a + c ≤ b + d
add_le_add p q = omega arith

-- ---- is there a weight?

abbrev pub some : ℕ → ℕ
some w = gate (ltb 0 w) 1

one_or_none : (b : Bool) → gate b 1 ≤ 1
one_or_none true = omega arith
one_or_none false = omega arith

some_le : (w : ℕ) → some w ≤ 1
some_le w = one_or_none (ltb 0 w)

some_zero : some 0 ≡ 0
some_zero = refl

some_suc : (w : ℕ) → some (suc w) ≡ 1
some_suc w = let l : 0 < suc w = omega arith in rw (lt-ltb 0 (suc w) l)

some_add : (v w : ℕ) → some (v + w) ≤ some v + some w
some_add zero w = let e : 0 + w ≡ w = omega arith in rw e (omega (arith, some_zero))
some_add (suc v) w = omega (arith, some_le (suc v + w), some_suc v)

some_times : (c w : ℕ) → some (c * w) ≤ some w
some_times c zero = omega (arith, some_zero, ap some (zero_times c))
  where
    zero_times : (c : ℕ) → c * 0 ≡ 0
    zero_times c = omega arith
some_times c (suc w) = omega (arith, some_le (c * suc w), some_suc w)

some_gate : (b : Bool) (w : ℕ) → some (gate b w) ≤ gate b 1
some_gate true w = some_le w
some_gate false w = omega (arith, some_zero)

-- ---- sums

sum_le : {A : Type 0} (f g : A → ℕ) (l : List A) → ((a : A) → f a ≤ g a) → sum f l ≤ sum g l
sum_le f g [] h = omega arith
sum_le f g (a ∷ l) h = add_le_add (h a) (sum_le f g l h)

below_le : (n : ℕ) (f g : ℕ → ℕ) → ((i : ℕ) → f i ≤ g i) → sum_below n f ≤ sum_below n g
below_le zero f g h = omega arith
below_le (suc n) f g h = add_le_add (h 0) (below_le n (λ i. f (suc i)) (λ i. g (suc i)) (λ i. h (suc i)))

pick_le : (n j : ℕ) (f : ℕ → ℕ) → sum_below n (λ a. gate (eqb j a) (f a)) ≤ f j
pick_le zero j f = omega arith
pick_le (suc n) zero f = simp eqb-zero-suc (omega (arith, below_zero n))
pick_le (suc n) (suc j) f = simp (eqb-suc-suc, eqb-suc-zero) (omega (arith, pick_le n j (λ a. f (suc a))))

sum_one : {A : Type 0} (l : List A) → sum (λ a. 1) l ≡ length l
sum_one [] = refl
sum_one (a ∷ l) = omega (arith, sum_one l)

gate_swap : (p q : Bool) (w : ℕ) → gate p (gate q w) ≡ gate q (gate p w)
gate_swap true q w = refl
gate_swap false true w = refl
gate_swap false false w = refl

gate_both : (p q : Bool) (w : ℕ) → gate (p && q) w ≡ gate q (gate p w)
gate_both true true w = refl
gate_both true false w = refl
gate_both false true w = refl
gate_both false false w = refl

gate_le : (p : Bool) {v w : ℕ} → v ≤ w → gate p v ≤ gate p w
gate_le true h = h
gate_le false h = omega arith

-- ---- all places of a block

module _ (k values : ℕ) where
  abbrev pub stays : (ℕ → ℕ) → ℕ
  stays f = sum_below values f

  abbrev pub moves : (ℕ → ℕ → ℕ → ℕ) → ℕ
  moves f = sum_below (suc k) (λ a. sum_below (suc k) (λ b. sum_below values (λ h. f a b h)))

  moves_le : (f g : ℕ → ℕ → ℕ → ℕ) → ((a b h : ℕ) → f a b h ≤ g a b h) → moves f ≤ moves g
  moves_le f g q = below_le (suc k) (λ a. sum_below (suc k) (λ b. sum_below values (f a b))) (λ a. sum_below (suc k) (λ b. sum_below values (g a b)))
      (λ a. below_le (suc k) (λ b. sum_below values (f a b)) (λ b. sum_below values (g a b)) (λ b. below_le values (f a b) (g a b) (q a b)))

  moves_exchange : {A : Type 0} (f : A → ℕ → ℕ → ℕ → ℕ) (l : List A) → moves (λ a b h. sum (λ x. f x a b h) l) ≡ sum (λ x. moves (f x)) l
  moves_exchange f l =
      below_cong (suc k) (λ a. sum_below (suc k) (λ b. sum_below values (λ h. sum (λ x. f x a b h) l))) (λ a. sum (λ x. sum_below (suc k) (λ b. sum_below values (f x a b))) l)
      (λ a i. below_cong (suc k) (λ b. sum_below values (λ h. sum (λ x. f x a b h) l)) (λ b. sum (λ x. sum_below values (f x a b)) l)
      (λ b j. below_exchange values (λ h x. f x a b h) l) ∙ below_exchange (suc k) (λ b x. sum_below values (f x a b)) l)
      ∙ below_exchange (suc k) (λ a x. sum_below (suc k) (λ b. sum_below values (f x a b))) l

  sum_both : {A : Type 0} (f g : A → ℕ) (l : List A) → sum (λ x. f x + g x) l ≡ sum f l + sum g l
  sum_both f g [] = refl
  sum_both f g (x ∷ l) = omega (arith, sum_both f g l)

  -- ---- the place of one branch

  module _ (g own : ℕ) (b : Branch) where
    abbrev stay_at : ℕ → ℕ
    stay_at h = gate (eqb b.end own && eqb (set_to g b.sets) h) 1

    abbrev move_at : ℕ → ℕ → ℕ → ℕ
    move_at a t h = gate (not (eqb a t)) (gate (eqb own a) (gate (eqb b.end t && eqb (set_to g b.sets) h) 1))

    one_stay : stays stay_at ≤ gate (eqb b.end own) 1
    one_stay = le_trans
        (below_le values stay_at (λ h. gate (eqb (set_to g b.sets) h) (gate (eqb b.end own) 1)) (λ h. le_of_eq (gate_both (eqb b.end own) (eqb (set_to g b.sets) h) 1)))
        (pick_le values (set_to g b.sets) (λ h. gate (eqb b.end own) 1))

    -- by the shared number, by the new state and by the old
    by_shared : (a t : ℕ) → sum_below values (move_at a t) ≤ gate (eqb b.end t) (gate (not (eqb a t)) (gate (eqb own a) 1))
    by_shared a t = le_trans
        (below_le values (move_at a t) (λ h. gate (eqb (set_to g b.sets) h) (gate (eqb b.end t) (gate (not (eqb a t)) (gate (eqb own a) 1)))) (λ h. le_of_eq (order (not (eqb a t)) (eqb own a) (eqb b.end t) (eqb (set_to g b.sets) h))))
        (pick_le values (set_to g b.sets) (λ h. gate (eqb b.end t) (gate (not (eqb a t)) (gate (eqb own a) 1))))
      where
        order : (p q r s : Bool) → gate p (gate q (gate (r && s) 1)) ≡ gate s (gate r (gate p (gate q 1)))
        order true true true true = refl
        order true true true false = refl
        order true true false true = refl
        order true true false false = refl
        order true false true true = refl
        order true false true false = refl
        order true false false true = refl
        order true false false false = refl
        order false q true true = refl
        order false q true false = refl
        order false q false true = refl
        order false q false false = refl

    by_new : (a : ℕ) → sum_below (suc k) (λ t. sum_below values (move_at a t)) ≤ gate (eqb own a) (gate (not (eqb a b.end)) 1)
    by_new a = le_trans
        (below_le (suc k) (λ t. sum_below values (move_at a t)) (λ t. gate (eqb b.end t) (gate (not (eqb a t)) (gate (eqb own a) 1))) (by_shared a))
        (le_trans (pick_le (suc k) b.end (λ t. gate (not (eqb a t)) (gate (eqb own a) 1))) (le_of_eq (gate_swap (not (eqb a b.end)) (eqb own a) 1)))

    one_move : moves move_at ≤ gate (not (eqb own b.end)) 1
    one_move = le_trans
        (below_le (suc k) (λ a. sum_below (suc k) (λ t. sum_below values (move_at a t))) (λ a. gate (eqb own a) (gate (not (eqb a b.end)) 1)) by_new)
        (pick_le (suc k) own (λ a. gate (not (eqb a b.end)) 1))

    one_line : stays stay_at + moves move_at ≤ 1
    one_line = le_trans (add_le_add one_stay one_move) (go (eqb b.end own) refl)
      where
        go : (t : Bool) → eqb b.end own ≡ t → gate t 1 + gate (not (eqb own b.end)) 1 ≤ 1
        go true e = let same : eqb own b.end ≡ true = eq-eqb own b.end (sym (eqb-true b.end own e)) in rw same (omega arith)
        go false e = omega (arith, one_or_none (not (eqb own b.end)))

  -- ---- of a statement

  module _ (g : ℕ) (s : Statement) where
    abbrev stays_in : ℕ → ℕ
    stays_in h = sum (λ b. stay_at g s.own b h) s.branches

    abbrev moves_in : ℕ → ℕ → ℕ → ℕ
    moves_in a t h = sum (λ b. move_at g s.own b a t h) s.branches

    in_branches : stays stays_in + moves moves_in ≤ length s.branches
    in_branches =
        let f : Branch → ℕ = λ b. stays (stay_at g s.own b) in
        let m : Branch → ℕ = λ b. moves (move_at g s.own b) in
        let e₁ : stays stays_in ≡ sum f s.branches = below_exchange values (λ h b. stay_at g s.own b h) s.branches in
        let e₂ : moves moves_in ≡ sum m s.branches = moves_exchange (λ b. move_at g s.own b) s.branches in
        let e₃ : sum (λ b. f b + m b) s.branches ≡ sum f s.branches + sum m s.branches = sum_both f m s.branches in
        let e₄ : sum (λ b. f b + m b) s.branches ≤ sum (λ b. 1) s.branches = sum_le (λ b. f b + m b) (λ b. 1) s.branches (one_line g s.own) in
        omega (arith, sum_one s.branches)

    stay_some : (h : ℕ) → some (stay_of g s h) ≤ stays_in h
    unfolding stay_of units_into
    stay_some h = go s.branches
      where
        go : (l : List Branch) → some (units_into g s.own h l) ≤ sum (λ b. stay_at g s.own b h) l
        go [] = omega (arith, some_zero)
        go (b ∷ l) =
            let t = eqb b.end s.own && eqb (set_to g b.sets) h in
            le_trans (some_add (gate t b.units) _) (add_le_add (some_gate t b.units) (go l))

    move_some : (a t h : ℕ) → gate (not (eqb a t)) (some (move_of g s a t h)) ≤ moves_in a t h
    unfolding move_of units_into
    move_some a t h = go (not (eqb a t)) (eqb s.own a) s.branches
      where
        go : (p q : Bool) (l : List Branch) → gate p (some (gate q (units_into g t h l))) ≤ sum (λ b. gate p (gate q (gate (eqb b.end t && eqb (set_to g b.sets) h) 1))) l
        go true true [] = omega (arith, some_zero)
        go true true (b ∷ l) =
            let u = eqb b.end t && eqb (set_to g b.sets) h in
            le_trans (some_add (gate u b.units) _) (add_le_add (some_gate u b.units) (go true true l))
        go true false l = omega (arith, some_zero)
        go false q l = omega arith

    -- so a choice has few lines
    pub choice_lines : stays (λ h. some (stay_of g s h)) + moves (λ a t h. gate (not (eqb a t)) (some (move_of g s a t h))) ≤ length s.branches
    choice_lines = le_trans
        (add_le_add (below_le values (λ h. some (stay_of g s h)) stays_in stay_some) (moves_le (λ a t h. gate (not (eqb a t)) (some (move_of g s a t h))) moves_in move_some))
        in_branches

  -- ---- of all statements

  module _ (n : ℕ) (v : Position) where
    all_stay_some : (h : ℕ) (l : List Statement) → some (all_stay n v l h) ≤ sum (λ s. stays_in v.shared s h) l
    unfolding all_stay
    all_stay_some h [] = omega (arith, some_zero)
    all_stay_some h (s ∷ l) =
        let w = stay_of v.shared s h in
        le_trans (some_add (able n v s * w) _) (add_le_add (le_trans (some_times (able n v s) w) (stay_some v.shared s h)) (all_stay_some h l))

    all_move_some : (a t h : ℕ) (l : List Statement) → gate (not (eqb a t)) (some (all_move n v l a t h)) ≤ sum (λ s. moves_in v.shared s a t h) l
    unfolding all_move
    all_move_some a t h l = go (not (eqb a t)) l (λ s. move_some v.shared s a t h)
      where
        go : (p : Bool) (l : List Statement) → ((s : Statement) → gate p (some (move_of v.shared s a t h)) ≤ moves_in v.shared s a t h)
            → gate p (some (sum (λ s. able n v s * move_of v.shared s a t h) l)) ≤ sum (λ s. moves_in v.shared s a t h) l
        go true [] q = omega (arith, some_zero)
        go true (s ∷ l) q =
            let w = move_of v.shared s a t h in
            le_trans (some_add (able n v s * w) _) (add_le_add (le_trans (some_times (able n v s) w) (q s)) (go true l q))
        go false l q = omega arith

    pub all_lines : (l : List Statement)
        → stays (λ h. some (all_stay n v l h)) + moves (λ a t h. gate (not (eqb a t)) (some (all_move n v l a t h))) ≤ sum (λ s. length s.branches) l
    all_lines l =
        let f : Statement → ℕ = λ s. stays (stays_in v.shared s) in
        let m : Statement → ℕ = λ s. moves (moves_in v.shared s) in
        let p = below_le values (λ h. some (all_stay n v l h)) (λ h. sum (λ s. stays_in v.shared s h) l) (λ h. all_stay_some h l) in
        let q = moves_le (λ a t h. gate (not (eqb a t)) (some (all_move n v l a t h))) (λ a t h. sum (λ s. moves_in v.shared s a t h) l) (λ a t h. all_move_some a t h l) in
        let e₁ : stays (λ h. sum (λ s. stays_in v.shared s h) l) ≡ sum f l = below_exchange values (λ h s. stays_in v.shared s h) l in
        let e₂ : moves (λ a t h. sum (λ s. moves_in v.shared s a t h) l) ≡ sum m l = moves_exchange (λ s. moves_in v.shared s) l in
        let e₃ : sum (λ s. f s + m s) l ≡ sum f l + sum m l = sum_both f m l in
        let e₄ : sum (λ s. f s + m s) l ≤ sum (λ s. length s.branches) l = sum_le (λ s. f s + m s) (λ s. length s.branches) l (in_branches v.shared) in
        omega arith
