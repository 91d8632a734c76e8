-- Laws of gates, sums and made lists: each by induction over the list or the number. Assumes nothing.
use Prim.Native.Nat.{ℕ, zero, suc, ◌+◌, ◌*◌, ◌≤◌, ◌<◌}
use mathlib.Core.Path.{◌≡◌, refl, sym, ap, ap₂, fun_ext, ◌∙◌}
use mathlib.Core.Bool.{Bool, true, false, ◌&&◌}
use mathlib.Core.List.{List, [], ◌∷◌, ◌++◌, map}
use native.Mathlib.Nat.{not-suc-le-zero, le_of_suc-le-suc}
use native.Mathlib.Omega.{arith}
use lib.Dec.{eqb, ltb, eqb-suc-suc, eqb-suc-zero, eqb-zero-suc, leb-zero, leb-suc-zero, leb-suc-suc}
use lib.ListN.{length, get_or, take}
use lib.Seq.{take-suc}
use Rattle.card.specs.Valid.{Every}
use Rattle.meaning.specs.Sums.{gate, sum, upto, those, flat}

-- ---- gates

pub gate_and : (a b : Bool) (w : ℕ) → gate (a && b) w ≡ gate a (gate b w)
gate_and true b w = refl
gate_and false b w = refl

pub gate_zero : (b : Bool) → gate b 0 ≡ 0
gate_zero true = refl
gate_zero false = refl

pub gate_out : (b : Bool) (v w : ℕ) → v * gate b w ≡ gate b v * w
gate_out true v w = refl
gate_out false v w = omega arith

pub gate_le : (b : Bool) (w : ℕ) → gate b w ≤ w
gate_le true w = omega arith
gate_le false w = omega arith

-- ---- sums over a list

module _ {A : Type 0} where
  pub sum_cong : {f g : A → ℕ} (l : List A) → ((a : A) → f a ≡ g a) → sum f l ≡ sum g l
  sum_cong l h = ap (λ (f : A → ℕ). sum f l) (fun_ext h)

  pub sum_every : {P : A → Type 0} {f g : A → ℕ} (l : List A) → Every P l → ((a : A) → P a → f a ≡ g a) → sum f l ≡ sum g l
  sum_every [] e h = refl
  sum_every (a ∷ l) e h = ap₂ ◌+◌ (h a e.0) (sum_every l e.1 h)

  pub sum_append : (f : A → ℕ) (l m : List A) → sum f (l ++ m) ≡ sum f l + sum f m
  sum_append f [] m = omega arith
  sum_append f (a ∷ l) m = omega (arith, sum_append f l m)

  pub sum_flat : (f : A → ℕ) (m : List (List A)) → sum f (flat m) ≡ sum (sum f) m
  sum_flat f [] = refl
  sum_flat f (l ∷ m) = sum_append f l (flat m) ∙ ap (λ (s : ℕ). sum f l + s) (sum_flat f m)

  pub sum_those : (f : A → ℕ) (p : A → Bool) (l : List A) → sum f (those p l) ≡ sum (λ a. gate (p a) (f a)) l
  sum_those f p [] = refl
  sum_those f p (a ∷ l) = go (p a) refl (sum_those f p l)
    where
      go : (b : Bool) → p a ≡ b → sum f (those p l) ≡ sum (λ a. gate (p a) (f a)) l → sum f (those p (a ∷ l)) ≡ sum (λ a. gate (p a) (f a)) (a ∷ l)
      go true e h = rw e (omega arith)
      go false e h = rw e (omega arith)

  -- one element further, as a loop sums
  pub sum_take : (f : A → ℕ) (l : List A) (i : ℕ) (a : A) → i < length l → sum f (take (suc i) l) ≡ sum f (take i l) + f (get_or l i a)
  sum_take f l i a h = ap (sum f) (take-suc l i a h) ∙ sum_append f (take i l) (get_or l i a ∷ []) ∙ omega arith

  pub sum_one : (l : List A) → sum (λ a. 1) l ≡ length l
  sum_one [] = refl
  sum_one (a ∷ l) = omega (arith, sum_one l)

  pub sum_zero : (l : List A) → sum (λ a. 0) l ≡ 0
  sum_zero [] = refl
  sum_zero (a ∷ l) = omega (arith, sum_zero l)

  pub sum_add : (f g : A → ℕ) (l : List A) → sum (λ a. f a + g a) l ≡ sum f l + sum g l
  sum_add f g [] = omega arith
  sum_add f g (a ∷ l) = omega (arith, sum_add f g l)

  pub sum_times : (f : A → ℕ) (w : ℕ) (l : List A) → sum (λ a. f a * w) l ≡ sum f l * w
  sum_times f w [] = omega arith
  sum_times f w (a ∷ l) = omega (arith, sum_times f w l)

  pub sum_gate : (b : Bool) (f : A → ℕ) (l : List A) → gate b (sum f l) ≡ sum (λ a. gate b (f a)) l
  sum_gate true f l = refl
  sum_gate false f l = sym (sum_zero l)

  pub sum_mono : {P : A → Type 0} (f g : A → ℕ) (l : List A) → Every P l → ((a : A) → P a → f a ≤ g a) → sum f l ≤ sum g l
  sum_mono f g [] e h = omega arith
  sum_mono f g (a ∷ l) e h = omega (arith, h a e.0, sum_mono f g l e.1 h)

  pub sum_map : {B : Type 0} (f : B → ℕ) (g : A → B) (l : List A) → sum f (map g l) ≡ sum (λ a. f (g a)) l
  sum_map f g [] = refl
  sum_map f g (a ∷ l) = ap (λ (s : ℕ). f (g a) + s) (sum_map f g l)

pub map_map : {A B C : Type 0} (g : B → C) (f : A → B) (l : List A) → map g (map f l) ≡ map (λ a. g (f a)) l
map_map g f [] = refl
map_map {C} g f (a ∷ l) = ap (λ (m : List C). g (f a) ∷ m) (map_map g f l)

pub map_append : {A B : Type 0} (f : A → B) (l m : List A) → map f (l ++ m) ≡ map f l ++ map f m
map_append f [] m = refl
map_append {B} f (a ∷ l) m = ap (λ (r : List B). f a ∷ r) (map_append f l m)

pub map_cong : {A B : Type 0} {f g : A → B} (l : List A) → ((a : A) → f a ≡ g a) → map f l ≡ map g l
map_cong {A} {B} l h = ap (λ (f : A → B). map f l) (fun_ext h)

-- ---- something that holds of each element of a list

module _ {A : Type 0} (P : A → Type 0) where
  pub every_append : (l m : List A) → Every P l → Every P m → Every P (l ++ m)
  every_append [] m e f = f
  every_append (a ∷ l) m e f = (e.0, every_append l m e.1 f)

  pub every_flat : (m : List (List A)) → Every (Every P) m → Every P (flat m)
  every_flat [] e = tt
  every_flat (l ∷ m) e = every_append l (flat m) e.0 (every_flat m e.1)

  pub every_those : (p : A → Bool) (l : List A) → Every P l → Every (λ a. P a × (p a ≡ true)) (those p l)
  every_those p [] e = tt
  every_those p (a ∷ l) e = go (p a) refl (every_those p l e.1)
    where
      go : (b : Bool) → p a ≡ b → Every (λ a. P a × (p a ≡ true)) (those p l) → Every (λ a. P a × (p a ≡ true)) (those p (a ∷ l))
      go true h r = rw h ((e.0, h), r)
      go false h r = rw h r

  pub every_map : {B : Type 0} (f : B → A) (l : List B) → Every (λ b. P (f b)) l → Every P (map f l)
  every_map f [] e = tt
  every_map f (b ∷ l) e = (e.0, every_map f l e.1)

  pub every_upto : (n : ℕ) (f : ℕ → A) → ((i : ℕ) → i < n → P (f i)) → Every P (upto n f)
  every_upto zero f h = tt
  every_upto (suc n) f h = (h zero (omega arith), every_upto n (λ i. f (suc i)) (λ i l. h (suc i) (omega arith)))

  pub every_imp : {Q : A → Type 0} (l : List A) → Every P l → ((a : A) → P a → Q a) → Every Q l
  every_imp [] e h = tt
  every_imp (a ∷ l) e h = (h a e.0, every_imp l e.1 h)

-- ---- the list f 0, …, f (n - 1)

module _ {A : Type 0} where
  pub length_upto : (n : ℕ) (f : ℕ → A) → length (upto n f) ≡ n
  length_upto zero f = refl
  length_upto (suc n) f = ap suc (length_upto n (λ i. f (suc i)))

  pub get_d_upto : (n : ℕ) (f : ℕ → A) (i : ℕ) (a : A) → i < n → get_or (upto n f) i a ≡ f i
  get_d_upto zero f i a h = absurd (not-suc-le-zero h)
  get_d_upto (suc n) f zero a h = refl
  get_d_upto (suc n) f (suc i) a h = get_d_upto n (λ j. f (suc j)) i a (le_of_suc-le-suc h)

  pub upto_cong : (n : ℕ) (f g : ℕ → A) → ((i : ℕ) → i < n → f i ≡ g i) → upto n f ≡ upto n g
  upto_cong zero f g h = refl
  upto_cong (suc n) f g h =
      let t = upto_cong n (λ i. f (suc i)) (λ i. g (suc i)) (λ i l. h (suc i) (omega arith)) in
      rw (h zero (omega arith), t)

-- ---- f 0 + … + f (n - 1)

abbrev pub sum_below : ℕ → (ℕ → ℕ) → ℕ
sum_below n f = sum (λ i. i) (upto n f)

pub sum_upto : {A : Type 0} (f : A → ℕ) (n : ℕ) (g : ℕ → A) → sum f (upto n g) ≡ sum_below n (λ i. f (g i))
sum_upto f zero g = refl
sum_upto f (suc n) g = ap (λ (s : ℕ). f (g zero) + s) (sum_upto f n (λ i. g (suc i)))

pub below_cong : (n : ℕ) (f g : ℕ → ℕ) → ((i : ℕ) → i < n → f i ≡ g i) → sum_below n f ≡ sum_below n g
below_cong n f g h = ap (sum (λ i. i)) (upto_cong n f g h)

pub below_zero : (n : ℕ) → sum_below n (λ i. 0) ≡ 0
below_zero zero = refl
below_zero (suc n) = omega (arith, below_zero n)

pub below_gate : (b : Bool) (n : ℕ) (f : ℕ → ℕ) → gate b (sum_below n f) ≡ sum_below n (λ i. gate b (f i))
below_gate true n f = refl
below_gate false n f = sym (below_zero n)

pub below_exchange : {A : Type 0} (n : ℕ) (f : ℕ → A → ℕ) (l : List A) → sum_below n (λ i. sum (f i) l) ≡ sum (λ a. sum_below n (λ i. f i a)) l
below_exchange zero f l = sym (sum_zero l)
below_exchange (suc n) f l =
    ap (λ (s : ℕ). sum (f zero) l + s) (below_exchange n (λ i. f (suc i)) l) ∙ sym (sum_add (f zero) (λ a. sum_below n (λ i. f (suc i) a)) l)

-- only one term is not 0
pub below_pick : (n j : ℕ) (f : ℕ → ℕ) → j < n → sum_below n (λ a. gate (eqb j a) (f a)) ≡ f j
below_pick zero j f h = absurd (not-suc-le-zero h)
below_pick (suc n) zero f h = simp eqb-zero-suc (omega (arith, below_zero n))
below_pick (suc n) (suc j) f h = simp (eqb-suc-suc, eqb-suc-zero) (omega (arith, below_pick n j (λ a. f (suc a)) (le_of_suc-le-suc h)))

-- of n terms the first c are w
pub below_first : (w n c : ℕ) → c ≤ n → sum_below n (λ m. gate (ltb m c) w) ≡ c * w
below_first w zero zero h = omega arith
below_first w zero (suc c) h = omega arith
below_first w (suc n) zero h = simp leb-suc-zero (omega (arith, simp leb-suc-zero at (below_first w n zero (omega arith))))
below_first w (suc n) (suc c) h = simp (leb-suc-suc 0 c, leb-suc-suc, leb-zero) (omega (arith, below_first w n c (le_of_suc-le-suc h)))
