-- The panel's lines in the form in which the code puts them: a list's text is one piece more after each turn of a loop. Assumes
-- nothing.
use Prim.Native.Nat.{ℕ, zero, suc, ◌+◌, ◌≤◌, ◌<◌, min}
use mathlib.Core.Path.{◌≡◌, refl, sym, ap, ◌∙◌}
use mathlib.Core.Bool.{Bool, true, false}
use mathlib.Core.List.{List, [], ◌∷◌, ◌++◌, append_assoc, append-nil}
use native.Mathlib.Numerals.{add-one}
use native.Mathlib.Omega.{arith}
use borrow.Author.Tests.{eq-eqb}
use lib.ListN.{length, get_or, take}
use lib.Seq.{take-suc, take_all}
use Rattle.card.specs.Limits.{most_shared}
use Rattle.card.specs.Laid.{shared_of}
use Rattle.room.specs.Room.{cap}
use Rattle.phrases.specs.Phrases.{◌▸◌, num}
use Rattle.phrases.specs.Puts.{Puts}
use Rattle.phrases.proofs.Laws.{puts_then, puts_as, puts_none}
use Rattle.phrases.proofs.Counted.{Text}
use Rattle.meaning.specs.Sums.{or_one, upto, flat}
use Rattle.meaning.specs.Panel.{Move, Stay, move_line, Block, shared_shown}
use Rattle.meaning.specs.Position.{shared_values}
use Rattle.panel_wording.specs.PanelText.{numbers, line, told, ending, moves_text, stays_text, block_text, blocks_text}
use Rattle.panel_wording.specs.PanelIn.{shown_if, tells}

-- ---- numbers

numbers_append : (l m r : List ℕ) → numbers (l ++ m) r ≡ numbers l (numbers m r)
numbers_append [] m r = refl
numbers_append (v ∷ l) m r = ap (λ (t : List ℕ). " " ▸ num v t) (numbers_append l m r)

module _ (xs : List ℕ) (i : ℕ) {a b : List ℕ} {at m : ℕ} where
  pub numbers_next : {c : List ℕ} {r : ℕ} → i < length xs → Puts a b at (numbers (take i xs)) m → Puts b c m (λ t. " " ▸ num (get_or xs i 0) t) r
      → Puts a c at (numbers (take (i + 1) xs)) r
  numbers_next h p q =
      puts_as (numbers (take (i + 1) xs)) (λ t. sym (rw (add-one i, take-suc xs i 0 h) (numbers_append (take i xs) (get_or xs i 0 ∷ []) t))) (puts_then p q)

  pub numbers_end : length xs ≤ i → Puts a b at (numbers (take i xs)) m → Puts a b at (numbers xs) m
  numbers_end h p = rw (take_all i xs h) at p

-- ---- a loop over lists: each turn puts the text of the next list

-- a text of a list, piece by piece
pub record Joins {A : Type 0} (T : List A → Text) : Type 0 where
  pub nothing : (r : List ℕ) → r ≡ T [] r
  pub both : (l m : List A) (r : List ℕ) → T (l ++ m) r ≡ T l (T m r)

flat_more : {A : Type 0} (n : ℕ) (f : ℕ → List A) → flat (upto (suc n) f) ≡ flat (upto n f) ++ f n
flat_more zero f = append-nil (f 0)
flat_more (suc n) f = ap (λ (l : List _). f 0 ++ l) (flat_more n (λ i. f (suc i))) ∙ sym (append_assoc (f 0) (flat (upto n (λ i. f (suc i)))) (f (suc n)))

module _ {A : Type 0} {T : List A → Text} (j : Joins T) (f : ℕ → List A) where
  pub lists_start : {a : List ℕ} {at r : ℕ} → length a < cap → r ≡ min at cap → Puts a a at (T (flat (upto 0 f))) r
  lists_start h e = puts_as (T []) j.nothing (puts_none h e)

  module _ (i : ℕ) {a b : List ℕ} {at m : ℕ} where
    pub lists_next : {c : List ℕ} {r : ℕ} → Puts a b at (T (flat (upto i f))) m → Puts b c m (T (f i)) r → Puts a c at (T (flat (upto (i + 1) f))) r
    lists_next p q =
        puts_as (T (flat (upto (i + 1) f))) (λ t. sym (rw (add-one i, flat_more i f) (j.both (flat (upto i f)) (f i) t))) (puts_then p q)

    pub lists_end : (n : ℕ) → i ≤ n → n ≤ i → Puts a b at (T (flat (upto i f))) m → Puts a b at (T (flat (upto n f))) m
    lists_end n h l p = let e : n ≡ i = omega arith in rw e p

module _ (t : Bool) where
  pub moves_join : Joins (moves_text t)
  moves_join = record { nothing = λ r. refl; both = go }
    where
      go : (l m : List Move) (r : List ℕ) → moves_text t (l ++ m) r ≡ moves_text t l (moves_text t m r)
      go [] m r = refl
      go (x ∷ l) m r = ap (λ (s : List ℕ). line "move" (x.old ∷ x.new ∷ x.weight ∷ ending t x.shared) s) (go l m r)

  pub stays_join : Joins (stays_text t)
  stays_join = record { nothing = λ r. refl; both = go }
    where
      go : (l m : List Stay) (r : List ℕ) → stays_text t (l ++ m) r ≡ stays_text t l (stays_text t m r)
      go [] m r = refl
      go (x ∷ l) m r = ap (λ (s : List ℕ). line "stay" (x.weight ∷ ending t x.shared) s) (go l m r)

  pub blocks_join : Joins (blocks_text t)
  blocks_join = record { nothing = λ r. refl; both = go }
    where
      go : (l m : List Block) (r : List ℕ) → blocks_text t (l ++ m) r ≡ blocks_text t l (blocks_text t m r)
      go [] m r = refl
      go (x ∷ l) m r = ap (block_text t x) (go l m r)

-- ---- the shared number, by how many values it has

pub tells_not : {values : ℕ} → values ≡ 0 → tells values ≡ false
tells_not e = rw e

pub tells_it : (values : ℕ) → (values ≡ 0 → ⊥) → tells values ≡ true
tells_it zero h = absurd (h refl)
tells_it (suc most) h = refl

-- as it is told on the panel
pub told_if : (values g : ℕ) → told (shown_if values g) ≡ tells values
told_if zero g = refl
told_if (suc most) g = refl

module _ (values start : ℕ) where
  pub shown_if_law : (g : ℕ) → shared_shown (shared_of values start) g ≡ shown_if values g
  shown_if_law g = go values
    where
      go : (v : ℕ) → shared_shown (shared_of v start) g ≡ shown_if v g
      go zero = refl
      go (suc most) = refl

  pub values_one : shared_values (shared_of values start) ≡ or_one values
  values_one = go values
    where
      go : (v : ℕ) → shared_values (shared_of v start) ≡ or_one v
      go zero = refl
      go (suc most) = refl

pub one_none : {values : ℕ} → values ≡ 0 → 1 ≡ or_one values
one_none e = rw e

pub one_some : (values : ℕ) → (values ≡ 0 → ⊥) → values ≡ or_one values
one_some zero h = absurd (h refl)
one_some (suc most) h = refl

pub one_most : (values : ℕ) → values ≤ most_shared → or_one values ≤ most_shared
one_most zero h = omega arith
one_most (suc most) h = h

-- ---- a move from a state to itself is no line

pub move_same : (values a b h w : ℕ) (r : List ℕ) → a ≡ b → r ≡ moves_text (tells values) (move_line a b h w) r
move_same values a b h w r e = rw (eq-eqb a b e)
