-- The text of branches in the form in which the code puts them: a branch by its parts, and one branch more after each turn of a loop.
-- Assumes nothing.
use Prim.Native.Nat.{ℕ, zero, suc, ◌+◌, ◌-◌, ◌≤◌, ◌<◌}
use mathlib.Core.Path.{◌≡◌, refl, ap}
use mathlib.Core.List.{List, [], ◌∷◌, ◌++◌, map}
use mathlib.Core.Option.{some}
use native.Mathlib.Numerals.{add-one}
use native.Mathlib.Omega.{arith}
use lib.ListN.{length, get_or, take, drop}
use lib.Seq.{take-suc, take_all}
use Rattle.card.specs.Card.{Branch}
use Rattle.card.specs.Laid.{units_part, set_part, end_part, set_of, branch_of}
use Rattle.meaning.specs.Reduced.{update_of}
use Rattle.phrases.specs.Phrases.{Text, ◌▸◌, num, weight_text}
use Rattle.phrases.specs.Puts.{Puts}
use Rattle.texts.specs.Shared.{more, summed, set_last}
use Rattle.texts.specs.ReducedText.{update_text}
use Rattle.leaf_text.specs.declared.style.Form.TheVariants.{Written, Reduced}
use Rattle.leaf_text.specs.Style.{Look}
use Rattle.branch_text.specs.Branches.{end_text, branch_text}

pub branch_parts : (s : Look) (x : ℕ) {u g e : ℕ} → u ≡ units_part x → g ≡ set_part x → e ≡ end_part x → (r : List ℕ)
    → weight_text u (end_text s e (set_of g) r) ≡ branch_text s (branch_of x) r
unfolding branch_of
branch_parts s x h j k r = rw (h, j, k)

-- behind its weight, by which text it is and by what it sets
sets_some : (sets : ℕ) → (sets ≡ 0 → ⊥) → (r : List ℕ) → set_last (some (sets - 1)) r ≡ set_last (set_of sets) r
sets_some zero h r = absurd (h refl)
sets_some (suc v) h r = let e : suc v - 1 ≡ v = omega arith in rw e

module _ (s : Look) (e sets : ℕ) where
  pub written_set : s.form ≡ Written → (sets ≡ 0 → ⊥) → (r : List ℕ) → ":(s1'=" ▸ num e (")" ▸ set_last (some (sets - 1)) r) ≡ end_text s e (set_of sets) r
  written_set h k r = rw (h, sets_some sets k r)

  pub reduced_end : s.form ≡ Reduced → (r : List ℕ) → ":" ▸ update_text (update_of s.seats s.own e) (set_of sets) r ≡ end_text s e (set_of sets) r
  reduced_end h r = rw h

-- ---- several branches

module _ (branch : Branch → Text) where
  more_append : (bs : List Branch) (b : Branch) (r : List ℕ) → more branch (bs ++ b ∷ []) r ≡ more branch bs (" + " ▸ branch b r)
  more_append [] b r = refl
  more_append (x ∷ bs) b r = rw (more_append bs b r)

  map_one : (xs : List ℕ) (x : ℕ) → map branch_of (xs ++ x ∷ []) ≡ map branch_of xs ++ branch_of x ∷ []
  map_one [] x = refl
  map_one (y ∷ xs) x = ap (λ (l : List Branch). branch_of y ∷ l) (map_one xs x)

  module _ (xs : List ℕ) where
    abbrev pub some_more : ℕ → Text
    some_more i = more branch (map branch_of (take i xs))

    pub more_next : (i : ℕ) → i < length xs → (r : List ℕ) → some_more i (" + " ▸ branch (branch_of (get_or xs i 0)) r) ≡ some_more (i + 1) r
    more_next i h r = rw (add-one, take-suc xs i 0 h, map_one, more_append)

    pub more_end : (i : ℕ) {a b : List ℕ} {at m : ℕ} → length xs ≤ i → Puts a b at (some_more i) m → Puts a b at (more branch (map branch_of xs)) m
    more_end i h p = rw (take_all i xs h) at p

    pub summed_none : length xs < 1 → (r : List ℕ) → r ≡ summed branch (map branch_of xs) r
    summed_none e r = go xs e
      where
        go : (ys : List ℕ) → length ys < 1 → r ≡ summed branch (map branch_of ys) r
        go [] h = refl
        go (y ∷ ys) h = absurd (omega arith)

    pub summed_some : 1 ≤ length xs → (r : List ℕ)
        → branch (branch_of (get_or xs 0 0)) (more branch (map branch_of (take (length xs - 1) (drop 1 xs))) r) ≡ summed branch (map branch_of xs) r
    summed_some h r = go xs h
      where
        go : (ys : List ℕ) → 1 ≤ length ys
            → branch (branch_of (get_or ys 0 0)) (more branch (map branch_of (take (length ys - 1) (drop 1 ys))) r) ≡ summed branch (map branch_of ys) r
        go [] k = absurd (omega arith)
        go (y ∷ ys) k =
            let e : length ys ≤ suc (length ys) - 1 = omega arith in
            rw (take_all (suc (length ys) - 1) ys e)
