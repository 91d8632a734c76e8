-- Counted repetition: things that each start with a sign or keyword, up to a most, and what ends them (`ends`). What is read behind the
-- first of them is the same with one less, and the first put before it (`more`). Branches, statements and modules are read so.
-- Assumes nothing.
use Prim.Native.Nat.{ℕ, zero, suc}
use Prim.Native.String.{String}
use mathlib.Core.Path.{◌≡◌, refl, ap, ◌∙◌}
use mathlib.Core.List.{List, [], ◌∷◌}
use Rattle.marks_on_a_card.specs.Kinds.{kind}
use Rattle.marks.specs.declared.Step.{Step}
use Rattle.reading.specs.Reader.{State, Result, ok, stop, Reader, bind, return}
use Rattle.reading.specs.Shape.{many}
use Rattle.parts.specs.Parts.{from, Told}
use Rattle.parts.proofs.Steps.{Next}
use Rattle.parts.proofs.Answers.{if_so, if_not}

-- so many of them at most
abbrev pub up_to : {A B : Type 0} → String → Reader A → Reader (List A) → (List A → Reader B) → ℕ → Reader B
up_to t one past ends most s = bind (many most t one past s) ends

module _ {A B : Type 0} (t : String) (one : Reader A) (past : Reader (List A)) (ends : List A → Reader B) (more : A → B → B)
    (step : (a : A) (xs : List A) (s : State) → ends (a ∷ xs) s ≡ bind (ends xs s) (λ b. return (more a b))) where
  abbrev those : ℕ → Reader B
  those = up_to t one past ends

  -- a first, however it is read
  pub with_first : (x : Result A) (most : ℕ) → bind x (λ a s. bind (many most t one past s) (λ xs. ends (a ∷ xs))) ≡ bind x (λ a s. bind (those most s) (λ b. return (more a b)))
  with_first (ok a s) most = go (many most t one past s)
    where
      go : (y : Result (List A)) → bind y (λ xs. ends (a ∷ xs)) ≡ bind (bind y ends) (λ b. return (more a b))
      go (ok xs s₁) = step a xs s₁
      go (stop n p) = refl
  with_first (stop n p) most = refl

  ended : (x : Result A) (most : ℕ)
      → bind (bind x (λ a s. bind (many most t one past s) (λ xs. return (a ∷ xs)))) ends ≡ bind x (λ a s. bind (many most t one past s) (λ xs. ends (a ∷ xs)))
  ended (ok a s) most = go (many most t one past s)
    where
      go : (y : Result (List A)) → bind (bind y (λ xs. return (a ∷ xs))) ends ≡ bind y (λ xs. ends (a ∷ xs))
      go (ok xs s₁) = refl
      go (stop n p) = refl
  ended (stop n p) most = refl

  -- by the next mark
  module _ (h : Told t) (s : List ℕ) (i : ℕ) (x : Step) (v : Next s i x) where
    pub another : x.mark.kind ≡ kind t → (most n : ℕ) → those (suc most) (from s i n) ≡ bind (one (from s i n)) (λ a s₁. bind (those most s₁) (λ b. return (more a b)))
    another e most n =
        ap (λ (y : Result (List A)). bind y ends) (if_so t h s i x v e _ (return []) n)
        ∙ ended (one (from s i n)) most ∙ with_first (one (from s i n)) most

    pub too_many : x.mark.kind ≡ kind t → (n : ℕ) → those 0 (from s i n) ≡ bind (past (from s i n)) ends
    too_many e n = ap (λ (y : Result (List A)). bind y ends) (if_so t h s i x v e past (return []) n)

    pub no_other : (x.mark.kind ≡ kind t → ⊥) → (most n : ℕ) → those most (from s i n) ≡ ends [] (from s i n)
    no_other e zero n = ap (λ (y : Result (List A)). bind y ends) (if_not t h s i x v e past (return []) n)
    no_other e (suc most) n = ap (λ (y : Result (List A)). bind y ends) (if_not t h s i x v e _ (return []) n)
