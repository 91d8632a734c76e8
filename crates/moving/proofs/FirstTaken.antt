-- The walk's first is the first: by induction over the statements, a statement without turns stands before it, and the first one with turns is it.
-- Where there is none the seating is stuck. Assumes nothing.
use Prim.Native.Nat.{ℕ, suc, ◌+◌}
use mathlib.Core.Path.{◌≡◌, refl, sym, ap, ◌∙◌}
use mathlib.Core.Logic.{◌↔◌}
use mathlib.Core.Bool.{true≢false}
use mathlib.Core.List.{List, [], ◌∷◌, ◌++◌}
use mathlib.Core.Option.{none, some}
use native.Mathlib.Omega.{arith}
use lib.ListN.{length}
use Rattle.card.specs.Valid.{Every}
use Rattle.card.specs.Card.{Statement, Card}
use Rattle.meaning.specs.Steps.{Turn}
use Rattle.meaning.specs.Choices.{Choice, choice, choices_of}
use Rattle.meaning.specs.Seats.{Seating, turns_by, choices_from, Stuck}
use Rattle.meaning.proofs.Turns.{Taker, takers}
use Rattle.meaning.proofs.Stuck.{no_taker, nothing_taken}
use Rattle.moving.specs.FirstMove.{first_of, first_move}
use Rattle.moving.specs.FirstTaken.{Takeable, Untaken, FirstTaken}

some≢none : {A B : Type 0} {a : A} → some a ≡ none → B
some≢none e = let z : ◌≡◌ {A = ℕ} 0 1 = cc in absurd (omega arith)

same_some : {a b : ℕ} → some a ≡ some b → a ≡ b
same_some e = cc

module _ (x : Seating) where
  -- a statement at place p, and the walk behind it
  taken_here : (s : Statement) → Takeable x s → (p : ℕ) (r : List (Choice Seating)) → first_of (choice p (turns_by s x) ++ r) ≡ some p
  taken_here s (i, l, may) p r = go (turns_by s x) refl
    where
      go : (m : List (Turn Seating)) → turns_by s x ≡ m → first_of (choice p m ++ r) ≡ some p
      go [] e = absurd (true≢false (sym may ∙ no_taker s x e i l))
      go (t ∷ m) e = refl

  passed_here : (s : Statement) → Untaken x s → (p : ℕ) (r : List (Choice Seating)) → choice p (turns_by s x) ++ r ≡ r
  passed_here s h p r = go (turns_by s x) (takers s x)
    where
      go : (m : List (Turn Seating)) → Every (Taker s x) m → choice p m ++ r ≡ r
      go [] e = refl
      go (t ∷ m) e = let (i, l, may, z) = e.0 in absurd (true≢false (sym may ∙ h i l))

  -- from place p on
  first_is : (p : ℕ) (before : List Statement) (s : Statement) (behind : List Statement) → Every (Untaken x) before → Takeable x s
      → first_of (choices_from p (before ++ s ∷ behind) x) ≡ some (p + length before)
  unfolding choices_of
  first_is p [] s behind none_before taken = taken_here s taken p (choices_from (suc p) behind x) ∙ ap some (omega arith)
  first_is p (b ∷ before) s behind none_before taken =
      ap first_of (passed_here b none_before.0 p (choices_from (suc p) (before ++ s ∷ behind) x))
      ∙ first_is (suc p) before s behind none_before.1 taken
      ∙ ap some (omega arith)

  abbrev Found : ℕ → ℕ → List Statement → Type 0
  Found p q l =
      (before : List Statement) × (s : Statement) × (behind : List Statement) × (l ≡ before ++ s ∷ behind) × (q ≡ p + length before) × Takeable x s × Every (Untaken x) before

  first_found : (p q : ℕ) (l : List Statement) → first_of (choices_from p l x) ≡ some q → Found p q l
  unfolding choices_of
  first_found p q [] e = some≢none (sym e)
  first_found p q (s ∷ l) e = go (turns_by s x) refl (takers s x) e (first_found (suc p) q l)
    where
      go : (m : List (Turn Seating)) → turns_by s x ≡ m → Every (Taker s x) m → first_of (choice p m ++ choices_from (suc p) l x) ≡ some q
          → (first_of (choices_from (suc p) l x) ≡ some q → Found (suc p) q l) → Found p q (s ∷ l)
      go [] k t e h =
          let (before, f, behind, parts, at, taken, none_before) = h e in
          (s ∷ before, f, behind, ap (λ (r : List Statement). s ∷ r) parts, omega arith, taken, (no_taker s x k, none_before))
      go (u ∷ m) k t e h =
          let (i, l', may, z) = t.0 in
          ([], s, l, refl, omega (arith, same_some e), (i, l', may), tt)

pub first_exactly : (c : Card) (x : Seating) (q : ℕ) → (first_move c x ≡ some q) ↔ FirstTaken c.statements x q
unfolding first_move
first_exactly c x q = (
  λ e.
      let (before, s, behind, parts, at, taken, none_before) = first_found x 1 q c.statements e in
      record { before = before; statement = s; behind = behind; parts = parts; place = omega arith; taken = taken; none_before = none_before },
  λ f.
      ap (λ (l : List Statement). first_of (choices_from 1 l x)) f.parts
      ∙ first_is x 1 f.before f.statement f.behind f.none_before f.taken
      ∙ ap some (omega (arith, f.place)),
)

none_first : {S : Type 0} (l : List (Choice S)) → (first_of l ≡ none) ↔ (l ≡ [])
none_first [] = (λ e. refl, λ e. refl)
none_first (c ∷ l) = (λ e. some≢none e, λ e. absurd (omega (arith, ap length e)))

pub nobody_exactly : (c : Card) (x : Seating) → (first_move c x ≡ none) ↔ Stuck c x
unfolding first_move
nobody_exactly c x = (
  λ e. (nothing_taken c x).1 ((none_first (choices_from 1 c.statements x)).0 e),
  λ h. (none_first (choices_from 1 c.statements x)).1 ((nothing_taken c x).0 h),
)
