-- Where no seat may take any statement, and only there, the one choice is the stuck one, at place 0: a statement without takers has no turn, and
-- one with takers has one. By counts the same, with reduced statements. Assumes nothing.
use Prim.Native.Nat.{ℕ, zero, suc, ◌<◌}
use mathlib.Core.Path.{◌≡◌, refl, sym, ◌∙◌}
use mathlib.Core.Logic.{◌↔◌}
use mathlib.Core.Bool.{Bool, true, false, true≢false}
use mathlib.Core.List.{List, [], ◌∷◌, ◌++◌, map, cons≢nil}
use native.Mathlib.Nat.{not-suc-le-zero, le_of_suc-le-suc}
use Rattle.card.specs.Text.{when◌then◌else◌}
use lib.ListN.{length}
use Rattle.card.specs.Valid.{Every}
use Rattle.card.specs.Card.{Statement, Card}
use Rattle.meaning.specs.Sums.{upto, those}
use Rattle.meaning.specs.Position.{Position}
use Rattle.meaning.specs.Steps.{Turn}
use Rattle.meaning.specs.Choices.{choices_of, stay, stuck_choices}
use Rattle.meaning.specs.Seats.{Seating, may_take, turn, turns_by, choices_from, choices, turns, steps, Stuck}
use Rattle.meaning.specs.Reduced.{Reduced, Program, can_take, reduced_turn, reduced_turns_by, reduced_choices, reduced_turns, reduced_steps, StuckAt}
use Rattle.meaning.proofs.Sums.{every_imp}
use Rattle.meaning.proofs.Choices.{choices_placed, choices_none, none_chosen, or_stay_law, or_taken, stuck_only}
use Rattle.meaning.proofs.Turns.{Taker, takers}

-- ---- one statement

none_below : {A : Type 0} (p : A → Bool) (n : ℕ) (f : ℕ → A) → those p (upto n f) ≡ [] → (i : ℕ) → i < n → p (f i) ≡ false
none_below p zero f e i l = absurd (not-suc-le-zero l)
none_below p (suc n) f e zero l = go (p (f zero)) refl e
  where
    go : (b : Bool) → p (f zero) ≡ b → (when b then f zero ∷ [] else []) ++ those p (upto n (λ j. f (suc j))) ≡ [] → p (f zero) ≡ false
    go true h e = absurd (cons≢nil e)
    go false h e = h
none_below p (suc n) f e (suc i) l = go (p (f zero)) e (λ r. none_below p n (λ j. f (suc j)) r i (le_of_suc-le-suc l))
  where
    go : (b : Bool) → (when b then f zero ∷ [] else []) ++ those p (upto n (λ j. f (suc j))) ≡ []
        → (those p (upto n (λ j. f (suc j))) ≡ [] → p (f (suc i)) ≡ false) → p (f (suc i)) ≡ false
    go true e h = absurd (cons≢nil e)
    go false e h = h e

map_none : {A B : Type 0} (f : A → B) (l : List A) → map f l ≡ [] → l ≡ []
map_none f [] e = refl
map_none f (a ∷ l) e = absurd (cons≢nil e)

pub no_taker : (s : Statement) (x : Seating) → turns_by s x ≡ [] → (i : ℕ) → i < length x.each → may_take s x i ≡ false
unfolding turns_by
no_taker s x e = none_below (may_take s x) (length x.each) (λ i. i) (map_none (turn s x) _ e)

no_turn : (s : Statement) (x : Seating) → ((i : ℕ) → i < length x.each → may_take s x i ≡ false) → turns_by s x ≡ []
no_turn s x h = go (turns_by s x) (takers s x)
  where
    go : (m : List (Turn Seating)) → Every (Taker s x) m → m ≡ []
    go [] e = refl
    go (t ∷ m) e = let (i, l, may, p) = e.0 in absurd (true≢false (sym may ∙ h i l))

-- ---- all statements

module _ (x : Seating) where
  to : (l : List Statement) → Every (λ s. (i : ℕ) → i < length x.each → may_take s x i ≡ false) l → Every (λ s. turns_by s x ≡ []) l
  to l h = every_imp _ l h (λ s. no_turn s x)

  from : (l : List Statement) → Every (λ s. turns_by s x ≡ []) l → Every (λ s. (i : ℕ) → i < length x.each → may_take s x i ≡ false) l
  from l h = every_imp _ l h (λ s. no_taker s x)

module _ (c : Card) (x : Seating) where
  pub nothing_taken : Stuck c x ↔ (choices_from 1 c.statements x ≡ [])
  nothing_taken = (
    λ h. choices_none (λ s. turns_by s x) 1 c.statements (to x c.statements h),
    λ e. from x c.statements (none_chosen (λ s. turns_by s x) 1 c.statements e),
  )

  -- the stuck choice is there exactly where the seating is stuck
  pub stuck : Stuck c x ↔ (choices c x ≡ stuck_choices x)
  unfolding choices
  stuck = (
    λ h. or_stay_law x (nothing_taken.0 h),
    λ e. nothing_taken.1 (stuck_only x (choices_from 1 c.statements x) (choices_placed (λ s. turns_by s x) c.statements) e),
  )

  -- elsewhere the choices are the statements that can be taken
  pub moving : (Stuck c x → ⊥) → choices c x ≡ choices_from 1 c.statements x
  unfolding choices
  moving h = or_taken x (choices_from 1 c.statements x) (λ e. h (nothing_taken.1 e))

  pub stuck_step : Stuck c x → steps c x ≡ stay x
  unfolding steps turns
  stuck_step h = rw (stuck.0 h)

-- ---- by counts

no_copy : (v : Position) (r : Reduced) → (can_take v r ≡ false) ↔ (reduced_turns_by v r ≡ [])
unfolding reduced_turns_by
no_copy v r = go (can_take v r)
  where
    go : (b : Bool) → (b ≡ false) ↔ ((when b then reduced_turn v r ∷ [] else []) ≡ [])
    go true = (λ e. absurd (true≢false e), λ e. absurd (cons≢nil e))
    go false = (λ e. refl, λ e. refl)

module _ (p : Program) (v : Position) where
  pub none_taken_at : StuckAt p v ↔ (choices_of (reduced_turns_by v) 1 p.statements ≡ [])
  none_taken_at = (
    λ h. choices_none (reduced_turns_by v) 1 p.statements (every_imp _ p.statements h (λ r. (no_copy v r).0)),
    λ e. every_imp _ p.statements (none_chosen (reduced_turns_by v) 1 p.statements e) (λ r. (no_copy v r).1),
  )

  pub stuck_at : StuckAt p v ↔ (reduced_choices p v ≡ stuck_choices v)
  unfolding reduced_choices
  stuck_at = (
    λ h. or_stay_law v (none_taken_at.0 h),
    λ e. none_taken_at.1 (stuck_only v (choices_of (reduced_turns_by v) 1 p.statements) (choices_placed (reduced_turns_by v) p.statements) e),
  )

  pub moving_at : (StuckAt p v → ⊥) → reduced_choices p v ≡ choices_of (reduced_turns_by v) 1 p.statements
  unfolding reduced_choices
  moving_at h = or_taken v (choices_of (reduced_turns_by v) 1 p.statements) (λ e. h (none_taken_at.1 e))

  pub stuck_step_at : StuckAt p v → reduced_steps p v ≡ stay v
  unfolding reduced_steps reduced_turns
  stuck_step_at h = rw (stuck_at.0 h)
