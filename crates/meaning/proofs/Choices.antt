-- Laws of choices at a state of any kind: each by induction over the statements, and for a stuck state by whether there is a choice.
-- Assumes nothing.
use Prim.Native.Nat.{ℕ, suc, ◌+◌, ◌≤◌}
use mathlib.Core.Path.{◌≡◌, refl, sym, ap, ◌∙◌}
use mathlib.Core.Logic.{◌↔◌}
use mathlib.Core.List.{List, [], ◌∷◌, ◌++◌, cons≢nil}
use native.Mathlib.Nat.{zero-add}
use native.Mathlib.Omega.{arith}
use lib.ListN.{length}
use Rattle.card.specs.Limits.{unit}
use Rattle.card.specs.Card.{Mode, nondeterministic, probabilistic}
use Rattle.card.specs.Valid.{Every}
use Rattle.meaning.specs.Sums.{or_one, sum, flat}
use Rattle.meaning.specs.Steps.{Step, Turn}
use Rattle.meaning.specs.Choices.{Choice, choice, choices_of, stay, stuck_choices, or_stay, turns_in, steps_in}
use Rattle.meaning.specs.Offers.{Offers}
use Rattle.meaning.proofs.Sums.{sum_append, every_append, every_imp}

-- ---- what a choice has

module _ {S : Type 0} where
  -- one turn at least
  abbrev pub Some : Choice S → Type 0
  Some c = 1 ≤ length c.turns

  -- turns that weigh the unit
  abbrev pub Full : Turn S → Type 0
  Full t = sum (λ (s : Step S). s.units) t ≡ unit

  -- a place among the statements
  abbrev pub Placed : Choice S → Type 0
  Placed c = 1 ≤ c.place

module _ {A S : Type 0} (turns : A → List (Turn S)) where
  -- of each statement, at any place from q on
  abbrev FromOn : (Choice S → Type 0) → ℕ → A → Type 0
  FromOn P q a = (p : ℕ) → q ≤ p → Every P (choice p (turns a))

  -- what holds of them holds of the choices
  pub choices_every : (P : Choice S → Type 0) (q : ℕ) (l : List A) → Every (FromOn P q) l → Every P (choices_of turns q l)
  unfolding choices_of
  choices_every P q [] e = tt
  choices_every P q (a ∷ l) e =
      every_append P (choice q (turns a)) (choices_of turns (suc q) l) (e.0 q (omega arith))
      (choices_every P (suc q) l (every_imp (FromOn P q) l e.1 (λ a f p h. f p (omega arith))))

  pub choices_some : (q : ℕ) (l : List A) → Every Some (choices_of turns q l)
  choices_some q l = choices_every Some q l (each l)
    where
      one : (p : ℕ) (m : List (Turn S)) → Every Some (choice p m)
      one p [] = tt
      one p (t ∷ m) = (omega arith, tt)

      each : (l : List A) → Every (FromOn Some q) l
      each [] = tt
      each (a ∷ l) = (λ p h. one p (turns a), each l)

  pub choices_placed : (l : List A) → Every Placed (choices_of turns 1 l)
  choices_placed l = choices_every Placed 1 l (each l)
    where
      one : (p : ℕ) → 1 ≤ p → (m : List (Turn S)) → Every Placed (choice p m)
      one p h [] = tt
      one p h (t ∷ m) = (h, tt)

      each : (l : List A) → Every (FromOn Placed 1) l
      each [] = tt
      each (a ∷ l) = (λ p h. one p h (turns a), each l)

  -- a sum over the turns of all choices
  pub choices_sum : (f : Turn S → ℕ) (q : ℕ) (l : List A) → sum f (turns_in (choices_of turns q l)) ≡ sum (λ a. sum f (turns a)) l
  unfolding choices_of
  choices_sum f q [] = refl
  choices_sum f q (a ∷ l) = go (turns a) (choices_sum f (suc q) l)
    where
      go : (m : List (Turn S)) → sum f (turns_in (choices_of turns (suc q) l)) ≡ sum (λ a. sum f (turns a)) l
          → sum f (turns_in (choice q m ++ choices_of turns (suc q) l)) ≡ sum f m + sum (λ a. sum f (turns a)) l
      go [] h = rw zero-add h
      go (t ∷ m) h = sum_append f (t ∷ m) _ ∙ ap (λ (r : ℕ). sum f (t ∷ m) + r) h

  -- what holds of all turns of each statement
  pub choices_turns : (P : Turn S → Type 0) (q : ℕ) (l : List A) → Every (λ a. Every P (turns a)) l → Every P (turns_in (choices_of turns q l))
  unfolding choices_of
  choices_turns P q [] e = tt
  choices_turns P q (a ∷ l) e = go (turns a) e.0 (choices_turns P (suc q) l e.1)
    where
      go : (m : List (Turn S)) → Every P m → Every P (turns_in (choices_of turns (suc q) l)) → Every P (turns_in (choice q m ++ choices_of turns (suc q) l))
      go [] f h = h
      go (t ∷ m) f h = every_append P (t ∷ m) _ f h

  -- there is no choice exactly where no statement has a turn
  pub choices_none : (q : ℕ) (l : List A) → Every (λ a. turns a ≡ []) l → choices_of turns q l ≡ []
  unfolding choices_of
  choices_none q [] e = refl
  choices_none q (a ∷ l) e = rw e.0 (choices_none (suc q) l e.1)

  pub none_chosen : (q : ℕ) (l : List A) → choices_of turns q l ≡ [] → Every (λ a. turns a ≡ []) l
  unfolding choices_of
  none_chosen q [] e = tt
  none_chosen q (a ∷ l) e = go (turns a) refl e (none_chosen (suc q) l)
    where
      go : (m : List (Turn S)) → turns a ≡ m → choice q m ++ choices_of turns (suc q) l ≡ []
          → (choices_of turns (suc q) l ≡ [] → Every (λ a. turns a ≡ []) l) → Every (λ a. turns a ≡ []) (a ∷ l)
      go [] p e h = (p, h e)
      go (t ∷ m) p e h = absurd (cons≢nil e)

-- ---- the stuck state

abbrev first_place : {S : Type 0} → List (Choice S) → ℕ
first_place [] = 0
first_place (c ∷ l) = c.place

module _ {S : Type 0} (x : S) where
  pub or_stay_law : {l : List (Choice S)} → l ≡ [] → or_stay x l ≡ stuck_choices x
  or_stay_law e = rw e

  -- elsewhere nothing is added
  pub or_taken : (l : List (Choice S)) → (l ≡ [] → ⊥) → or_stay x l ≡ l
  or_taken [] h = absurd (h refl)
  or_taken (c ∷ l) h = refl

  pub stuck_only : (l : List (Choice S)) → Every Placed l → or_stay x l ≡ stuck_choices x → l ≡ []
  stuck_only [] p e = refl
  stuck_only (c ∷ l) p e = absurd (omega (arith, p.0, ap first_place e))

  -- how many choices and how many turns
  pub or_stay_length : (l : List (Choice S)) → length (or_stay x l) ≡ or_one (length l)
  or_stay_length [] = refl
  or_stay_length (c ∷ l) = refl

  pub or_stay_turns : (l : List (Choice S)) → Every Some l → length (turns_in (or_stay x l)) ≡ or_one (length (turns_in l))
  or_stay_turns [] e = refl
  or_stay_turns (c ∷ l) e = go c.turns e.0
    where
      go : (m : List (Turn S)) → 1 ≤ length m → length (m ++ turns_in l) ≡ or_one (length (m ++ turns_in l))
      go [] h = absurd (omega arith)
      go (t ∷ m) h = refl

  -- what holds of all turns and of the stuck one
  pub or_stay_every : (P : Turn S → Type 0) (l : List (Choice S)) → P (stay x) → Every P (turns_in l) → Every P (turns_in (or_stay x l))
  or_stay_every P [] p e = (p, tt)
  or_stay_every P (c ∷ l) p e = e

  -- a step at least, where every turn weighs the unit
  pub total : (l : List (Choice S)) → Every Some l → Every Full (turns_in l) → 1 ≤ length (steps_in (or_stay x l))
  total [] e f = omega arith
  total (c ∷ l) e f = go c.turns e.0 f
    where
      step : (t : Turn S) → Full t → (r : List (Step S)) → 1 ≤ length (t ++ r)
      step [] f r = absurd (omega arith)
      step (s ∷ t) f r = omega arith

      go : (m : List (Turn S)) → 1 ≤ length m → Every Full (m ++ turns_in l) → 1 ≤ length (flat (m ++ turns_in l))
      go [] h f = absurd (omega arith)
      go (t ∷ m) h f = step t f.0 (flat (m ++ turns_in l))

-- ---- two states that offer the same

some_turn : {S : Type 0} (c : Choice S) (l : List (Choice S)) → Some c → sum (λ t. 1) (turns_in (c ∷ l)) ≡ 0 → ⊥
some_turn {S} c l s e = go c.turns s (sym (sum_append (λ t. 1) c.turns (turns_in l)) ∙ e)
  where
    go : (m : List (Turn S)) → 1 ≤ length m → sum (λ t. 1) m + sum (λ t. 1) (turns_in l) ≡ 0 → ⊥
    go [] s e = absurd (omega arith)
    go (t ∷ m) s e = absurd (omega arith)

module _ {S T : Type 0} (h : S → T) where
  -- nothing is offered here exactly where nothing is offered there
  pub both_none : (mode : Mode) (l : List (Choice S)) (m : List (Choice T)) → Every Some l → Every Some m → Offers mode h l m → (l ≡ []) ↔ (m ≡ [])
  both_none mode [] [] p q e = (λ z. refl, λ z. refl)
  both_none mode (a ∷ l) (b ∷ m) p q e = (λ z. absurd (cons≢nil z), λ z. absurd (cons≢nil z))
  both_none probabilistic [] (b ∷ m) p q e = absurd (some_turn b m q.0 (sym (e (λ t. 1))))
  both_none probabilistic (a ∷ l) [] p q e = absurd (some_turn a l p.0 (e (λ t. 1)))
  both_none nondeterministic [] (b ∷ m) p q e = absurd e
  both_none nondeterministic (a ∷ l) [] p q e = absurd e

  -- and then the stuck step is the same
  pub stuck_too : (mode : Mode) (x : S) (l : List (Choice S)) (m : List (Choice T)) → Every Some l → Every Some m → Offers mode h l m
      → Offers mode h (or_stay x l) (or_stay (h x) m)
  stuck_too probabilistic x [] [] p q e = λ f. refl
  stuck_too nondeterministic x [] [] p q e = (record { place = refl; turn = stay (h x); only = refl; some = omega arith; each = (refl, tt) }, tt)
  stuck_too mode x (a ∷ l) (b ∷ m) p q e = e
  stuck_too mode x [] (b ∷ m) p q e = absurd (cons≢nil ((both_none mode [] (b ∷ m) p q e).0 refl))
  stuck_too mode x (a ∷ l) [] p q e = absurd (cons≢nil ((both_none mode (a ∷ l) [] p q e).1 refl))
