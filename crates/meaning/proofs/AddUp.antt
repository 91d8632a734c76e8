-- The weights add up: each step of a seat is one that changes nothing or one of the moves between two states, so the lines of a block
-- hold each step's units once, at what the shared number becomes (an exchange of sums); the units of a turn add up to the unit, and the stuck step weighs it. Assumes nothing.
use Prim.Native.Nat.{ℕ, zero, suc, ◌+◌, ◌*◌, ◌≤◌, ◌<◌}
use mathlib.Core.Path.{◌≡◌, refl, sym, ap, ap₂, ◌∙◌}
use mathlib.Core.Bool.{Bool, true, false, not, ◌&&◌}
use mathlib.Core.List.{List, [], ◌∷◌, map}
use mathlib.Core.Option.{Option, none, some}
use native.Mathlib.Omega.{arith}
use borrow.Author.Tests.{eqb-true, eqb-false, eq-eqb, ne_eqb, lt-ltb}
use lib.Dec.{eqb, ltb}
use lib.ListN.{length, set}
use Rattle.card.specs.Limits.{unit}
use Rattle.card.specs.Text.{same, when◌then◌else◌}
use Rattle.card.specs.Valid.{Every, values_of, ValidSet, ValidBranch, ValidStatement, ValidCard}
use Rattle.card.specs.Card.{Mode, nondeterministic, probabilistic, Branch, Statement, Shared, Card}
use Rattle.meaning.specs.Sums.{gate, sum, upto, flat}
use Rattle.meaning.specs.Position.{position, shared_values, set_to}
use Rattle.meaning.specs.Steps.{Step, Turn, weight}
use Rattle.meaning.specs.Choices.{Choice, choice, choices_of, stay, or_stay}
use Rattle.meaning.specs.Seats.{Seating, ValidSeating, state, turn, turns_by, choices_from, choices, turns, steps}
use Rattle.meaning.specs.Panel.{Stay, Move, stay_line, move_line, moves_from, block, goes, stays_with, goes_with, block_of, one_of, enabled, blocks, panel, block_total, due}
use Rattle.meaning.proofs.Sums.{gate_and, gate_zero, sum_every, sum_append, sum_flat, sum_add, sum_gate, sum_one, sum_times}
use Rattle.meaning.proofs.Sums.{every_append, every_flat, every_map, every_imp, sum_below, below_cong, below_zero, below_gate, below_exchange, below_pick}
use Rattle.meaning.proofs.Counting.{Within, state_within}
use Rattle.meaning.proofs.Turns.{Taker, takers}
use Rattle.meaning.proofs.Total.{turn_full}
use Rattle.meaning.proofs.Panel.{stays_set, goes_set, goes_self}
use Rattle.meaning.proofs.Choices.{Full}
use Rattle.meaning.proofs.Vectors.{same_self}

-- ---- the lines of a block

abbrev move_weight : Move → ℕ
move_weight m = m.weight

abbrev stay_weight : Stay → ℕ
stay_weight s = s.weight

still_weight : (h w : ℕ) → sum stay_weight (stay_line h w) ≡ w
still_weight h zero = refl
still_weight h (suc w) = rw (lt-ltb 0 (suc w) (omega arith)) (omega arith)

line_weight : (a b h w : ℕ) → sum move_weight (move_line a b h w) ≡ gate (not (eqb a b)) w
line_weight a b h zero = go (not (eqb a b))
  where
    go : (t : Bool) → sum move_weight (when t && ltb 0 0 then record { old = a; new = b; weight = 0; shared = h } ∷ [] else []) ≡ gate t 0
    go true = refl
    go false = refl
line_weight a b h (suc w) = rw (lt-ltb 0 (suc w) (omega arith)) (go (not (eqb a b)))
  where
    go : (t : Bool) → sum move_weight (when t && true then record { old = a; new = b; weight = suc w; shared = h } ∷ [] else []) ≡ gate t (suc w)
    go true = omega arith
    go false = refl

lines_weight : {A : Type 0} (f : A → ℕ) (n : ℕ) (g : ℕ → List A) → sum f (flat (upto n g)) ≡ sum_below n (λ a. sum f (g a))
lines_weight f zero g = refl
lines_weight f (suc n) g = sum_append f (g zero) (flat (upto n (λ a. g (suc a)))) ∙ ap (λ (s : ℕ). sum f (g zero) + s) (lines_weight f n (λ a. g (suc a)))

block_lines : (k values : ℕ) (q : Option ℕ) (st : ℕ → ℕ) (w : ℕ → ℕ → ℕ → ℕ)
    → block_total (block k values q st w)
    ≡ sum_below values st + sum_below (suc k) (λ a. sum_below (suc k) (λ b. sum_below values (λ h. gate (not (eqb a b)) (w a b h))))
unfolding block_total block
block_lines k values q st w = ap₂ ◌+◌
    (lines_weight stay_weight values (λ h. stay_line h (st h)) ∙ below_cong values _ st (λ h l. still_weight h (st h)))
    (lines_weight move_weight (suc k) (λ a. moves_from k values a (w a))
    ∙ below_cong (suc k) _ (λ a. sum_below (suc k) (λ b. sum_below values (λ h. gate (not (eqb a b)) (w a b h)))) λ a l. lines_weight move_weight (suc k) (λ b. flat (upto values (λ h. move_line a b h (w a b h))))
    ∙ below_cong (suc k) _ (λ b. sum_below values (λ h. gate (not (eqb a b)) (w a b h))) λ b m. lines_weight move_weight values (λ h. move_line a b h (w a b h))
    ∙ below_cong values _ (λ h. gate (not (eqb a b)) (w a b h)) λ h e. line_weight a b h (w a b h))

-- ---- one step

-- a step from x by which one seat goes from a state up to k to another, and the shared number becomes one of its values
pub record Near (k values : ℕ) (x : Seating) (s : Step Seating) : Type 0 where
  pub seat : ℕ
  pub to : ℕ
  pub there : seat < length x.each
  pub old : state x.each seat ≤ k
  pub new : to ≤ k
  pub next : s.next.each ≡ set x.each seat to
  pub shared : s.next.shared < values

-- what it adds to the lines of no change, and to those from a to b
abbrev stayed : Seating → ℕ → Step Seating → ℕ
stayed x h s = gate (stays_with x h s.next) s.units

abbrev line : Seating → ℕ → ℕ → ℕ → Step Seating → ℕ
line x a b h s = gate (not (eqb a b)) (gate (goes_with x a b h s.next) s.units)

-- to all of them
abbrev stayed_all : ℕ → Seating → Step Seating → ℕ
stayed_all values x s = sum_below values (λ h. stayed x h s)

abbrev line_all : ℕ → Seating → ℕ → ℕ → Step Seating → ℕ
line_all values x a b s = sum_below values (λ h. line x a b h s)

abbrev moved : ℕ → ℕ → Seating → Step Seating → ℕ
moved n values x s = sum_below n (λ a. sum_below n (λ b. line_all values x a b s))

-- whatever becomes of the shared number, there is a line for it
module _ (values g : ℕ) (l : g < values) where
  picked : (t : Bool) (u : ℕ) → sum_below values (λ h. gate (t && eqb g h) u) ≡ gate t u
  picked t u = below_cong values _ (λ h. gate t (gate (eqb g h) u)) (λ h _. gate_and t (eqb g h) u) ∙ sym (below_gate t values (λ h. gate (eqb g h) u)) ∙ ap (gate t) (below_pick values g (λ h. u) l)

  picked_line : (e t : Bool) (u : ℕ) → sum_below values (λ h. gate e (gate (t && eqb g h) u)) ≡ gate e (gate t u)
  picked_line e t u = sym (below_gate e values (λ h. gate (t && eqb g h) u)) ∙ ap (gate e) (picked t u)

either : (t j u : ℕ) → gate (eqb t j) u + gate (not (eqb j t)) u ≡ u
either t j u = go (eqb j t) refl
  where
    go : (b : Bool) → eqb j t ≡ b → gate (eqb t j) u + gate (not b) u ≡ u
    go true e = rw (eq-eqb t j (sym (eqb-true j t e))) (omega arith)
    go false e = rw (ne_eqb t j (λ p. eqb-false j t e (sym p))) (omega arith)

module _ (n : ℕ) (x : List ℕ) (i t : ℕ) (l : i < length x) (l₁ : state x i < n) (l₂ : t < n) (u : ℕ) where
  one_move : (a b : ℕ) → gate (not (eqb a b)) (gate (goes a b x (set x i t)) u) ≡ gate (eqb (state x i) a) (gate (eqb t b) (gate (not (eqb a b)) u))
  one_move a b = go (eqb a b) refl
    where
      go : (e : Bool) → eqb a b ≡ e → gate (not e) (gate (goes a b x (set x i t)) u) ≡ gate (eqb (state x i) a) (gate (eqb t b) (gate (not e) u))
      go true e = rw (gate_zero (eqb t b)) (sym (gate_zero (eqb (state x i) a)))
      go false e = rw (goes_set a b (eqb-false a b e) x i t l) (gate_and (eqb (state x i) a) (eqb t b) u)

  moves_once : sum_below n (λ a. sum_below n (λ b. gate (not (eqb a b)) (gate (goes a b x (set x i t)) u))) ≡ gate (not (eqb (state x i) t)) u
  moves_once =
      below_cong n _ (λ a. gate (eqb (state x i) a) (gate (not (eqb a t)) u)) (λ a _. below_cong n _ (λ b. gate (eqb (state x i) a) (gate (eqb t b) (gate (not (eqb a b)) u))) (λ b _. one_move a b)
      ∙ sym (below_gate (eqb (state x i) a) n (λ b. gate (eqb t b) (gate (not (eqb a b)) u)))
      ∙ ap (gate (eqb (state x i) a)) (below_pick n t (λ b. gate (not (eqb a b)) u) l₂))
      ∙ below_pick n (state x i) (λ a. gate (not (eqb a t)) u) l₁

-- a step's units are in the lines once
abbrev Once : ℕ → ℕ → Seating → Step Seating → Type 0
Once k values x s = stayed_all values x s + moved (suc k) values x s ≡ s.units

-- over all that the shared number may become, it is the seats alone that tell the lines apart
module _ (k values : ℕ) (x : Seating) (s : Step Seating) (there : s.next.shared < values) where
  stayed_once : stayed_all values x s ≡ gate (same s.next.each x.each) s.units
  stayed_once = picked values s.next.shared there (same s.next.each x.each) s.units

  moved_once : moved (suc k) values x s ≡ sum_below (suc k) (λ a. sum_below (suc k) (λ b. gate (not (eqb a b)) (gate (goes a b x.each s.next.each) s.units)))
  moved_once =
      below_cong (suc k) _ _ (λ a _. below_cong (suc k) _ _ (λ b _. picked_line values s.next.shared there (not (eqb a b)) (goes a b x.each s.next.each) s.units))

step_once : (k values : ℕ) (x : Seating) (s : Step Seating) → Near k values x s → Once k values x s
step_once k values x s near =
    let j = state x.each near.seat in
    let l₁ : j < suc k = omega arith in
    let l₂ : near.to < suc k = omega arith in
    ap₂ ◌+◌
    (stayed_once k values x s near.shared
    ∙ ap (λ (y : List ℕ). gate (same y x.each) s.units) near.next
    ∙ ap (λ (t : Bool). gate t s.units) (stays_set x.each near.seat near.to near.there))
    (moved_once k values x s near.shared
    ∙ ap (λ (y : List ℕ). sum_below (suc k) (λ a. sum_below (suc k) (λ b. gate (not (eqb a b)) (gate (goes a b x.each y) s.units)))) near.next
    ∙ moves_once (suc k) x.each near.seat near.to near.there l₁ l₂ s.units)
    ∙ either near.to j s.units

-- a step that changes nothing
still_once : (k values : ℕ) (x : Seating) (u : ℕ) → x.shared < values → Once k values x (record { units = u; next = x })
still_once k values x u there =
    ap₂ ◌+◌
    (stayed_once k values x (record { units = u; next = x }) there ∙ ap (λ (t : Bool). gate t u) (same_self x.each))
    (moved_once k values x (record { units = u; next = x }) there
    ∙ below_cong (suc k) _ (λ a. 0) (λ a _. below_cong (suc k) _ (λ b. 0) (λ b _. none a b) ∙ below_zero (suc k)) ∙ below_zero (suc k))
    ∙ omega arith
  where
    none : (a b : ℕ) → gate (not (eqb a b)) (gate (goes a b x.each x.each) u) ≡ 0
    none a b = go (eqb a b) refl
      where
        go : (e : Bool) → eqb a b ≡ e → gate (not e) (gate (goes a b x.each x.each) u) ≡ 0
        go true e = refl
        go false e = rw (goes_self a b (eqb-false a b e) x.each)

-- ---- a block of steps

abbrev units : Step Seating → ℕ
units s = s.units

pub block_total_law : (k values : ℕ) (q : Option ℕ) (x : Seating) (l : Turn Seating) → Every (Once k values x) l → block_total (block_of k values q x l) ≡ sum units l
unfolding block_of weight
block_total_law k values q x l e =
    let n = suc k in
    block_lines k values q _ (λ a b h. weight (goes_with x a b h) l)
    ∙ ap₂ ◌+◌
    (below_exchange values (λ h s. stayed x h s) l)
    (below_cong n _ (λ a. sum (λ s. sum_below n (λ b. line_all values x a b s)) l) (λ a _. row a) ∙ below_exchange n (λ a s. sum_below n (λ b. line_all values x a b s)) l)
    ∙ sym (sum_add (stayed_all values x) (moved n values x) l)
    ∙ sum_every l e (λ s h. h)
  where
    place : (a b : ℕ) → sum_below values (λ h. gate (not (eqb a b)) (weight (goes_with x a b h) l)) ≡ sum (line_all values x a b) l
    place a b =
        below_cong values _ (λ h. sum (line x a b h) l) (λ h _. sum_gate (not (eqb a b)) (λ (s : Step Seating). gate (goes_with x a b h s.next) s.units) l)
        ∙ below_exchange values (λ h s. line x a b h s) l

    row : (a : ℕ) → sum_below (suc k) (λ b. sum_below values (λ h. gate (not (eqb a b)) (weight (goes_with x a b h) l))) ≡ sum (λ s. sum_below (suc k) (λ b. line_all values x a b s)) l
    row a = below_cong (suc k) _ (λ b. sum (line_all values x a b) l) (λ b _. place a b) ∙ below_exchange (suc k) (λ b s. line_all values x a b s) l

-- ---- the turns of a valid card

abbrev pub GoodTurn : ℕ → ℕ → Seating → Turn Seating → Type 0
GoodTurn k values x t = Every (Once k values x) t × Full t

still_good : (k values : ℕ) (x : Seating) → x.shared < values → GoodTurn k values x (stay x)
still_good k values x there = ((still_once k values x unit there, tt), omega arith)

-- what is set is one of the values, and so is what stays
set_there : (s : Option Shared) (g : ℕ) → g < shared_values s → (b : Option ℕ) → ValidSet (values_of s) b → set_to g b < shared_values s
set_there s g l none v = l
set_there none g l (some a) v = absurd (omega arith)
set_there (some s) g l (some a) v = v

module _ (n k : ℕ) (shared : Option Shared) (x : Seating) (w : Within k x.each) (there : x.shared < shared_values shared) where
  abbrev values : ℕ
  values = shared_values shared

  good_turn : (s : Statement) → ValidStatement n k (values_of shared) s → (i : ℕ) → i < length x.each → GoodTurn k values x (turn s x i)
  unfolding turn
  good_turn s v i l = (
    every_map (Once k values x) _ s.branches (every_imp (ValidBranch k (values_of shared)) s.branches v.branches (λ b u. step_once k values x _ (near b u))),
    turn_full s v x i,
  )
    where
      near : (b : Branch) → ValidBranch k (values_of shared) b → Near k values x (record { units = b.units; next = position (set x.each i b.end) (set_to x.shared b.sets) })
      near b u = record {
        seat = i;
        to = b.end;
        there = l;
        old = state_within k x.each w i l;
        new = u.end;
        next = refl;
        shared = set_there shared x.shared there b.sets u.sets;
      }

  good_turns : (s : Statement) → ValidStatement n k (values_of shared) s → Every (GoodTurn k values x) (turns_by s x)
  good_turns s v = every_imp (Taker s x) (turns_by s x) (takers s x) (λ t m. let (i, l, may, e) = m in rw e (good_turn s v i l))

  -- all of a choice's turns, and the one that is shown
  abbrev GoodChoice : Choice Seating → Type 0
  GoodChoice c = Every (GoodTurn k values x) c.turns × GoodTurn k values x (one_of c.turns)

  good_choice : (q : ℕ) (m : List (Turn Seating)) → Every (GoodTurn k values x) m → Every GoodChoice (choice q m)
  good_choice q [] e = tt
  good_choice q (t ∷ m) e = ((e, e.0), tt)

  good_choices : (q : ℕ) (l : List Statement) → Every (ValidStatement n k (values_of shared)) l → Every GoodChoice (choices_from q l x)
  unfolding choices_of
  good_choices q [] v = tt
  good_choices q (s ∷ l) v =
      every_append GoodChoice (choice q (turns_by s x)) (choices_from (suc q) l x)
      (good_choice q (turns_by s x) (good_turns s v.0))
      (good_choices (suc q) l v.1)

-- ---- the panel of a valid card

module _ (c : Card) (valid : ValidCard c) (x : Seating) (ok : ValidSeating c x) where
  abbrev few : ℕ
  few = shared_values c.shared

  all_good : Every (GoodChoice c.n c.k c.shared x ok.states ok.shared) (choices c x)
  unfolding choices
  all_good = go (choices_from 1 c.statements x) (good_choices c.n c.k c.shared x ok.states ok.shared 1 c.statements valid.statements)
    where
      go : (l : List (Choice Seating)) → Every (GoodChoice c.n c.k c.shared x ok.states ok.shared) l → Every (GoodChoice c.n c.k c.shared x ok.states ok.shared) (or_stay x l)
      go [] e = (((still_good c.k few x ok.shared, tt), still_good c.k few x ok.shared), tt)
      go (q ∷ l) e = e

  turns_good : Every (GoodTurn c.k few x) (turns c x)
  unfolding turns
  turns_good = every_flat (GoodTurn c.k few x) (map (λ (q : Choice Seating). q.turns) (choices c x))
      (every_map (Every (GoodTurn c.k few x)) (λ (q : Choice Seating). q.turns) (choices c x) (every_imp _ (choices c x) all_good (λ q g. g.0)))

  -- the units of all steps
  pub steps_units : sum units (steps c x) ≡ length (turns c x) * unit
  unfolding steps
  steps_units =
      sum_flat units (turns c x)
      ∙ sum_every (turns c x) turns_good (λ t g. g.1 ∙ omega arith)
      ∙ sum_times (λ t. 1) unit (turns c x)
      ∙ ap (λ (m : ℕ). m * unit) (sum_one (turns c x))

  steps_once : Every (Once c.k few x) (steps c x)
  unfolding steps
  steps_once = every_flat (Once c.k few x) (turns c x) (every_imp (GoodTurn c.k few x) (turns c x) turns_good (λ t g. g.0))

  mode_adds_up : (m : Mode) → Every (λ b. block_total b ≡ due m (enabled m c x)) (blocks m c x)
  mode_adds_up probabilistic = (block_total_law c.k few none x (steps c x) steps_once ∙ steps_units, tt)
  mode_adds_up nondeterministic = every_map (λ b. block_total b ≡ unit) _ (choices c x)
      (every_imp _ (choices c x) all_good (λ q g. block_total_law c.k few (some q.place) x (one_of q.turns) g.1.0 ∙ g.1.1))

  pub adds_up : Every (λ b. block_total b ≡ due c.mode (panel c x).enabled) (panel c x).blocks
  unfolding panel
  adds_up = mode_adds_up c.mode
