-- The panel by seats is the panel by counts: where one seat goes from j to t, the seating stays the same exactly if t is j, and otherwise
-- goes from a to b exactly if these are j and t. So each seat that takes a statement weighs the same, and there are as many as the counts
-- say (Turns). What the shared number becomes is told by the branch alone. Where nothing can be taken the one step shows no move. Assumes nothing.
use Prim.Native.Nat.{ℕ, zero, suc, ◌+◌, ◌*◌, ◌<◌}
use mathlib.Core.Path.{◌≡◌, refl, sym, ap, ap₂, ◌∙◌}
use mathlib.Core.Logic.{◌≢◌}
use mathlib.Core.Bool.{Bool, true, false, not, ◌&&◌, and-true, or-false}
use mathlib.Core.List.{List, [], ◌∷◌, ◌++◌, map, append-nil}
use mathlib.Core.Option.{Option, none, some}
use native.Mathlib.Nat.{not-suc-le-zero, le_of_suc-le-suc}
use native.Mathlib.Omega.{arith}
use borrow.Author.Tests.{eqb-true, eqb-false, eq-eqb, ne_eqb, lt-ltb}
use lib.Dec.{eqb, ltb, eqb-zero-suc, eqb-suc-suc, eqb-suc-zero}
use lib.ListN.{length, set, length-map}
use Rattle.card.specs.Limits.{unit}
use Rattle.card.specs.Text.{same, when◌then◌else◌}
use Rattle.card.specs.Valid.{Every}
use Rattle.card.specs.Card.{Mode, nondeterministic, probabilistic, Branch, Statement, Card}
use Rattle.meaning.specs.Sums.{gate, or_one, sum, upto, flat}
use Rattle.meaning.specs.Position.{Position, shared_values, set_to}
use Rattle.meaning.specs.Steps.{Turn, weight}
use Rattle.meaning.specs.Choices.{Choice, choice, choices_of, stay, or_stay, turns_in, steps_in}
use Rattle.meaning.specs.Seats.{Seating, ValidSeating, state, counts, counted, turn, turns_by, choices_from, choices, turns, steps, Stuck}
use Rattle.meaning.specs.Panel.{Stay, Move, Block, shared_shown, stay_line, move_line, block, goes, stays_with, goes_with, block_of, one_of, enabled, blocks, panel}
use Rattle.meaning.specs.ByCounts.{able, units_into, stay_of, move_of, all_able, all_stay, all_move, choice_blocks}
use Rattle.meaning.specs.ByCounts.{taken_blocks, count_taken, stuck_block, or_stuck, count_blocks, count_enabled, count_panel}
use Rattle.meaning.proofs.Sums.{gate_and, sum_cong, sum_flat, sum_gate, sum_one, sum_map, map_append}
use Rattle.meaning.proofs.Choices.{Some, choices_some, choices_sum, or_stay_length, or_stay_turns}
use Rattle.meaning.proofs.Vectors.{same_self}
use Rattle.meaning.proofs.Stuck.{stuck}
use Rattle.meaning.proofs.Counting.{Within}
use Rattle.meaning.proofs.Turns.{takes, turns_sum, turns_length, Taker, takers}

-- ---- one seat goes to t

pub stays_set : (x : List ℕ) (i t : ℕ) → i < length x → same (set x i t) x ≡ eqb t (state x i)
stays_set [] i t h = absurd (not-suc-le-zero h)
stays_set (a ∷ x) zero t h = rw (same_self x) (and-true (eqb t a))
stays_set (a ∷ x) (suc i) t h = rw (eq-eqb a a refl) (stays_set x i t (le_of_suc-le-suc h))

module _ (a b : ℕ) (ne : a ≢ b) where
  not_both : (j : ℕ) → (eqb j a && eqb j b) ≡ false
  not_both j = go (eqb j a) refl
    where
      go : (e : Bool) → eqb j a ≡ e → (e && eqb j b) ≡ false
      go true e = ne_eqb j b (λ p. ne (sym (eqb-true j a e) ∙ p))
      go false e = refl

  pub goes_self : (x : List ℕ) → goes a b x x ≡ false
  goes_self [] = refl
  goes_self (j ∷ x) = rw (not_both j) (goes_self x)

  pub goes_set : (x : List ℕ) (i t : ℕ) → i < length x → goes a b x (set x i t) ≡ (eqb (state x i) a && eqb t b)
  goes_set [] i t h = absurd (not-suc-le-zero h)
  goes_set (j ∷ x) zero t h = rw (goes_self x) (or-false _)
  goes_set (j ∷ x) (suc i) t h = rw (not_both j) (goes_set x i t (le_of_suc-le-suc h))

-- ---- a block

line_cong : (a b h v w : ℕ) → (a ≢ b → v ≡ w) → move_line a b h v ≡ move_line a b h w
line_cong a b h v w e = go (eqb a b) refl
  where
    go : (t : Bool) → eqb a b ≡ t → move_line a b h v ≡ move_line a b h w
    go true p = rw p
    go false p = ap (move_line a b h) (e (eqb-false a b p))

block_cong : (k values : ℕ) (q : Option ℕ) {u v : ℕ → ℕ} {f g : ℕ → ℕ → ℕ → ℕ} → ((h : ℕ) → u h ≡ v h) → ((a b h : ℕ) → a ≢ b → f a b h ≡ g a b h)
    → block k values q u f ≡ block k values q v g
unfolding block
block_cong k values q {u} {v} {f} {g} e d =
    let lines : ◌≡◌ {A = ℕ → ℕ → ℕ → List Move} (λ a b h. move_line a b h (f a b h)) (λ a b h. move_line a b h (g a b h)) = λ r a b h. line_cong a b h (f a b h) (g a b h) (d a b h) r in
    λ r. record {
      choice = q;
      stays = flat (upto values (λ h. stay_line h (e h r)));
      moves = flat (upto (suc k) (λ a. flat (upto (suc k) (λ b. flat (upto values (lines r a b))))));
    }

-- lists that are all empty
pub flat_empty : {A : Type 0} (n : ℕ) (f : ℕ → List A) → ((i : ℕ) → f i ≡ []) → flat (upto n f) ≡ []
flat_empty zero f h = refl
flat_empty (suc n) f h = rw (h 0) (flat_empty n (λ i. f (suc i)) (λ i. h (suc i)))

pub no_line : (a b h w : ℕ) → w ≡ 0 → move_line a b h w ≡ []
no_line a b h w e = rw e (go (not (eqb a b)) (record { old = a; new = b; weight = 0; shared = h } ∷ []))
  where
    go : (t : Bool) (l : List Move) → (when t && false then l else []) ≡ []
    go true l = refl
    go false l = refl

-- only one place of a list of lines has a weight
pub one_line : {A : Type 0} (n g w : ℕ) (f : ℕ → ℕ → List A) → ((h : ℕ) → f h 0 ≡ []) → g < n → flat (upto n (λ h. f h (gate (eqb g h) w))) ≡ f g w
one_line zero g w f e l = absurd (not-suc-le-zero l)
one_line (suc n) zero w f e l = simp eqb-zero-suc (ap (λ r. f 0 w ++ r) (flat_empty n (λ h. f (suc h) 0) (λ h. e (suc h))) ∙ append-nil (f 0 w))
one_line (suc n) (suc g) w f e l = simp (eqb-suc-suc, eqb-suc-zero) (rw (e 0) (one_line n g w (λ h. f (suc h)) (λ h. e (suc h)) (le_of_suc-le-suc l)))

-- where nothing moves
pub no_moves : (k values : ℕ) (q : Option ℕ) {u v : ℕ → ℕ} {f : ℕ → ℕ → ℕ → ℕ} → ((h : ℕ) → u h ≡ v h) → ((a b h : ℕ) → a ≢ b → f a b h ≡ 0)
    → block k values q u f ≡ record { choice = q; stays = flat (upto values (λ h. stay_line h (v h))); moves = [] }
unfolding block
no_moves k values q {u} {v} {f} e d =
    block_cong k values q {f = f} {g = λ a b h. 0} e d
    ∙ ap (λ (l : List Move). record { choice = q; stays = flat (upto values (λ h. stay_line h (v h))); moves = l })
    (flat_empty (suc k) _ (λ a. flat_empty (suc k) _ (λ b. flat_empty values _ (λ h. no_line a b h 0 refl))))

-- ---- the stuck step

-- one line of no change, of the whole unit
pub still_line : (values g : ℕ) → g < values → flat (upto values (λ h. stay_line h (gate (eqb g h) unit))) ≡ record { weight = unit; shared = g } ∷ []
still_line values g l = one_line values g unit stay_line (λ h. refl) l

stuck_shown : (k values : ℕ) (q : Option ℕ) (x : Seating) → x.shared < values
    → block_of k values q x (stay x) ≡ record { choice = q; stays = record { weight = unit; shared = x.shared } ∷ []; moves = [] }
unfolding block_of weight
stuck_shown k values q x l =
    let still : (h : ℕ) → weight (stays_with x h) (stay x) ≡ gate (eqb x.shared h) unit = λ h. rw (same_self x.each) (omega arith) in
    no_moves k values q {f = λ a b h. weight (goes_with x a b h) (stay x)} still (λ a b h ne. rw (goes_self a b ne x.each))
    ∙ ap (λ (l : List Stay). record { choice = q; stays = l; moves = [] }) (still_line values x.shared l)

-- ---- one seat's turn

and_assoc : (a b c : Bool) → ((a && b) && c) ≡ (a && (b && c))
and_assoc true b c = refl
and_assoc false b c = refl

module _ (s : Statement) (x : Seating) (i : ℕ) (l : i < length x.each) (own : state x.each i ≡ s.own) where
  seat_stay : (h : ℕ) → weight (stays_with x h) (turn s x i) ≡ stay_of x.shared s h
  unfolding weight turn stay_of units_into
  seat_stay h =
      sum_map _ _ s.branches
      ∙ sum_cong s.branches (λ b. ap (λ (t : Bool). gate (t && eqb (set_to x.shared b.sets) h) b.units) (stays_set x.each i b.end l ∙ ap (eqb b.end) own))

  seat_move : (a b h : ℕ) → a ≢ b → weight (goes_with x a b h) (turn s x i) ≡ move_of x.shared s a b h
  unfolding weight turn move_of units_into
  seat_move a b h ne =
      sum_map _ _ s.branches
      ∙ sum_cong s.branches (λ e. ap (λ (t : Bool). gate t e.units) (goes_own e) ∙ gate_and (eqb s.own a) (eqb e.end b && becomes e) e.units)
      ∙ sym (sum_gate (eqb s.own a) (λ (e : Branch). gate (eqb e.end b && becomes e) e.units) s.branches)
    where
      becomes : Branch → Bool
      becomes e = eqb (set_to x.shared e.sets) h

      goes_own : (e : Branch) → (goes a b x.each (set x.each i e.end) && becomes e) ≡ (eqb s.own a && (eqb e.end b && becomes e))
      goes_own e =
          ap (λ (t : Bool). t && becomes e) (goes_set a b ne x.each i e.end l ∙ ap (λ (j : ℕ). eqb j a && eqb e.end b) own)
          ∙ and_assoc (eqb s.own a) (eqb e.end b) (becomes e)

  -- each seat that takes a statement shows the same
  pub seat_block : (k values : ℕ) (q : Option ℕ) → block_of k values q x (turn s x i) ≡ block k values q (stay_of x.shared s) (move_of x.shared s)
  unfolding block_of
  seat_block k values q = block_cong k values q seat_stay seat_move

-- ---- what can be taken of a probabilistic card

module _ (c : Card) (x : Seating) (ok : ValidSeating c x) where
  abbrev values : ℕ
  values = shared_values c.shared

  abbrev taken : List (Choice Seating)
  taken = choices_from 1 c.statements x

  -- what a test on the next seating weighs over all steps, if it weighs f s for each seat that takes s
  steps_by_counts : (p : Seating → Bool) (f : Statement → ℕ) → ((s : Statement) (i : ℕ) → i < length x.each → state x.each i ≡ s.own → weight p (turn s x i) ≡ f s)
      → weight p (steps_in taken) ≡ sum (λ s. able c.n (counted c.k x) s * f s) c.statements
  unfolding weight
  steps_by_counts p f h =
      sum_flat _ (turns_in taken)
      ∙ choices_sum (λ s. turns_by s x) (weight p) 1 c.statements
      ∙ rw (← ok.seats) (sum_cong c.statements (λ s. turns_sum c.k x ok.states s (weight p) (f s) (h s)))

  enabled_by_counts : length (turns_in taken) ≡ all_able c.n (counted c.k x) c.statements
  unfolding all_able
  enabled_by_counts =
      sym (sum_one (turns_in taken))
      ∙ choices_sum (λ s. turns_by s x) (λ t. 1) 1 c.statements
      ∙ rw (← ok.seats) (sum_cong c.statements (λ s. sum_one (turns_by s x) ∙ turns_length c.k x ok.states s))

  block_by_counts : block_of c.k values none x (steps_in taken) ≡ block c.k values none (all_stay c.n (counted c.k x) c.statements) (all_move c.n (counted c.k x) c.statements)
  unfolding block_of all_stay all_move
  block_by_counts = block_cong c.k values none
      (λ h. steps_by_counts (stays_with x h) (λ s. stay_of x.shared s h) (λ s i l e. seat_stay s x i l e h))
      (λ a b h ne. steps_by_counts (goes_with x a b h) (λ s. move_of x.shared s a b h) (λ s i l e. seat_move s x i l e a b h ne))

-- ---- and of a nondeterministic one

-- what is shown for a choice, and for a statement by counts
abbrev shown : ℕ → ℕ → Seating → Choice Seating → Block
shown k values x c = block_of k values (some c.place) x (one_of c.turns)

abbrev shown_at : ℕ → ℕ → ℕ → Position → ℕ → Statement → List Block
shown_at n k values v q s = when ltb 0 (able n v s) then block k values (some q) (stay_of v.shared s) (move_of v.shared s) ∷ [] else []

module _ (k values : ℕ) (x : Seating) (w : Within k x.each) where
  choice_by_counts : (q : ℕ) (s : Statement) → map (shown k values x) (choice q (turns_by s x)) ≡ shown_at (length x.each) k values (counted k x) q s
  choice_by_counts q s = go (turns_by s x) (takers s x) (turns_length k x w s)
    where
      go : (m : List (Turn Seating)) → Every (Taker s x) m → length m ≡ able (length x.each) (counted k x) s → map (shown k values x) (choice q m) ≡ shown_at (length x.each) k values (counted k x) q s
      go [] e h = rw (← h)
      go (t ∷ m) e h =
          let (i, l, may, p) = e.0 in
          let some-able : 0 < able (length x.each) (counted k x) s = omega arith in
          rw (lt-ltb 0 (able (length x.each) (counted k x) s) some-able, p, seat_block s x i l (takes k x w s i l may).0 k values (some q))

  choices_by_counts : (q : ℕ) (l : List Statement) → map (shown k values x) (choices_from q l x) ≡ choice_blocks (length x.each) k values (counted k x) q l
  unfolding choices_of choice_blocks
  choices_by_counts q [] = refl
  choices_by_counts q (s ∷ l) = map_append (shown k values x) (choice q (turns_by s x)) (choices_from (suc q) l x) ∙ ap₂ ◌++◌ (choice_by_counts q s) (choices_by_counts (suc q) l)

  blocks_length : (q : ℕ) (l : List Statement) → length (choice_blocks (length x.each) k values (counted k x) q l) ≡ sum (λ s. gate (ltb 0 (able (length x.each) (counted k x) s)) 1) l
  unfolding choice_blocks
  blocks_length q [] = refl
  blocks_length q (s ∷ l) = go (ltb 0 (able (length x.each) (counted k x) s)) (blocks_length (suc q) l)
    where
      go : (t : Bool) → length (choice_blocks (length x.each) k values (counted k x) (suc q) l) ≡ sum (λ s. gate (ltb 0 (able (length x.each) (counted k x) s)) 1) l
          → length ((when t then block k values (some q) (stay_of x.shared s) (move_of x.shared s) ∷ [] else []) ++ choice_blocks (length x.each) k values (counted k x) (suc q) l)
          ≡ gate t 1 + sum (λ s. gate (ltb 0 (able (length x.each) (counted k x) s)) 1) l
      go true h = omega arith
      go false h = omega arith

-- ---- with the stuck step

-- pairs of a seat and a statement, or statements; and the blocks of choices
abbrev count_of : Mode → List (Choice Seating) → ℕ
count_of probabilistic l = length (turns_in l)
count_of nondeterministic l = length l

abbrev blocks_of : Mode → ℕ → ℕ → Seating → List (Choice Seating) → List Block
blocks_of probabilistic k values x l = block_of k values none x (steps_in l) ∷ []
blocks_of nondeterministic k values x l = map (shown k values x) l

count_or_stay : (m : Mode) (x : Seating) (l : List (Choice Seating)) → Every Some l → count_of m (or_stay x l) ≡ or_one (count_of m l)
count_or_stay probabilistic x l e = or_stay_turns x l e
count_or_stay nondeterministic x l e = or_stay_length x l

module _ (k values : ℕ) (x : Seating) (there : x.shared < values) where
  blocks_or_stay : (m : Mode) (l : List (Choice Seating)) → Every Some l → blocks_of m k values x (or_stay x l) ≡ or_stuck m x.shared (count_of m l) (blocks_of m k values x l)
  blocks_or_stay probabilistic [] e = ap (λ (b : Block). b ∷ []) (stuck_shown k values none x there)
  blocks_or_stay nondeterministic [] e = ap (λ (b : Block). b ∷ []) (stuck_shown k values (some 0) x there)
  blocks_or_stay nondeterministic (c ∷ l) e = refl
  blocks_or_stay probabilistic (c ∷ l) e = go (length (turns_in (c ∷ l))) (or_stay_turns x (c ∷ l) e)
    where
      go : (n : ℕ) → n ≡ or_one n → blocks_of probabilistic k values x (c ∷ l) ≡ or_stuck probabilistic x.shared n (blocks_of probabilistic k values x (c ∷ l))
      go zero h = absurd (omega arith)
      go (suc n) h = refl

-- ---- the panel

module _ (c : Card) (x : Seating) (ok : ValidSeating c x) where
  abbrev v : Position
  v = counted c.k x

  abbrev few : ℕ
  few = shared_values c.shared

  some_taken : Every Some (taken c x ok)
  some_taken = choices_some (λ s. turns_by s x) 1 c.statements

  count_by_counts : (m : Mode) → count_of m (taken c x ok) ≡ count_taken m c.n v c.statements
  unfolding count_taken
  count_by_counts probabilistic = enabled_by_counts c x ok
  count_by_counts nondeterministic =
      sym (length-map (taken c x ok) (shown c.k few x))
      ∙ rw (← ok.seats) (ap length (choices_by_counts c.k few x ok.states 1 c.statements) ∙ blocks_length c.k few x ok.states 1 c.statements)

  blocks_by_counts : (m : Mode) → blocks_of m c.k few x (taken c x ok) ≡ taken_blocks m c.n c.k few v c.statements
  unfolding taken_blocks
  blocks_by_counts probabilistic = ap (λ (b : Block). b ∷ []) (block_by_counts c x ok)
  blocks_by_counts nondeterministic = rw (← ok.seats) (choices_by_counts c.k few x ok.states 1 c.statements)

  mode_enabled : (m : Mode) → enabled m c x ≡ count_enabled m c.n v c.statements
  unfolding count_enabled turns choices
  mode_enabled probabilistic = count_or_stay probabilistic x (taken c x ok) some_taken ∙ ap or_one (count_by_counts probabilistic)
  mode_enabled nondeterministic = count_or_stay nondeterministic x (taken c x ok) some_taken ∙ ap or_one (count_by_counts nondeterministic)

  all_blocks : (m : Mode) → blocks_of m c.k few x (or_stay x (taken c x ok)) ≡ count_blocks m c.n c.k few v c.statements
  unfolding count_blocks
  all_blocks m = blocks_or_stay c.k few x ok.shared m (taken c x ok) some_taken ∙ ap₂ (or_stuck m x.shared) (count_by_counts m) (blocks_by_counts m)

  mode_blocks : (m : Mode) → blocks m c x ≡ count_blocks m c.n c.k few v c.statements
  unfolding steps turns choices
  mode_blocks probabilistic = all_blocks probabilistic
  mode_blocks nondeterministic = all_blocks nondeterministic

  pub panel_by_counts : panel c x ≡ count_panel c (counted c.k x)
  unfolding panel count_panel
  panel_by_counts = λ r. record {
    mode = c.mode;
    seats = c.n;
    enabled = mode_enabled c.mode r;
    counts = v.each;
    shared = shared_shown c.shared x.shared;
    blocks = mode_blocks c.mode r;
  }

-- valid seatings with equal counts show equal panels
pub equal_counts : (c : Card) (x y : Seating) → ValidSeating c x → ValidSeating c y → counted c.k x ≡ counted c.k y → panel c x ≡ panel c y
equal_counts c x y ok ok' e = panel_by_counts c x ok ∙ ap (count_panel c) e ∙ sym (panel_by_counts c y ok')

-- the panel of a stuck seating, whole
pub stuck_panel : (c : Card) (x : Seating) → x.shared < shared_values c.shared → Stuck c x
    → panel c x
    ≡ record { mode = c.mode; seats = c.n; enabled = 1; counts = counts c.k x.each; shared = shared_shown c.shared x.shared; blocks = stuck_block c.mode x.shared ∷ [] }
unfolding panel steps turns
stuck_panel c x there h = λ r. record {
  mode = c.mode;
  seats = c.n;
  enabled = one c.mode r;
  counts = counts c.k x.each;
  shared = shared_shown c.shared x.shared;
  blocks = still c.mode r;
}
  where
    one : (m : Mode) → enabled m c x ≡ 1
    one probabilistic = rw ((stuck c x).0 h)
    one nondeterministic = rw ((stuck c x).0 h)

    still : (m : Mode) → blocks m c x ≡ stuck_block m x.shared ∷ []
    still probabilistic = rw ((stuck c x).0 h) (ap (λ (b : Block). b ∷ []) (stuck_shown c.k (shared_values c.shared) none x there))
    still nondeterministic = rw ((stuck c x).0 h) (ap (λ (b : Block). b ∷ []) (stuck_shown c.k (shared_values c.shared) (some 0) x there))
