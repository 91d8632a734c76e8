-- How long a panel can be: a line has few digits, and there is at most a line for each branch (Lines.antt). Assumes nothing.
use Prim.Native.Nat.{ℕ, zero, suc, ◌+◌, ◌-◌, ◌*◌, ◌^◌, ◌≤◌, ◌<◌}
use Prim.Native.String.{String}
use mathlib.Core.Path.{◌≡◌, refl, ap}
use mathlib.Core.Bool.{Bool, true, false, not, ◌&&◌}
use mathlib.Core.List.{List, [], ◌∷◌, ◌++◌}
use mathlib.Core.Option.{Option, none, some as some_choice}
use native.Mathlib.Nat.{le_trans, mul-le-mul, mul-le-mul_right}
use native.Mathlib.Omega.{arith}
use lib.Dec.{eqb, ltb}
use lib.ListN.{length}
use Rattle.card.specs.Limits.{most_seats, top_state, top_shared, most_shared, most_statements, most_branches, unit}
use Rattle.card.specs.Text.{bytes, when◌then◌else◌}
use Rattle.card.specs.Card.{Mode, nondeterministic, probabilistic, Statement, Shared, Card}
use Rattle.card.specs.Valid.{Every, values_of, ValidStatement, ValidShared, ValidCard}
use Rattle.phrases.specs.Phrases.{◌▸◌, num, mode_text}
use Rattle.phrases.proofs.Counted.{Text}
use Rattle.phrases.proofs.Adds.{Adds, adds_then, adds_up, adds_none, adds_bytes, adds_digits, adds_mode}
use Rattle.meaning.specs.Sums.{gate, sum, upto, flat}
use Rattle.meaning.specs.Position.{Position, shared_values}
use Rattle.meaning.specs.Seats.{Seating, ValidSeating, count, counts, counted}
use Rattle.meaning.specs.Panel.{stay_line, move_line, moves_from, block, shared_shown}
use Rattle.meaning.specs.ByCounts.{able, stay_of, move_of, all_able, all_stay, all_move, choice_blocks}
use Rattle.meaning.specs.ByCounts.{taken_blocks, count_taken, stuck_block, or_stuck, count_blocks, count_enabled, count_panel}
use Rattle.meaning.proofs.Sums.{every_upto, sum_below}
use Rattle.meaning.proofs.Counting.{count_le, length_counts}
use Rattle.meaning.proofs.Bounds.{Few, counts_few, stay_le, move_le, all_able_le, all_stay_le, all_move_le, enabled_le}
use Rattle.meaning.proofs.Panel.{panel_by_counts}
use Rattle.panel_wording.specs.PanelText.{numbers, line, told, ending, moves_text, stays_text, block_text, blocks_text, shared_text, panel_text, panel_of}
use Rattle.panel_wording.proofs.Laws.{Joins, moves_join, stays_join}
use Rattle.panel_wording.specs.PanelRoom.{weight_digits, line_most, choice_most, panel_room}
use Rattle.panel_said.proofs.Lines.{some, stays, moves, choice_lines, all_lines}

-- ---- lines

-- of d + 1 digits at most
abbrev Digits : ℕ → ℕ → Type 0
Digits d v = v < 10 ^ suc d

adds_numbers : (d : ℕ) (l : List ℕ) → Every (Digits d) l → Adds (length l * (2 + d)) (numbers l)
adds_numbers d [] e = adds_up _ (omega arith) adds_none
adds_numbers d (v ∷ l) e = adds_up (length (v ∷ l) * (2 + d)) (omega arith) (adds_then (adds_bytes " ") (adds_then (adds_digits d v e.0) (adds_numbers d l e.1)))

adds_line : (w : String) (d : ℕ) (l : List ℕ) → Every (Digits d) l → Adds (length (bytes w) + length l * (2 + d) + 1) (line w l)
adds_line w d l e = adds_up _ (omega arith) (adds_then (adds_bytes w) (adds_then (adds_numbers d l e) (adds_bytes "\n")))

-- a weight that all seats and statements add up to, by its digits behind the first
abbrev weights_digits : ℕ
weights_digits = weight_digits - 1

abbrev Light : ℕ → Type 0
Light w = Digits weights_digits w

-- ---- lines of weights, on a card with a shared number or not

module _ (t : Bool) where
  adds_ending : (h : ℕ) → h ≤ top_shared → Adds 3 (λ r. numbers (ending t h) ("\n" ▸ r))
  adds_ending h l = go t
    where
      go : (t : Bool) → Adds 3 (λ r. numbers (ending t h) ("\n" ▸ r))
      go true = adds_then (adds_bytes " ") (adds_then (adds_digits 0 h (omega arith)) (adds_bytes "\n"))
      go false = adds_up 3 (omega arith) (adds_bytes "\n")

  adds_move : (a b h w : ℕ) → a ≤ top_state → b ≤ top_state → h ≤ top_shared → Light w → Adds (gate (not (eqb a b)) (some w) * line_most) (moves_text t (move_line a b h w))
  adds_move a b h w l m n e = go (not (eqb a b)) (ltb 0 w)
    where
      whole : Adds line_most (line "move" (a ∷ b ∷ w ∷ ending t h))
      whole = adds_up line_most (omega arith)
          (adds_then (adds_bytes "move ")
          (adds_then (adds_digits 0 a (omega arith))
          (adds_then (adds_bytes " ")
          (adds_then (adds_digits 0 b (omega arith)) (adds_then (adds_bytes " ") (adds_then (adds_digits weights_digits w e) (adds_ending h n)))))))

      go : (p q : Bool) → Adds (gate p (gate q 1) * line_most) (moves_text t (when p && q then record { old = a; new = b; weight = w; shared = h } ∷ [] else []))
      go true true = adds_up _ (omega arith) whole
      go true false = adds_up _ (omega arith) adds_none
      go false q = adds_up _ (omega arith) adds_none

  stay_line_law : (h w : ℕ) → h ≤ top_shared → Light w → Adds line_most (line "stay" (w ∷ ending t h))
  stay_line_law h w l e = adds_up line_most (omega arith) (adds_then (adds_bytes "stay ") (adds_then (adds_digits weights_digits w e) (adds_ending h l)))

  adds_stay : (h w : ℕ) → h ≤ top_shared → Light w → Adds (some w * line_most) (stays_text t (stay_line h w))
  adds_stay h w l e = go (ltb 0 w)
    where
      go : (q : Bool) → Adds (gate q 1 * line_most) (stays_text t (when q then record { weight = w; shared = h } ∷ [] else []))
      go true = adds_up _ (omega arith) (stay_line_law h w l e)
      go false = adds_up _ (omega arith) adds_none

  -- lists one after the other
  adds_flat : {A : Type 0} {T : List A → Text} → Joins T → (n m : ℕ) (f : ℕ → List A) (c : ℕ → ℕ) → ((i : ℕ) → i < n → Adds (c i * m) (T (f i))) → Adds (sum_below n c * m) (T (flat (upto n f)))
  adds_flat {T = T} j zero m f c h = record { long = λ r. omega (arith, ap (λ (l : List ℕ). length l) (j.nothing r)) }
  adds_flat {T = T} j (suc n) m f c h =
      let rest = adds_then (h 0 (omega arith)) (adds_flat j n m (λ i. f (suc i)) (λ i. c (suc i)) (λ i l. h (suc i) (omega arith))) in
      record { long = λ r. rw (j.both (f 0) (flat (upto n (λ i. f (suc i)))) r) (omega (arith, rest.long r)) }

  module _ (k values : ℕ) (top : k ≤ top_state) (few : values ≤ most_shared) (stay : ℕ → ℕ) (w : ℕ → ℕ → ℕ → ℕ) (light : (h : ℕ) → Light (stay h)) (lights : (a b h : ℕ) → Light (w a b h)) where
    adds_stays : Adds (stays k values (λ h. some (stay h)) * line_most) (stays_text t (flat (upto values (λ h. stay_line h (stay h)))))
    adds_stays = adds_flat (stays_join t) values line_most (λ h. stay_line h (stay h)) (λ h. some (stay h)) (λ h l. adds_stay h (stay h) (omega arith) (light h))

    adds_moves : Adds (moves k values (λ a b h. gate (not (eqb a b)) (some (w a b h))) * line_most) (moves_text t (flat (upto (suc k) (λ a. moves_from k values a (w a)))))
    adds_moves =
        adds_flat (moves_join t) (suc k) line_most (λ a. moves_from k values a (w a)) (λ a. sum_below (suc k) (λ b. sum_below values (λ h. gate (not (eqb a b)) (some (w a b h))))) (λ a i.
        adds_flat (moves_join t) (suc k) line_most (λ b. flat (upto values (λ h. move_line a b h (w a b h)))) (λ b. sum_below values (λ h. gate (not (eqb a b)) (some (w a b h)))) (λ b j.
        adds_flat (moves_join t) values line_most (λ h. move_line a b h (w a b h)) (λ h. gate (not (eqb a b)) (some (w a b h))) (λ h l. adds_move a b h (w a b h) (omega arith) (omega arith) (omega arith) (lights a b h))))

    -- so many lines
    adds_lines : (m : ℕ) → stays k values (λ h. some (stay h)) + moves k values (λ a b h. gate (not (eqb a b)) (some (w a b h))) ≤ m
        → (q : Option ℕ) → Adds (m * line_most) (λ r. stays_text t (block k values q stay w).stays (moves_text t (block k values q stay w).moves r))
    unfolding block
    adds_lines m h q = adds_up (m * line_most) (many _ _ h) (adds_then adds_stays adds_moves)
      where
        many : (x y : ℕ) → x + y ≤ m → x * line_most + y * line_most ≤ m * line_most
        many x y l = omega arith

-- ---- blocks

adds_stuck : (t : Bool) (m : Mode) (g : ℕ) → g ≤ top_shared → Adds choice_most (block_text t (stuck_block m g))
unfolding block_text
adds_stuck t probabilistic g l = adds_up choice_most (omega arith) (stay_line_law t g unit l (omega arith))
adds_stuck t nondeterministic g l = adds_up choice_most (omega arith) (adds_then (adds_line "choice" 0 (0 ∷ []) (omega arith, tt)) (stay_line_law t g unit l (omega arith)))

module _ (t : Bool) (n k values : ℕ) (h : k ≤ top_state) (shared : values ≤ most_shared) where
  -- at a place of two digits
  adds_choice : (g q : ℕ) (s : Statement) {m : ℕ} → ValidStatement n k m s → q < 100 → Adds choice_most (block_text t (block k values (some_choice q) (stay_of g s) (move_of g s)))
  unfolding block_text block
  adds_choice g q s {m} v l =
      adds_up choice_most (omega arith)
      (adds_then (adds_line "choice" 1 (q ∷ []) (l, tt))
      (adds_lines t k values h shared (stay_of g s) (move_of g s) (λ i. omega (arith, stay_le n k m g s v i)) (λ a b i. omega (arith, move_le n k m g s v a b i)) most_branches
      (le_trans (choice_lines k values g s) v.some.1) (some_choice q)))

  adds_choices : (m : ℕ) (v : Position) (q : ℕ) (l : List Statement) → Every (ValidStatement n k m) l → q + length l ≤ 100 → Adds (length l * choice_most) (blocks_text t (choice_blocks n k values v q l))
  unfolding choice_blocks
  adds_choices m v q [] e r = adds_up _ (omega arith) adds_none
  adds_choices m v q (s ∷ l) e r = go (ltb 0 (able n v s)) (adds_choice v.shared q s e.0 (omega arith)) (adds_choices m v (suc q) l e.1 (omega arith))
    where
      go : (u : Bool) → Adds choice_most (block_text t (block k values (some_choice q) (stay_of v.shared s) (move_of v.shared s))) → Adds (length l * choice_most) (blocks_text t (choice_blocks n k values v (suc q) l))
          → Adds (length (s ∷ l) * choice_most) (blocks_text t ((when u then block k values (some_choice q) (stay_of v.shared s) (move_of v.shared s) ∷ [] else []) ++ choice_blocks n k values v (suc q) l))
      go true one rest = adds_up (length (s ∷ l) * choice_most) (omega arith) (adds_then one rest)
      go false one rest = adds_up (length (s ∷ l) * choice_most) (omega arith) rest

  module _ (few-seats : n ≤ most_seats) (v : Position) (low : v.shared ≤ top_shared) (few : Few n v.each) (m : ℕ) (l : List Statement) (valid : Every (ValidStatement n k m) l) (some-there : length l ≤ most_statements) where
    all_few : all_able n v l * unit ≤ most_seats * most_statements * unit
    all_few = mul-le-mul_right unit (le_trans (all_able_le n v few l) (mul-le-mul few-seats some-there))

    branches_few : (l : List Statement) → Every (ValidStatement n k m) l → sum (λ (s : Statement). length s.branches) l ≤ length l * most_branches
    branches_few [] e = omega arith
    branches_few (s ∷ l) e = omega (arith, e.0.some.1, branches_few l e.1)

    adds_weights : Adds (most_statements * choice_most) (block_text t (block k values none (all_stay n v l) (all_move n v l)))
    unfolding block_text block
    adds_weights =
        adds_up (most_statements * choice_most) (omega arith)
        (adds_lines t k values h shared (all_stay n v l) (all_move n v l)
        (λ i. omega (arith, all_stay_le n v few k m l valid i, all_few)) (λ a b i. omega (arith, all_move_le n v few k m l valid a b i, all_few)) (most_statements * most_branches)
        (le_trans (all_lines k values n v l) (le_trans (branches_few l valid) (mul-le-mul_right most_branches some-there))) none)

    adds_taken : (o : Mode) → Adds (most_statements * choice_most) (blocks_text t (taken_blocks o n k values v l))
    unfolding taken_blocks
    adds_taken nondeterministic = adds_up (most_statements * choice_most) (omega arith) (adds_choices m v 1 l valid (omega arith))
    adds_taken probabilistic = adds_weights

    adds_blocks : (o : Mode) → Adds (most_statements * choice_most) (blocks_text t (count_blocks o n k values v l))
    unfolding count_blocks
    adds_blocks o = go (count_taken o n v l)
      where
        go : (taken : ℕ) → Adds (most_statements * choice_most) (blocks_text t (or_stuck o v.shared taken (taken_blocks o n k values v l)))
        go zero = adds_up (most_statements * choice_most) (omega arith) (adds_stuck t o v.shared low)
        go (suc taken) = adds_taken o

-- ---- the panel

abbrev told_or : Option ℕ → ℕ
told_or none = top_shared
told_or (some_choice g) = g

adds_shared : (o : Option ℕ) → ((g : ℕ) → o ≡ some_choice g → g ≤ top_shared) → Adds 9 (shared_text o)
adds_shared none h = adds_up 9 (omega arith) adds_none
adds_shared (some_choice g) h = adds_up 9 (omega arith) (adds_line "shared" 0 (g ∷ []) (omega (arith, h g refl), tt))

module _ (c : Card) (valid : ValidCard c) (x : Seating) (ok : ValidSeating c x) where
  abbrev v : Position
  v = counted c.k x

  few : Few c.n v.each
  few d = rw (← ok.seats) (counts_few c.k x.each ok.states d)

  values_few : (s : Option Shared) → ValidShared s → shared_values s ≤ most_shared
  values_few none h = omega arith
  values_few (some_choice s) h = omega (arith, h.0)

  low : x.shared ≤ top_shared
  low = omega (arith, ok.shared, values_few c.shared valid.shared)

  counts_digits : Every (Digits 1) v.each
  unfolding counts
  counts_digits = every_upto (Digits 1) (suc c.k) (λ d. count d x.each) (λ d l. omega (arith, count_le d x.each, ok.seats, valid.seats_most))

  enabled_digits : Digits 2 (count_enabled c.mode c.n v c.statements)
  enabled_digits = omega (arith, enabled_le c.n v few valid.seats c.mode c.statements valid.some.0, mul-le-mul valid.seats_most valid.some.1)

  shared_shown_law : (s : Option Shared) (g : ℕ) → shared_shown s x.shared ≡ some_choice g → g ≤ top_shared
  shared_shown_law none g e = omega (arith, ap told_or e)
  shared_shown_law (some_choice s) g e = omega (arith, low, ap told_or e)

  abbrev shown_text : List ℕ → List ℕ
  shown_text r = shared_text (shared_shown c.shared x.shared) (blocks_text (told (shared_shown c.shared x.shared)) (count_blocks c.mode c.n c.k (shared_values c.shared) v c.statements) r)

  adds_panel : Adds panel_room (λ r. mode_text c.mode ("\nseats " ▸ num c.n (line " enabled" (count_enabled c.mode c.n v c.statements ∷ []) (line "counts" v.each (shown_text r)))))
  adds_panel =
      adds_up panel_room (omega (arith, length_counts c.k x.each, valid.top))
      (adds_then (adds_mode c.mode)
      (adds_then (adds_bytes "\nseats ")
      (adds_then (adds_digits 1 c.n (omega (arith, valid.seats_most)))
      (adds_then (adds_line " enabled" 2 (count_enabled c.mode c.n v c.statements ∷ []) (enabled_digits, tt))
      (adds_then (adds_line "counts" 1 v.each counts_digits)
      (adds_then (adds_shared (shared_shown c.shared x.shared) (shared_shown_law c.shared))
      (adds_blocks (told (shared_shown c.shared x.shared)) c.n c.k (shared_values c.shared) valid.top (values_few c.shared valid.shared) valid.seats_most v low few (values_of c.shared) c.statements valid.statements valid.some.1 c.mode)))))))

  pub panel_fits : length (panel_of c x) ≤ panel_room
  unfolding panel_of panel_text count_panel
  panel_fits = rw (panel_by_counts c x ok) (omega (arith, adds_panel.long []))
