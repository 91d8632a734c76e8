-- The panel that the code prints from the table is the panel by counts, and so the panel by seats: its numbers are those by counts, and a
-- card's blocks are those of its rows one by one. Assumes nothing.
use Prim.Native.Nat.{ℕ, zero, suc, ◌+◌, ◌≤◌, ◌<◌}
use mathlib.Core.Path.{◌≡◌, refl, sym, ap, ap₂, subst, ◌∙◌}
use mathlib.Core.List.{List, [], ◌∷◌, ◌++◌}
use mathlib.Core.Option.{Option, none}
use native.Mathlib.Nat.{add-zero, zero-add}
use native.Mathlib.Omega.{arith}
use borrow.Author.Tests.{eq-eqb}
use lib.Dec.{eqb}
use Rattle.card.specs.Limits.{most_shared, unit}
use Rattle.card.specs.Card.{Mode, nondeterministic, probabilistic, Statement}
use Rattle.card.specs.Laid.{statement_of, statements_of}
use Rattle.card.specs.Rows.{rows_from}
use Rattle.card.specs.Lent.{Lent, card_in, HoldsIn}
use Rattle.card.specs.declared.Head.{Head}
use Rattle.card.proofs.Held.{few_values}
use Rattle.meaning.specs.Sums.{gate, or_one, upto, flat}
use Rattle.meaning.specs.Position.{Position, shared_values}
use Rattle.meaning.specs.Seats.{Seating, ValidSeating, counted}
use Rattle.meaning.specs.Panel.{Stay, moves_from, Block, block, shared_shown, panel}
use Rattle.meaning.specs.ByCounts.{able, stay_of, move_of, all_stay, all_move, choice_blocks, taken_blocks, count_taken, stuck_block, or_stuck, count_blocks, count_panel}
use Rattle.meaning.proofs.Sums.{upto_cong}
use Rattle.meaning.proofs.Panel.{no_moves, still_line, panel_by_counts}
use Rattle.panel_numbers.specs.Table.{shared_in, stay_in, able_in, weighing_row, move_by, mode_in, taken, table_of}
use Rattle.panel_numbers.proofs.Statements.{at, statements_upto}
use Rattle.weighing.proofs.Filled.{shared_few, table_shared, stuck_stay, no_stay, table_counts}
use Rattle.weighing.proofs.ByCounts.{able_row, taken_row, enabled_row, move_row, stay_row, stuck_moves}
use Rattle.panel_wording.specs.PanelIn.{shown_if, choice_if, choice_at, choices_in, blocks_in, panel_in}
use Rattle.panel_wording.proofs.Laws.{shown_if_law, values_one}
use Rattle.panel_wording.proofs.Moves.{moves_cong, stays_cong}

-- ---- a block by its weights

module _ (k values : ℕ) (q : Option ℕ) (u v : ℕ → ℕ) (f g : ℕ → ℕ → ℕ → ℕ) where
  block_same : ((t : ℕ) → t < values → u t ≡ v t) → ((a b t : ℕ) → f a b t ≡ g a b t) → block k values q u f ≡ block k values q v g
  unfolding block
  block_same e h =
      let rows = upto_cong (suc k) (λ a. moves_from k values a (f a)) (λ a. moves_from k values a (g a)) (λ a l. moves_cong k values a (f a) (g a) (λ b t i j. h a b t)) in
      let lines = stays_cong values u v e in
      λ r. record { choice = q; stays = lines r; moves = flat (rows r) }

-- ---- choices

module _ (n : ℕ) (v : Position) (k values : ℕ) where
  choices_from : (q c : ℕ) (s : ℕ → Statement) → choice_blocks n k values v (suc q) (upto c s) ≡ flat (upto c (λ j. choice_if k values v.shared (q + j) (able n v (s j)) (s j)))
  unfolding choice_blocks choice_if
  choices_from q zero s = refl
  choices_from q (suc c) s =
      ap₂ ◌++◌
      (ap (λ (p : ℕ). choice_if k values v.shared p (able n v (s 0)) (s 0)) (sym (add-zero q)))
      (choices_from (suc q) c (λ j. s (suc j))
      ∙ ap (λ (l : List (List Block)). flat l) (upto_cong c _ (λ j. choice_if k values v.shared (q + suc j) (able n v (s (suc j))) (s (suc j)))
      (λ j l. ap (λ (p : ℕ). choice_if k values v.shared p (able n v (s (suc j))) (s (suc j))) (omega arith))))

choice_weighs : (nodes branches rows : List ℕ) (k values g i m : ℕ) → choice_if k values g i m (at nodes branches rows i) ≡ choice_if k values g i m (weighing_row rows branches i)
unfolding choice_if stay_of move_of statement_of
choice_weighs nodes branches rows k values g i m = refl

one_most : (s : ℕ) → s ≤ most_shared → or_one s ≤ most_shared
one_most zero l = omega arith
one_most (suc s) l = l

-- ---- the panel

module _ {h : Head} {x : Lent} {seats : Seating} (v : HoldsIn h x) (ok : ValidSeating (card_in h x) seats) where
  abbrev table : List ℕ
  table = table_of h x seats

  abbrev statements : List Statement
  statements = statements_of x.nodes x.branches (rows_from x.rows 0 h.count) 0

  abbrev values : ℕ
  values = or_one h.shared

  abbrev c : Position
  c = counted h.top seats

  few : seats.shared < most_shared
  few = shared_few v seats ok

  same_shared : shared_in table ≡ seats.shared
  same_shared = table_shared h x seats few

  pub values_few : h.shared ≤ most_shared
  values_few = let e = ap (λ (h : Head). h.shared) v.head in omega (arith, few_values v.card.shared v.valid.shared)

  values_most : values ≤ most_shared
  values_most = one_most h.shared values_few

  one_of : seats.shared < values
  one_of = subst (λ (m : ℕ). seats.shared < m) (values_one h.shared h.initial) ok.shared

  choice_rows : choice_blocks h.seats h.top values c 1 statements ≡ choices_in h.top values table x.rows x.branches h.count
  choice_rows =
      ap (choice_blocks h.seats h.top values c 1) (statements_upto x.nodes x.branches x.rows h.count)
      ∙ choices_from h.seats c h.top values 0 h.count (at x.nodes x.branches x.rows)
      ∙ ap (λ (l : List (List Block)). flat l) (upto_cong h.count _ (choice_at h.top values table x.rows x.branches) each)
    where
      each : (i : ℕ) → i < h.count
          → choice_if h.top values seats.shared (0 + i) (able h.seats c (at x.nodes x.branches x.rows i)) (at x.nodes x.branches x.rows i)
          ≡ choice_at h.top values table x.rows x.branches i
      each i l =
          ap (λ (m : ℕ). choice_if h.top values seats.shared (0 + i) m (at x.nodes x.branches x.rows i)) (sym (able_row v ok i l))
          ∙ ap (λ (p : ℕ). choice_if h.top values seats.shared p (able_in table i) (at x.nodes x.branches x.rows i)) (zero-add i)
          ∙ ap (λ (g : ℕ). choice_if h.top values g i (able_in table i) (at x.nodes x.branches x.rows i)) (sym same_shared)
          ∙ choice_weighs x.nodes x.branches x.rows h.top values (shared_in table) i (able_in table i)

  -- where some can be taken
  moving_rows : (taken h x seats ≡ 0 → ⊥) → (m : Mode) → mode_in h ≡ m
      → taken_blocks m h.seats h.top values c statements ≡ blocks_in m h.top values table x.rows x.branches h.count
  unfolding taken_blocks
  moving_rows s nondeterministic e = rw (no_stay h x seats s e (shared_in table) (rw same_shared few)) choice_rows
  moving_rows s probabilistic e =
      ap (λ (b : Block). b ∷ [])
      (block_same h.top values none (all_stay h.seats c statements) (stay_in table) (all_move h.seats c statements) (move_by table x.rows x.branches h.count)
      (λ t l. stay_row v ok s e t (omega (arith, values_most))) (move_row v ok))

  -- and where none can
  stuck_rows : taken h x seats ≡ 0 → (m : Mode) → mode_in h ≡ m → stuck_block m seats.shared ∷ [] ≡ blocks_in m h.top values table x.rows x.branches h.count
  stuck_rows z nondeterministic e = rw (same_shared, stuck_stay h x seats few z seats.shared few, eq-eqb seats.shared seats.shared refl)
  stuck_rows z probabilistic e =
      ap (λ (b : Block). b ∷ []) (sym
      (block_same h.top values none (stay_in table) (λ t. gate (eqb seats.shared t) unit) (move_by table x.rows x.branches h.count) (λ a b t. 0)
      (λ t l. stuck_stay h x seats few z t (omega (arith, values_most))) (stuck_moves v ok z e)
      ∙ no_moves h.top values none {u = λ t. gate (eqb seats.shared t) unit} {v = λ t. gate (eqb seats.shared t) unit} {f = λ a b t. 0} (λ t. refl) (λ a b t n. refl)
      ∙ ap (λ (l : List Stay). record { choice = none; stays = l; moves = [] }) (still_line values seats.shared one_of)))

  blocks_rows : (m : Mode) → mode_in h ≡ m → count_blocks m h.seats h.top values c statements ≡ blocks_in m h.top values table x.rows x.branches h.count
  unfolding count_blocks
  blocks_rows m e = go (taken_of m) (ap taken_of (sym e) ∙ taken_row v ok)
    where
      taken_of : Mode → ℕ
      taken_of k = count_taken k h.seats c statements

      go : (t : ℕ) → t ≡ taken h x seats
          → or_stuck m seats.shared t (taken_blocks m h.seats h.top values c statements) ≡ blocks_in m h.top values table x.rows x.branches h.count
      go zero k = stuck_rows (sym k) m e
      go (suc t) k = moving_rows (λ z. omega arith) m e

  pub is_panel : panel (card_in h x) seats ≡ panel_in h table x.rows x.branches
  unfolding count_panel panel_in
  is_panel =
      let told : shared_shown (card_in h x).shared seats.shared ≡ shown_if h.shared (shared_in table) = shown_if_law h.shared h.initial seats.shared ∙ ap (shown_if h.shared) (sym same_shared) in
      let shown : count_blocks (mode_in h) h.seats h.top (shared_values (card_in h x).shared) c statements ≡ blocks_in (mode_in h) h.top values table x.rows x.branches h.count =
      ap (λ (m : ℕ). count_blocks (mode_in h) h.seats h.top m c statements) (values_one h.shared h.initial) ∙ blocks_rows (mode_in h) refl in
      panel_by_counts (card_in h x) seats ok
      ∙ (λ r. record {
        mode = mode_in h;
        seats = h.seats;
        enabled = enabled_row v ok r;
        counts = sym (table_counts v ok) r;
        shared = told r;
        blocks = shown r;
      })
