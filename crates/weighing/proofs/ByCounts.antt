-- The numbers of the table, and the weights added up from it, are those of the panel by counts: sums over a card's statements are sums over
-- its rows. Where nothing can be taken no seat is able to take anything, so nothing moves. Assumes nothing.
use Prim.Native.Nat.{ℕ, zero, suc, ◌*◌, ◌<◌}
use mathlib.Core.Path.{◌≡◌, refl, sym, ap, ◌∙◌}
use mathlib.Core.List.{List}
use native.Mathlib.Nat.{not-suc-le-zero, le_of_suc-le-suc}
use native.Mathlib.Omega.{arith}
use lib.Dec.{ltb}
use lib.ListN.{get_or}
use Rattle.card.specs.Limits.{most_shared}
use Rattle.card.specs.Card.{Mode, nondeterministic, probabilistic, Statement}
use Rattle.card.specs.Laid.{statement_of, statements_of}
use Rattle.card.specs.Rows.{rows_from}
use Rattle.card.specs.Lent.{Lent, card_in, HoldsIn}
use Rattle.card.specs.declared.Head.{Head}
use Rattle.meaning.specs.Sums.{gate, or_one, sum}
use Rattle.meaning.specs.Position.{Position}
use Rattle.meaning.specs.Seats.{Seating, ValidSeating, counted as seen}
use Rattle.meaning.specs.ByCounts.{able, stay_of, move_of, all_able, all_stay, all_move, count_taken, count_enabled}
use Rattle.meaning.proofs.Sums.{sum_upto, below_cong, below_zero}
use Rattle.panel_numbers.specs.Taking.{takers}
use Rattle.panel_numbers.specs.Table.{enabled_place, shared_in, stay_in, able_in, total, taken_in, weighing_row, move_by, stay_by, mode_in}
use Rattle.panel_numbers.specs.Table.{abled, taken, enabled_set, table_of}
use Rattle.panel_numbers.proofs.Statements.{at, statements_upto}
use Rattle.weighing.proofs.Filled.{shared_few, stuck_enabled, table_enabled, table_shared, table_able_first, enabled_shared, enabled_able, table_able, table_stay}

sum_rows : (nodes branches rows : List ℕ) (f : Statement → ℕ) (c : ℕ) → sum f (statements_of nodes branches (rows_from rows 0 c) 0) ≡ total c (λ i. f (at nodes branches rows i))
sum_rows nodes branches rows f c = ap (sum f) (statements_upto nodes branches rows c) ∙ sum_upto f c (at nodes branches rows)

none_of : (n : ℕ) (f : ℕ → ℕ) → total n f ≡ 0 → (i : ℕ) → i < n → f i ≡ 0
none_of zero f e i l = absurd (not-suc-le-zero l)
none_of (suc n) f e zero l = omega arith
none_of (suc n) f e (suc i) l = none_of n (λ j. f (suc j)) (omega arith) i (le_of_suc-le-suc l)

module _ {h : Head} {x : Lent} {seats : Seating} (v : HoldsIn h x) (ok : ValidSeating (card_in h x) seats) where
  abbrev n : ℕ
  n = h.seats

  abbrev c : Position
  c = seen h.top seats

  abbrev statement : ℕ → Statement
  statement i = at x.nodes x.branches x.rows i

  abbrev statements : List Statement
  statements = statements_of x.nodes x.branches (rows_from x.rows 0 h.count) 0

  abbrev table : List ℕ
  table = table_of h x seats

  abbrev few : seats.shared < most_shared
  few = shared_few v seats ok

  over_rows : (f : Statement → ℕ) → sum f statements ≡ total h.count (λ i. f (statement i))
  over_rows f = sum_rows x.nodes x.branches x.rows f h.count

  pub able_row : (i : ℕ) → i < h.count → able_in table i ≡ able n c (statement i)
  unfolding able takers statement_of
  able_row i l = table_able v ok i l

  able_first : (i : ℕ) → i < h.count → able_in (abled h x seats) i ≡ able n c (statement i)
  able_first i l = sym (table_able_first h x seats few i) ∙ able_row i l

  taken_by : (m : Mode) → count_taken m n c statements ≡ taken_in m (abled h x seats) h.count
  unfolding count_taken all_able taken_in
  taken_by nondeterministic = over_rows (λ s. gate (ltb 0 (able n c s)) 1) ∙ below_cong h.count _ (λ i. gate (ltb 0 (able_in (abled h x seats) i)) 1) (λ i l. rw (able_first i l))
  taken_by probabilistic = over_rows (able n c) ∙ below_cong h.count _ (λ i. able_in (abled h x seats) i) (λ i l. sym (able_first i l))

  pub taken_row : count_taken (mode_in h) n c statements ≡ taken h x seats
  unfolding taken
  taken_row = taken_by (mode_in h)

  pub enabled_row : count_enabled (mode_in h) n c statements ≡ get_or table enabled_place 0
  unfolding count_enabled
  enabled_row = ap or_one taken_row ∙ go (taken h x seats) refl
    where
      go : (t : ℕ) → taken h x seats ≡ t → or_one t ≡ get_or table enabled_place 0
      go zero e = sym (stuck_enabled h x seats e)
      go (suc t) e = sym (table_enabled h x seats (λ z. omega arith) ∙ e)

  -- ---- weights, of any table with the same ables and the same shared number

  module _ (t : List ℕ) (same : (i : ℕ) → i < h.count → able_in t i ≡ able n c (statement i)) (shared : shared_in t ≡ seats.shared) where
    moves_of : (a b g : ℕ) → all_move n c statements a b g ≡ move_by t x.rows x.branches h.count a b g
    unfolding all_move move_by move_of statement_of
    moves_of a b g =
        over_rows (λ s. able n c s * move_of seats.shared s a b g)
        ∙ below_cong h.count _ (λ i. able_in t i * move_of (shared_in t) (weighing_row x.rows x.branches i) a b g) (λ i k. rw (same i k, shared))

    stays_of : (g : ℕ) → all_stay n c statements g ≡ stay_by t x.rows x.branches h.count g
    unfolding all_stay stay_by stay_of statement_of
    stays_of g =
        over_rows (λ s. able n c s * stay_of seats.shared s g)
        ∙ below_cong h.count _ (λ i. able_in t i * stay_of (shared_in t) (weighing_row x.rows x.branches i) g) (λ i k. rw (same i k, shared))

  pub move_row : (a b g : ℕ) → all_move n c statements a b g ≡ move_by table x.rows x.branches h.count a b g
  move_row = moves_of table able_row (table_shared h x seats few)

  -- of a probabilistic card
  pub stay_row : (taken h x seats ≡ 0 → ⊥) → mode_in h ≡ probabilistic → (g : ℕ) → g < most_shared → all_stay n c statements g ≡ stay_in table g
  stay_row s m g l =
      stays_of (enabled_set h x seats) (λ i k. enabled_able h x seats i ∙ able_first i k) (enabled_shared h x seats) g ∙ sym (table_stay h x seats s m g l)

  pub stuck_moves : taken h x seats ≡ 0 → mode_in h ≡ probabilistic → (a b g : ℕ) → move_by table x.rows x.branches h.count a b g ≡ 0
  unfolding move_by taken taken_in
  stuck_moves z m a b g =
      let none : total h.count (λ i. able_in (abled h x seats) i) ≡ 0 = ap (λ (k : Mode). taken_in k (abled h x seats) h.count) (sym m) ∙ z in
      let able-none : (i : ℕ) → i < h.count → able_in table i ≡ 0 = λ i l. table_able_first h x seats few i ∙ none_of h.count (λ i. able_in (abled h x seats) i) none i l in
      below_cong h.count _ (λ i. 0) (λ i l. rw (able-none i l) (omega arith)) ∙ below_zero h.count
