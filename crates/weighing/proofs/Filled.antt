-- The table of a card and a seating of it, number by number: a step stores its own places and leaves the others. So what the code adds up
-- fits, and each number is the one by counts. Assumes nothing.
use Prim.Native.Nat.{ℕ, zero, suc, ◌+◌, ◌*◌, ◌≤◌, ◌<◌}
use mathlib.Core.Path.{◌≡◌, refl, sym, ap, ap₂, ◌∙◌}
use mathlib.Core.Logic.{◌⊎◌, inl, inr}
use mathlib.Core.List.{List}
use mathlib.Core.Option.{Option, none, some}
use native.Mathlib.Nat.{zero-add, not-suc-le-zero, le_of_suc-le-suc}
use native.Mathlib.Numerals.{add-one}
use native.Mathlib.Decide.{ℕ_discrete}
use native.Mathlib.Omega.{arith}
use borrow.Author.Tests.{eq-eqb, ne_eqb}
use lib.Dec.{eqb}
use lib.ListN.{length, get_or, set, take, length-set}
use lib.Seq.{get_or-set_same, get_or-set_other}
use Rattle.card.specs.Limits.{most_seats, top_state, most_states, most_shared, most_nodes, unit}
use Rattle.card.specs.Card.{Mode, nondeterministic, probabilistic, Guard, Shared}
use Rattle.card.specs.Valid.{Every, values_of, ValidShared, ValidStatement}
use Rattle.card.specs.Laid.{zeros, guard_of, statement_of}
use Rattle.card.specs.Rows.{row_of}
use Rattle.card.specs.Lent.{Lent, card_in, HoldsIn}
use Rattle.card.specs.declared.Head.{Head}
use Rattle.card.proofs.Filling.{length_zeros}
use Rattle.card.proofs.HeldIn.{holds_card, holds_seats, holds_top, holds_count, holds_rows, holds_branches}
use Rattle.meaning.specs.Sums.{gate, upto}
use Rattle.meaning.specs.Position.{Position, position, shared_values}
use Rattle.meaning.specs.Seats.{Seating, ValidSeating, count, counts, counted as seen}
use Rattle.meaning.specs.Reduced.{no_of}
use Rattle.meaning.specs.ByCounts.{held_or}
use Rattle.meaning.proofs.Sums.{gate_le, gate_zero, get_d_upto}
use Rattle.meaning.proofs.Counting.{length_counts}
use Rattle.meaning.proofs.Bounds.{into_le}
use Rattle.panel_numbers.specs.Taking.{takers}
use Rattle.seating.proofs.Counted.{counts_most}
use Rattle.panel_numbers.specs.Table.{shared_place, enabled_place, stays_from, ables_from, table_places, shared_in, stay_in, able_in, over, able_at, taken_in, weighing_row}
use Rattle.panel_numbers.specs.Table.{stay_by, mode_in, stayed, counted, shared_set, abled, taken, stuck_table, enabled_set, moving_table, table_of}
use Rattle.panel_numbers.specs.Fitting.{FewAble, Fitting, Weighing, Filling}
use Rattle.panel_numbers.proofs.Statements.{at, statements_upto}
use Rattle.panel_numbers.proofs.Stored.{over_else, over_at, over_long, take_is, upto_take}

-- ---- the card's statements, one for each row

every_in : {A : Type 0} (P : A → Type 0) (n : ℕ) (f : ℕ → A) → Every P (upto n f) → (i : ℕ) → i < n → P (f i)
every_in P zero f e i l = absurd (not-suc-le-zero l)
every_in P (suc n) f e zero l = e.0
every_in P (suc n) f e (suc i) l = every_in P n (λ j. f (suc j)) e.1 i (le_of_suc-le-suc l)

module _ {h : Head} {x : Lent} (v : HoldsIn h x) where
  abbrev values : ℕ
  values = values_of (card_in h x).shared

  row_valid : (i : ℕ) → i < h.count → ValidStatement h.seats h.top values (at x.nodes x.branches x.rows i)
  row_valid i l =
      let same : v.card ≡ card_in h x = sym (holds_card v) in
      let ok : Every (ValidStatement h.seats h.top values) (card_in h x).statements = rw same at v.valid.statements in
      every_in (ValidStatement h.seats h.top values) h.count (at x.nodes x.branches x.rows)
      (rw (statements_upto x.nodes x.branches x.rows h.count) at ok) i l

  pub fitting : Fitting h.top x.rows x.branches h.count
  unfolding statement_of
  fitting = record {
    top = holds_top v;
    fit = holds_rows v;
    there = holds_branches v;
    own = λ i l. (row_valid i l).own;
    units = λ i l g b t. omega (arith, into_le g b t (weighing_row x.rows x.branches i).branches, (row_valid i l).sum);
  }

  -- the shared number of a seating is one of its values
  few_values : (s : Option Shared) → ValidShared s → shared_values s ≤ most_shared
  few_values none ok = omega arith
  few_values (some s) ok = omega (arith, ok.0)

  pub shared_few : (seats : Seating) → ValidSeating (card_in h x) seats → seats.shared < most_shared
  shared_few seats ok =
      let valid : ValidShared (card_in h x).shared = rw (← holds_card v) at v.valid.shared in
      omega (arith, ok.shared, few_values (card_in h x).shared valid)

-- ---- number by number

pub zeros_at : (n p : ℕ) → get_or (zeros n) p 0 ≡ 0
unfolding zeros
zeros_at zero p = refl
zeros_at (suc n) zero = refl
zeros_at (suc n) (suc p) = zeros_at n p

module _ (h : Head) (x : Lent) (seats : Seating) where
  abbrev count_by : ℕ → ℕ
  count_by d = get_or (counts top_state seats.each) d 0

  abbrev able_by : ℕ → ℕ
  able_by i = able_at h.seats (position (take (h.top + 1) (counts top_state seats.each)) seats.shared) x.nodes x.rows i

  counted_long : length (counted h x seats) ≡ table_places
  unfolding counted
  counted_long = over_long 0 count_by (zeros table_places) most_states ∙ length_zeros table_places

  shared_long : length (shared_set h x seats) ≡ table_places
  unfolding shared_set
  shared_long = length-set (counted h x seats) shared_place seats.shared ∙ counted_long

  abled_long : length (abled h x seats) ≡ table_places
  unfolding abled
  abled_long = over_long ables_from able_by (shared_set h x seats) h.count ∙ shared_long

  pub enabled_long : length (enabled_set h x seats) ≡ table_places
  unfolding enabled_set
  enabled_long = length-set (abled h x seats) enabled_place _ ∙ abled_long

  -- before the ables
  abled_before : (p : ℕ) → p < ables_from → get_or (abled h x seats) p 0 ≡ get_or (shared_set h x seats) p 0
  unfolding abled
  abled_before p l = over_else ables_from able_by (shared_set h x seats) h.count p (inl l)

  abled_shared : shared_in (abled h x seats) ≡ seats.shared
  unfolding shared_set
  abled_shared = abled_before shared_place (omega arith) ∙ get_or-set_same (counted h x seats) shared_place _ 0 (omega (arith, counted_long))

  abled_count : (d : ℕ) → d < most_states → get_or (abled h x seats) d 0 ≡ count_by d
  unfolding shared_set counted
  abled_count d l =
      abled_before d (omega arith)
      ∙ get_or-set_other (counted h x seats) shared_place d _ 0 (λ e. omega arith)
      ∙ rw (zero-add d) at (over_at 0 count_by (zeros table_places) most_states d l (omega (arith, length_zeros table_places)))

  -- no weights yet
  abled_stay : (t : ℕ) → t < most_shared → stay_in (abled h x seats) t ≡ 0
  unfolding shared_set counted
  abled_stay t l =
      abled_before (stays_from + t) (omega arith)
      ∙ get_or-set_other (counted h x seats) shared_place (stays_from + t) _ 0 (λ e. omega arith)
      ∙ over_else 0 count_by (zeros table_places) most_states (stays_from + t) (inr (omega arith))
      ∙ zeros_at table_places (stays_from + t)

  enabled_else : (p : ℕ) → (p ≡ enabled_place → ⊥) → get_or (enabled_set h x seats) p 0 ≡ get_or (abled h x seats) p 0
  unfolding enabled_set
  enabled_else p n = get_or-set_other (abled h x seats) enabled_place p _ 0 n

  pub enabled_shared : shared_in (enabled_set h x seats) ≡ seats.shared
  enabled_shared = enabled_else shared_place (λ e. omega arith) ∙ abled_shared

  pub enabled_able : (i : ℕ) → able_in (enabled_set h x seats) i ≡ able_in (abled h x seats) i
  enabled_able i = enabled_else (ables_from + i) (λ e. omega arith)

  -- what is stored last: the weights of no change
  abbrev Else : ℕ → Type 0
  Else p = (p < stays_from) ⊎ (ables_from ≤ p)

  moving_else : (m : Mode) (p : ℕ) → Else p → get_or (stayed m x.rows x.branches h.count (enabled_set h x seats)) p 0 ≡ get_or (enabled_set h x seats) p 0
  unfolding stayed
  moving_else nondeterministic p l = refl
  moving_else probabilistic p l = over_else stays_from (stay_by (enabled_set h x seats) x.rows x.branches h.count) (enabled_set h x seats) most_shared p l

  moving_long : (m : Mode) → length (stayed m x.rows x.branches h.count (enabled_set h x seats)) ≡ table_places
  unfolding stayed
  moving_long nondeterministic = enabled_long
  moving_long probabilistic = over_long stays_from (stay_by (enabled_set h x seats) x.rows x.branches h.count) (enabled_set h x seats) most_shared ∙ enabled_long

  stuck_else : (p : ℕ) → (p ≡ stays_from + seats.shared → ⊥) → (p ≡ enabled_place → ⊥) → get_or (stuck_table h x seats) p 0 ≡ get_or (abled h x seats) p 0
  unfolding stuck_table
  stuck_else p n m = get_or-set_other (set (abled h x seats) enabled_place 1) (stays_from + seats.shared) p unit 0 n ∙ get_or-set_other (abled h x seats) enabled_place p 1 0 m

  -- ---- the whole table

  is_stuck : taken h x seats ≡ 0 → table_of h x seats ≡ stuck_table h x seats
  unfolding table_of
  is_stuck z = rw (eq-eqb (taken h x seats) 0 z)

  is_moving : (taken h x seats ≡ 0 → ⊥) → table_of h x seats ≡ moving_table h x seats
  unfolding table_of
  is_moving s = rw (ne_eqb (taken h x seats) 0 s)

  pub stuck_enabled : taken h x seats ≡ 0 → get_or (table_of h x seats) enabled_place 0 ≡ 1
  unfolding stuck_table
  stuck_enabled z = rw (is_stuck z)
      (get_or-set_other (set (abled h x seats) enabled_place 1) (stays_from + seats.shared) enabled_place unit 0 (λ e. omega arith)
      ∙ get_or-set_same (abled h x seats) enabled_place 1 0 (omega (arith, abled_long)))

  pub table_enabled : (taken h x seats ≡ 0 → ⊥) → get_or (table_of h x seats) enabled_place 0 ≡ taken h x seats
  unfolding enabled_set moving_table
  table_enabled s = rw (is_moving s)
      (moving_else (mode_in h) enabled_place (inl (omega arith)) ∙ get_or-set_same (abled h x seats) enabled_place _ 0 (omega (arith, abled_long)))

  -- a nondeterministic card has no weights in its table
  pub no_stay : (taken h x seats ≡ 0 → ⊥) → mode_in h ≡ nondeterministic → (t : ℕ) → t < most_shared → stay_in (table_of h x seats) t ≡ 0
  unfolding moving_table stayed
  no_stay s m t l =
      ap (λ (l : List ℕ). stay_in l t) (is_moving s)
      ∙ ap (λ (k : Mode). stay_in (stayed k x.rows x.branches h.count (enabled_set h x seats)) t) m
      ∙ enabled_else (stays_from + t) (λ e. omega arith)
      ∙ abled_stay t l

  pub table_stay : (taken h x seats ≡ 0 → ⊥) → mode_in h ≡ probabilistic → (t : ℕ) → t < most_shared
      → stay_in (table_of h x seats) t ≡ stay_by (enabled_set h x seats) x.rows x.branches h.count t
  unfolding moving_table stayed
  table_stay s m t l =
      ap (λ (l : List ℕ). stay_in l t) (is_moving s)
      ∙ ap (λ (k : Mode). stay_in (stayed k x.rows x.branches h.count (enabled_set h x seats)) t) m
      ∙ over_at stays_from (stay_by (enabled_set h x seats) x.rows x.branches h.count) (enabled_set h x seats) most_shared t l (omega (arith, enabled_long))

  module _ (few : seats.shared < most_shared) where
    pub table_long : length (table_of h x seats) ≡ table_places
    unfolding stuck_table moving_table
    table_long = go (ℕ_discrete (taken h x seats) 0)
      where
        go : Dec (taken h x seats ≡ 0) → length (table_of h x seats) ≡ table_places
        go (yes z) = rw (is_stuck z) (length-set (set (abled h x seats) enabled_place 1) (stays_from + seats.shared) unit ∙ length-set (abled h x seats) enabled_place 1 ∙ abled_long)
        go (no s) = rw (is_moving s) (moving_long (mode_in h))

    -- in either case
    table_else : (p : ℕ) → Else p → (p ≡ enabled_place → ⊥) → get_or (table_of h x seats) p 0 ≡ get_or (abled h x seats) p 0
    unfolding moving_table
    table_else p l m = go (ℕ_discrete (taken h x seats) 0)
      where
        apart : Else p → p ≡ stays_from + seats.shared → ⊥
        apart (inl k) e = omega arith
        apart (inr k) e = omega arith

        go : Dec (taken h x seats ≡ 0) → get_or (table_of h x seats) p 0 ≡ get_or (abled h x seats) p 0
        go (yes z) = rw (is_stuck z) (stuck_else p (apart l) m)
        go (no s) = rw (is_moving s) (moving_else (mode_in h) p l ∙ enabled_else p m)

    pub table_shared : shared_in (table_of h x seats) ≡ seats.shared
    table_shared = table_else shared_place (inl (omega arith)) (λ e. omega arith) ∙ abled_shared

    pub table_able_first : (i : ℕ) → able_in (table_of h x seats) i ≡ able_in (abled h x seats) i
    table_able_first i = table_else (ables_from + i) (inr (omega arith)) (λ e. omega arith)

    pub table_count : (d : ℕ) → d < most_states → get_or (table_of h x seats) d 0 ≡ count_by d
    table_count d l = table_else d (inl (omega arith)) (λ e. omega arith) ∙ abled_count d l

    -- where none can be taken there is one weight
    pub stuck_stay : taken h x seats ≡ 0 → (t : ℕ) → t < most_shared → stay_in (table_of h x seats) t ≡ gate (eqb seats.shared t) unit
    unfolding stuck_table
    stuck_stay z t l = go (ℕ_discrete seats.shared t)
      where
        go : Dec (seats.shared ≡ t) → stay_in (table_of h x seats) t ≡ gate (eqb seats.shared t) unit
        go (yes e) = rw (is_stuck z, ← e, eq-eqb seats.shared seats.shared refl)
            (get_or-set_same (set (abled h x seats) enabled_place 1) (stays_from + seats.shared) unit 0 (rw length-set (omega (arith, abled_long))))
        go (no n) = rw (is_stuck z, ne_eqb seats.shared t n) (stuck_else (stays_from + t) (λ e. n (omega arith)) (λ e. omega arith) ∙ abled_stay t l)

module _ {h : Head} {x : Lent} {seats : Seating} (v : HoldsIn h x) (ok : ValidSeating (card_in h x) seats) where
  abbrev few : seats.shared < most_shared
  few = shared_few v seats ok

  -- the counts that a card of top state k shows are the first k + 1 of all
  shown_is : take (h.top + 1) (counts top_state seats.each) ≡ counts h.top seats.each
  unfolding counts
  shown_is = rw (add-one h.top) (upto_take (suc top_state) (suc h.top) (λ d. count d seats.each) (omega (arith, holds_top v)))

  takers_most : (j : ℕ) (g : Option Guard) → takers h.seats (seen h.top seats) j g ≤ most_seats
  unfolding takers
  takers_most j g =
      omega (arith, gate_le (held_or h.seats j (seen h.top seats) g) (no_of (counts h.top seats.each) j), counts_most h.top seats.each j, ok.seats, holds_seats v)

  abled_at : (i : ℕ) → i < h.count → able_in (abled h x seats) i ≡ able_at h.seats (seen h.top seats) x.nodes x.rows i
  unfolding abled
  abled_at i l =
      over_at ables_from (able_by h x seats) (shared_set h x seats) h.count i l (omega (arith, shared_long h x seats, holds_count v))
      ∙ ap (λ (u : List ℕ). able_at h.seats (position u seats.shared) x.nodes x.rows i) shown_is

  pub few_able : FewAble (abled h x seats) h.count
  few_able = record { statements = holds_count v; seats = λ i l. rw (abled_at i l) (takers_most (row_of x.rows i).own _) }

  pub ready : Weighing h x.rows x.branches (enabled_set h x seats)
  ready = record {
    fitting = fitting v;
    able = record { statements = holds_count v; seats = λ i l. rw (enabled_able h x seats i) (few_able.seats i l) };
    shared = rw (enabled_shared h x seats) few;
  }

  -- ---- the whole table

  pub table_able : (i : ℕ) → i < h.count → able_in (table_of h x seats) i ≡ able_at h.seats (seen h.top seats) x.nodes x.rows i
  table_able i l = table_able_first h x seats few i ∙ abled_at i l

  count_at : (d : ℕ) → d < h.top + 1 → get_or (table_of h x seats) d 0 ≡ get_or (counts h.top seats.each) d 0
  unfolding counts
  count_at d l =
      table_count h x seats few d (omega (arith, holds_top v))
      ∙ get_d_upto (suc top_state) (λ e. count e seats.each) d 0 (omega (arith, holds_top v))
      ∙ sym (get_d_upto (suc h.top) (λ e. count e seats.each) d 0 (omega arith))

  pub table_counts : take (h.top + 1) (table_of h x seats) ≡ counts h.top seats.each
  table_counts =
      take_is (h.top + 1) (table_of h x seats) (counts h.top seats.each) (length_counts h.top seats.each ∙ omega arith) (omega (arith, table_long h x seats few, holds_top v)) count_at

  pub ready_shown : Weighing h x.rows x.branches (table_of h x seats)
  ready_shown = record {
    fitting = fitting v;
    able = record { statements = holds_count v; seats = λ i l. rw (table_able_first h x seats few i) (few_able.seats i l) };
    shared = rw (table_shared h x seats few) few;
  }

  -- where no seat is in a statement's state none is able to take it
  pub nobody : (i : ℕ) → i < h.count → get_or (table_of h x seats) (row_of x.rows i).own 0 ≡ 0 → able_in (table_of h x seats) i ≡ 0
  unfolding takers
  nobody i l z =
      let own = (row_of x.rows i).own in
      let none-there : no_of (counts h.top seats.each) own ≡ 0 = sym (count_at own (omega (arith, (fitting v).own i l))) ∙ z in
      table_able i l ∙ rw none-there (gate_zero (held_or h.seats own (seen h.top seats) (guard_of x.nodes (i * most_nodes) (row_of x.rows i).nodes)))

-- ---- step by step, as the code fills it

pub counts_long : (seats : Seating) {cs : List ℕ} → cs ≡ counts top_state seats.each → length cs ≡ most_states
counts_long seats e = rw e (length_counts top_state seats.each)

module _ {table : List ℕ} {h : Head} {x : Lent} {seats : Seating} (f : Filling table h x seats) {cs t : List ℕ} {g : ℕ}
    (counting : cs ≡ counts top_state seats.each) (shared : g ≡ seats.shared) (first : t ≡ over 0 (length cs) (λ d. get_or cs d 0) table) where
  pub prefix_fits : h.top + 1 ≤ length cs
  prefix_fits = omega (arith, holds_top f.holds, counts_long seats counting)

  pub shared_fits : g < most_shared
  shared_fits = rw shared (shared_few f.holds seats f.seating)

  module _ {u : List ℕ} (second : u ≡ over ables_from h.count (able_at h.seats (position (take (h.top + 1) cs) g) x.nodes x.rows) (set t shared_place g)) where
    counted_is : t ≡ counted h x seats
    unfolding counted
    counted_is = first ∙ ap (λ (n : ℕ). over 0 n (λ d. get_or cs d 0) table) (counts_long seats counting)
        ∙ ap₂ (λ (v l : List ℕ). over 0 most_states (λ d. get_or v d 0) l) counting f.empty

    shared_is : set t shared_place g ≡ shared_set h x seats
    unfolding shared_set
    shared_is = ap₂ (λ (l : List ℕ) (a : ℕ). set l shared_place a) counted_is shared

    abled_is : u ≡ abled h x seats
    unfolding abled
    abled_is =
        second
        ∙ ap₂ (λ (p : Position) (l : List ℕ). over ables_from h.count (able_at h.seats p x.nodes x.rows) l)
        (ap₂ (λ (v : List ℕ) (a : ℕ). position (take (h.top + 1) v) a) counting shared) shared_is

    pub able_fits : FewAble u h.count
    able_fits = rw abled_is (few_able f.holds f.seating)

    module _ {n : ℕ} (third : n ≡ taken_in (mode_in h) u h.count) where
      taken_is : n ≡ taken h x seats
      unfolding taken
      taken_is = third ∙ ap (λ (l : List ℕ). taken_in (mode_in h) l h.count) abled_is

      -- none can be taken
      pub filled_stuck : n ≡ 0 → {w : ℕ} → w ≡ unit → set (set u enabled_place 1) (stays_from + g) w ≡ table_of h x seats
      unfolding stuck_table
      filled_stuck z {w} e =
          ap₂ (λ (l : List ℕ) (a : ℕ). set (set l enabled_place 1) (stays_from + a) w) abled_is shared
          ∙ ap (λ (m : ℕ). set (set (abled h x seats) enabled_place 1) (stays_from + seats.shared) m) e
          ∙ sym (is_stuck h x seats (sym taken_is ∙ z))

      enabled_is : set u enabled_place n ≡ enabled_set h x seats
      unfolding enabled_set
      enabled_is = ap₂ (λ (l : List ℕ) (m : ℕ). set l enabled_place m) abled_is taken_is

      pub weighing_fits : Weighing h x.rows x.branches (set u enabled_place n)
      weighing_fits = rw enabled_is (ready f.holds f.seating)

      pub filled : (n ≡ 0 → ⊥) → {w : List ℕ} → w ≡ stayed (mode_in h) x.rows x.branches h.count (set u enabled_place n) → w ≡ table_of h x seats
      unfolding moving_table
      filled s e = e ∙ ap (stayed (mode_in h) x.rows x.branches h.count) enabled_is ∙ sym (is_moving h x seats (λ z. s (taken_is ∙ z)))
