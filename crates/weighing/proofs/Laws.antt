-- How many can be taken, after each turn of a loop: what a statement counts for, and their sum, which fits. Assumes nothing.
use Prim.Native.Nat.{ℕ, ◌+◌, ◌-◌, ◌*◌, ◌≤◌, ◌<◌}
use mathlib.Core.Path.{◌≡◌, refl, sym, ap, ◌∙◌}
use mathlib.Core.List.{List}
use mathlib.Core.Logic.{inl, inr}
use native.Mathlib.Decide.{dec_lt}
use native.Mathlib.Omega.{arith}
use borrow.Rule.Slice.PartMut.{mid_of, put_mid, same_len_mid}
use lib.ListN.{length, get_or, take, drop, length-take, length-drop, get_or-append}
use lib.Seq.{get_or-take, get_or-drop, ext_get_or}
use Rattle.std.proofs.lemmas.List.{get_or-append_right}
use borrow.Author.Tests.{eq-eqb, ne_eqb, lt-ltb}
use lib.Dec.{ltb}
use Rattle.card.specs.Limits.{most_seats}
use Rattle.card.specs.Card.{Mode, nondeterministic, probabilistic}
use Rattle.card.specs.Laid.{either}
use Rattle.meaning.proofs.Sums.{gate_le}
use Rattle.panel_numbers.specs.Table.{able_in, counts_as, taken_in, over}
use Rattle.panel_numbers.specs.Fitting.{FewAble}
use Rattle.panel_numbers.proofs.Stored.{total_more, total_most, over_long, over_else, over_at}

module _ {able : ℕ} {mode : ℕ} where
  pub counts_pair : (mode ≡ 0 → ⊥) → able ≡ counts_as (either nondeterministic probabilistic mode) able
  counts_pair h = rw (ne_eqb mode 0 h)

  pub counts_none : mode ≡ 0 → able ≡ 0 → 0 ≡ counts_as (either nondeterministic probabilistic mode) able
  counts_none h e = rw (eq-eqb mode 0 h, e)

  pub counts_once : mode ≡ 0 → (able ≡ 0 → ⊥) → 1 ≡ counts_as (either nondeterministic probabilistic mode) able
  counts_once h e = let l : 0 < able = omega arith in rw (eq-eqb mode 0 h, lt-ltb 0 able l)

pub counts_most : (m : Mode) (able most : ℕ) → 1 ≤ most → able ≤ most → counts_as m able ≤ most
counts_most nondeterministic able most h l = omega (arith, gate_le (ltb 0 able) 1)
counts_most probabilistic able most h l = l

module _ (m : Mode) (table : List ℕ) where
  pub taken_start : 0 ≡ taken_in m table 0
  unfolding taken_in
  taken_start = refl

  pub taken_next : (i : ℕ) {taken more : ℕ} → taken ≡ taken_in m table i → more ≡ counts_as m (able_in table i) → taken + more ≡ taken_in m table (i + 1)
  unfolding taken_in
  taken_next i e h = rw (e, h) (sym (total_more i (λ j. counts_as m (able_in table j))))

  pub taken_end : (i count : ℕ) → i ≤ count → count ≤ i → taken_in m table i ≡ taken_in m table count
  taken_end i count h l = let e : i ≡ count = omega arith in rw e

  module _ {count : ℕ} (f : FewAble table count) where
    pub taken_most : (i : ℕ) → i ≤ count → taken_in m table i ≤ i * most_seats
    unfolding taken_in
    taken_most i h = total_most i (λ j. counts_as m (able_in table j)) most_seats (λ j l. counts_most m (able_in table j) most_seats (omega arith) (f.seats j (omega arith)))

    pub taken_more : (i : ℕ) → i < count → counts_as m (able_in table i) ≤ most_seats
    taken_more i h = counts_most m (able_in table i) most_seats (omega arith) (f.seats i h)

-- ---- numbers copied into a part of a table

-- what stands at a place of a part
pub in_part : (l : List ℕ) (from n j : ℕ) → j < length (take n (drop from l)) → get_or (take n (drop from l)) j 0 ≡ get_or l (from + j) 0
in_part l from n j h = get_or-take n (drop from l) j 0 (omega (arith, length-take n (drop from l))) ∙ get_or-drop from l j 0

stored_at : (from : ℕ) (xs table : List ℕ) → from + length xs ≤ length table → (p : ℕ) → Dec (p < from) → Dec (p < from + length xs)
    → get_or (put_mid from (length xs) table xs) p 0 ≡ get_or (over from (length xs) (λ d. get_or xs d 0) table) p 0
stored_at from xs table fit p (yes h) _ =
    get_or-append (take from table) _ 0 p (omega (arith, length-take from table)) ∙ get_or-take from table p 0 h ∙ sym (over_else from (λ d. get_or xs d 0) table (length xs) p (inl h))
stored_at from xs table fit p (no h) (yes k) =
    let before : length (take from table) ≡ from = omega (arith, length-take from table) in
    let i : ℕ = p - from in
    let at : p ≡ from + i = omega arith in
    get_or-append_right (take from table) _ from p 0 before (omega arith) ∙ get_or-append xs _ 0 i (omega arith)
    ∙ sym (over_at from (λ d. get_or xs d 0) table (length xs) i (omega arith) fit) ∙ ap (λ q. get_or (over from (length xs) (λ d. get_or xs d 0) table) q 0) (sym at)
stored_at from xs table fit p (no h) (no k) =
    let before : length (take from table) ≡ from = omega (arith, length-take from table) in
    let at : from + (length xs + (p - from - length xs)) ≡ p = omega arith in
    get_or-append_right (take from table) _ from p 0 before (omega arith) ∙ get_or-append_right xs _ (length xs) (p - from) 0 refl (omega arith)
    ∙ get_or-drop (length xs) (drop from table) _ 0 ∙ get_or-drop from table _ 0 ∙ ap (λ q. get_or table q 0) at ∙ sym (over_else from (λ d. get_or xs d 0) table (length xs) p (inr (omega arith)))

pub stored_part : (from : ℕ) (xs table : List ℕ) → from + length xs ≤ length table → put_mid from (length xs) table xs ≡ over from (length xs) (λ d. get_or xs d 0) table
stored_part from xs table fit =
    let part : length xs ≡ length (mid_of from (length xs) table) = omega (arith, length-take (length xs) (drop from table), length-drop from table) in
    ext_get_or 0 _ _ (same_len_mid from (length xs) table xs part ∙ sym (over_long from (λ d. get_or xs d 0) table (length xs))) (λ p l. stored_at from xs table fit p (dec_lt p from) (dec_lt p (from + length xs)))
