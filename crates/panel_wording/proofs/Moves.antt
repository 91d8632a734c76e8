-- Lists of moves: of lists that are all empty but one that one is left, so the moves of a statement are those from its own state. Assumes nothing.
use Prim.Native.Nat.{ℕ, zero, suc, ◌+◌, ◌-◌, ◌*◌, ◌≤◌, ◌<◌}
use mathlib.Core.Path.{◌≡◌, refl, sym, ap, ◌∙◌}
use mathlib.Core.List.{List, [], append-nil}
use native.Mathlib.Nat.{not-suc-le-zero, le_of_suc-le-suc}
use native.Mathlib.Omega.{arith}
use borrow.Author.Tests.{eq-eqb, ne_eqb}
use lib.Dec.{eqb}
use lib.ListN.{length, get_or, take, drop, length-drop}
use lib.Seq.{length-take-le, get_or-take, get_or-drop}
use Rattle.card.specs.Limits.{most_shared}
use Rattle.meaning.specs.Sums.{gate, or_one, upto, flat}
use Rattle.meaning.specs.Panel.{Move, Stay, stay_line, move_line, moves_from}
use Rattle.meaning.proofs.Sums.{upto_cong}
use Rattle.meaning.proofs.Panel.{flat_empty, no_line}
use Rattle.panel_numbers.specs.Table.{weight_in}
use Rattle.panel_wording.specs.PanelText.{moves_text}
use Rattle.panel_wording.specs.PanelIn.{Row, tells}
use Rattle.panel_wording.proofs.Laws.{one_most}

-- of lists that are all empty but one
flat_only : {A : Type 0} (n j : ℕ) (f : ℕ → List A) → j < n → ((i : ℕ) → (i ≡ j → ⊥) → f i ≡ []) → flat (upto n f) ≡ f j
flat_only zero j f l h = absurd (not-suc-le-zero l)
flat_only (suc n) zero f l h = rw (flat_empty n (λ i. f (suc i)) (λ i. h (suc i) (λ e. omega arith))) (append-nil (f 0))
flat_only (suc n) (suc j) f l h = rw (h 0 (λ e. omega arith)) (flat_only n j (λ i. f (suc i)) (le_of_suc-le-suc l) (λ i e. h (suc i) (λ z. e (omega arith))))

-- equal weights make equal lines
pub moves_cong : (k values a : ℕ) (u v : ℕ → ℕ → ℕ) → ((b g : ℕ) → b < suc k → g < values → u b g ≡ v b g) → moves_from k values a u ≡ moves_from k values a v
moves_cong k values a u v e =
    ap (λ (l : List (List Move)). flat l) (upto_cong (suc k) _ (λ b. flat (upto values (λ g. move_line a b g (v b g)))) (λ b l.
    ap (λ (l : List (List Move)). flat l) (upto_cong values _ (λ g. move_line a b g (v b g)) (λ g m. ap (move_line a b g) (e b g l m)))))

pub stays_cong : (values : ℕ) (u v : ℕ → ℕ) → ((g : ℕ) → g < values → u g ≡ v g) → flat (upto values (λ g. stay_line g (u g))) ≡ flat (upto values (λ g. stay_line g (v g)))
stays_cong values u v e = ap (λ (l : List (List Stay)). flat l) (upto_cong values _ (λ g. stay_line g (v g)) (λ g m. ap (stay_line g) (e g m)))

module _ (k values own : ℕ) (h : own ≤ k) (u v : ℕ → ℕ → ℕ) (same : (b g : ℕ) → b < suc k → g < values → u b g ≡ v b g) where
  -- moves from one state only
  pub own_moves : flat (upto (suc k) (λ a. moves_from k values a (λ b g. gate (eqb own a) (v b g)))) ≡ moves_from k values own u
  own_moves = flat_only (suc k) own (λ a. moves_from k values a (λ b g. gate (eqb own a) (v b g))) (omega arith) other ∙ here
    where
      other : (a : ℕ) → (a ≡ own → ⊥) → moves_from k values a (λ b g. gate (eqb own a) (v b g)) ≡ []
      other a ne = flat_empty (suc k) _ (λ b. flat_empty values (λ g. move_line a b g (gate (eqb own a) (v b g))) (λ g. no_line a b g (gate (eqb own a) (v b g)) (rw (ne_eqb own a (λ e. ne (sym e))))))

      here : moves_from k values own (λ b g. gate (eqb own own) (v b g)) ≡ moves_from k values own u
      here = moves_cong k values own (λ b g. gate (eqb own own) (v b g)) u (λ b g l m. rw (eq-eqb own own refl) (sym (same b g l m)))

-- ---- a row of weights: a part for each new state

-- a part of weights, as the code lends it
module _ {A : Type 0} (weights : List ℕ) (from values : ℕ) (f : ℕ → ℕ → List A) {to : ℕ} (e : to ≡ from + values) (h : to ≤ length weights) where
  abbrev part : List ℕ
  part = take (to - from) (drop from weights)

  pub length_part : length part ≡ values
  length_part = length-take-le (to - from) (drop from weights) (rw length-drop (omega arith)) ∙ omega arith

  pub part_lines : flat (upto (length part) (λ g. f g (get_or part g 0))) ≡ flat (upto values (λ g. f g (get_or weights (from + g) 0)))
  part_lines = rw length_part (ap (λ (l : List (List A)). flat l) (upto_cong values _ (λ g. f g (get_or weights (from + g) 0)) λ g l.
      ap (f g) (get_or-take (to - from) (drop from weights) g 0 (omega arith) ∙ get_or-drop from weights g 0)))

-- the moves from one state to another
abbrev pub pair_at : List ℕ → ℕ → ℕ → ℕ → List Move
pair_at row values a b = flat (upto values (λ g. move_line a b g (weight_in row b g)))

pub pair_at_law : {row : List ℕ} {k shared : ℕ} → Row k shared row → (a b : ℕ) → b ≤ k → {values from to : ℕ} → values ≡ or_one shared → from ≡ b * most_shared → to ≡ from + values
    → (r : List ℕ) → moves_text (tells shared) (flat (upto (length (take (to - from) (drop from row))) (λ g. move_line a b g (get_or (take (to - from) (drop from row)) g 0)))) r
    ≡ moves_text (tells shared) (pair_at row (or_one shared) a b) r
pair_at_law {row} {k} {shared} ok a b l {values} {from} {to} v f e r =
    let fits : to ≤ length row = omega (arith, one_most shared ok.values, ok.top, ok.long) in
    rw (part_lines row from values (λ g w. move_line a b g w) e fits, f, v)
