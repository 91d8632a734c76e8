-- Rows that fit to entries but for their offsets: laid out anew they are the entries' rows. And the entries before and behind a new one. Assumes nothing.
use Prim.Native.Nat.{ℕ, suc, ◌+◌}
use mathlib.Core.Path.{◌≡◌, refl, sym, ap, ◌∙◌}
use mathlib.Core.Bool.{Bool, true, false}
use mathlib.Core.List.{List, [], ◌∷◌, ◌++◌, append_assoc}
use native.Mathlib.Omega.{arith}
use borrow.Author.Tests.{eq-eqb}
use lib.Dec.{ltb}
use lib.ListN.{length, length-append}
use Rattle.card.specs.Text.{when◌then◌else◌}
use Rattle.card.specs.Valid.{Every}
use Rattle.deck.specs.Contents.{Row}
use Rattle.deck.specs.Deck.{Entry, flag_of, row_for, rows_for, row_text, rows_text, bodies}
use Rattle.deck_written.specs.WriteDeckSaid.{sizes, line_for, lines_for}
use Rattle.gathering.specs.LiveRows.{live_rows}
use Rattle.tidying.specs.Tidying.{with_card}
use Rattle.placing.specs.Lower.{lower_rows}

abbrev pub FitTo : List Row → List Entry → Type 0
FitTo [] [] = Unit {0}
FitTo [] (e ∷ es) = ⊥
FitTo (r ∷ rs) [] = ⊥
FitTo (r ∷ rs) (e ∷ es) = (r ≡ row_for r.offset e) × FitTo rs es

pub fit_for : (at : ℕ) (es : List Entry) → FitTo (rows_for at es) es
fit_for at [] = tt
fit_for at (e ∷ es) = (refl, fit_for (at + length e.body) es)

pub fit_append : (rs qs : List Row) (es fs : List Entry) → FitTo rs es → FitTo qs fs → FitTo (rs ++ qs) (es ++ fs)
fit_append [] qs [] fs h k = k
fit_append [] qs (e ∷ es) fs h k = absurd h
fit_append (r ∷ rs) qs [] fs h k = absurd h
fit_append (r ∷ rs) qs (e ∷ es) fs h k = (h.0, fit_append rs qs es fs h.1 k)

pub fit_count : (rs : List Row) (es : List Entry) → FitTo rs es → length rs ≡ length es
fit_count [] [] h = refl
fit_count [] (e ∷ es) h = absurd h
fit_count (r ∷ rs) [] h = absurd h
fit_count (r ∷ rs) (e ∷ es) h = ap suc (fit_count rs es h.1)

fit_size : (r : Row) (e : Entry) → r ≡ row_for r.offset e → r.size ≡ length e.body
fit_size r e h = ap (λ (x : Row). x.size) h

pub fit_sizes : (rs : List Row) (es : List Entry) → FitTo rs es → sizes rs ≡ length (bodies es)
fit_sizes [] [] h = refl
fit_sizes [] (e ∷ es) h = absurd h
fit_sizes (r ∷ rs) [] h = absurd h
fit_sizes (r ∷ rs) (e ∷ es) h = omega (arith, fit_size r e h.0, fit_sizes rs es h.1, length-append e.body (bodies es))

pub fit_lines : (at : ℕ) (rs : List Row) (es : List Entry) → FitTo rs es → lines_for at rs ≡ rows_for at es
fit_lines at [] [] h = refl
fit_lines at [] (e ∷ es) h = absurd h
fit_lines at (r ∷ rs) [] h = absurd h
fit_lines at (r ∷ rs) (e ∷ es) h =
    ap (λ (x : Row). line_for at x ∷ lines_for (at + r.size) rs) h.0
    ∙ ap (λ (n : ℕ). row_for at e ∷ lines_for (at + n) rs) (fit_size r e h.0)
    ∙ ap (λ (l : List Row). row_for at e ∷ l) (fit_lines (at + length e.body) rs es h.1)

pub fit_live : (rs : List Row) (es : List Entry) → FitTo rs es → Every (λ (e : Entry). e.live ≡ true) es → live_rows rs ≡ rs
fit_live [] [] h l = refl
fit_live [] (e ∷ es) h l = absurd h
fit_live (r ∷ rs) [] h l = absurd h
fit_live (r ∷ rs) (e ∷ es) h l =
    let flag : r.flag ≡ 1 = ap (λ (x : Row). x.flag) h.0 ∙ ap flag_of l.0 in
    rw (eq-eqb r.flag 1 flag) (ap (λ (q : List Row). r ∷ q) (fit_live rs es h.1 l.1))

-- ---- texts joined

pub text_append : (rs qs : List Row) (t : List ℕ) → rows_text (rs ++ qs) t ≡ rows_text rs (rows_text qs t)
text_append [] qs t = refl
text_append (r ∷ rs) qs t = ap (row_text r) (text_append rs qs t)

pub rows_append : (at : ℕ) (es fs : List Entry) → rows_for at (es ++ fs) ≡ rows_for at es ++ rows_for (at + length (bodies es)) fs
rows_append at [] fs = let e : at ≡ at + 0 = omega arith in ap (λ (n : ℕ). rows_for n fs) e
rows_append at (e ∷ es) fs =
    let k : at + length e.body + length (bodies es) ≡ at + length (e.body ++ bodies es) = omega (arith, length-append e.body (bodies es)) in
    ap (λ (l : List Row). row_for at e ∷ l) (rows_append (at + length e.body) es fs)
    ∙ ap (λ (n : ℕ). row_for at e ∷ rows_for (at + length e.body) es ++ rows_for n fs) k

pub bodies_append : (es fs : List Entry) → bodies (es ++ fs) ≡ bodies es ++ bodies fs
bodies_append [] fs = refl
bodies_append (e ∷ es) fs = ap (λ (t : List ℕ). e.body ++ t) (bodies_append es fs) ∙ sym (append_assoc e.body (bodies es) (bodies fs))

-- ---- before and behind the new one

module _ (new : Entry) where
  abbrev pub lower : List Entry → List Entry
  lower [] = []
  lower (e ∷ es) = when ltb e.number new.number then e ∷ lower es else []

  abbrev pub higher : List Entry → List Entry
  higher [] = []
  higher (e ∷ es) = when ltb e.number new.number then higher es else e ∷ es

  pub split : (es : List Entry) → es ≡ lower es ++ higher es
  split [] = refl
  split (e ∷ es) = go (ltb e.number new.number) (split es)
    where
      go : (b : Bool) → es ≡ lower es ++ higher es → e ∷ es ≡ (when b then e ∷ lower es else []) ++ (when b then higher es else e ∷ es)
      go true h = ap (λ (l : List Entry). e ∷ l) h
      go false h = refl

  pub with_split : (es : List Entry) → with_card new es ≡ lower es ++ new ∷ higher es
  with_split [] = refl
  with_split (e ∷ es) = go (ltb e.number new.number) (with_split es)
    where
      go : (b : Bool) → with_card new es ≡ lower es ++ new ∷ higher es
          → (when b then e ∷ with_card new es else new ∷ e ∷ es) ≡ (when b then e ∷ lower es else []) ++ new ∷ (when b then higher es else e ∷ es)
      go true h = ap (λ (l : List Entry). e ∷ l) h
      go false h = refl

  -- by their rows
  pub lower_rows_law : (at : ℕ) (es : List Entry) → lower_rows new.number (rows_for at es) ≡ rows_for at (lower es)
  lower_rows_law at [] = refl
  lower_rows_law at (e ∷ es) = go (ltb e.number new.number) (lower_rows_law (at + length e.body) es)
    where
      go : (b : Bool) → lower_rows new.number (rows_for (at + length e.body) es) ≡ rows_for (at + length e.body) (lower es)
          → (when b then row_for at e ∷ lower_rows new.number (rows_for (at + length e.body) es) else []) ≡ rows_for at (when b then e ∷ lower es else [])
      go true h = ap (λ (l : List Row). row_for at e ∷ l) h
      go false h = refl
