-- What is kept of a deck's contents are its live entries, and no body has been touched. Assumes nothing.
use Prim.Native.Nat.{ℕ, zero, suc, ◌*◌, ◌≤◌}
use mathlib.Core.Path.{◌≡◌, refl, ap, ◌∙◌}
use mathlib.Core.Bool.{Bool, true, false}
use mathlib.Core.List.{List, [], ◌∷◌, ◌++◌, append_assoc, map}
use native.Mathlib.Omega.{arith}
use lib.ListN.{length, take, drop, length-take, length-drop, length-append}
use lib.Seq.{drop_at, take_at}
use Rattle.card.specs.Text.{when◌then◌else◌}
use Rattle.deck.specs.Contents.{Row, row_of, rows_of, end_of}
use Rattle.deck.specs.Deck.{live_of, entry_of, bodies}
use Rattle.gathering.specs.LiveRows.{live_rows}
use Rattle.gathering.specs.LiveText.{Ahead}
use Rattle.gathering.proofs.Ahead.{ahead_from, same_row}
use Rattle.gathering.proofs.Bodies.{same_later}
use Rattle.gathering.specs.Kept.{kept_rows}

-- ---- the entries

module _ (t u : List ℕ) (h : 8 ≤ length t) where
  first_long : length (take 8 t) ≡ 8
  first_long = omega (arith, length-take 8 t)

  row_first : row_of (take 8 t ++ u) ≡ row_of t
  row_first = same_row 8 (take 8 t ++ u) t (take_at (take 8 t) u 8 first_long) 0 (omega arith)

  behind_first : drop 8 (take 8 t ++ u) ≡ u
  behind_first = drop_at (take 8 t) u 8 first_long

pub kept_long : (count : ℕ) (t : List ℕ) → 8 * count ≤ length t → length (kept_rows count t) ≡ 8 * length (live_rows (rows_of count t))
kept_long zero t h = refl
kept_long (suc count) t h = go (live_of (row_of t)) (kept_long count (drop 8 t) (omega (arith, length-drop 8 t)))
  where
    go : (b : Bool) → length (kept_rows count (drop 8 t)) ≡ 8 * length (live_rows (rows_of count (drop 8 t)))
        → length ((when b then take 8 t else []) ++ kept_rows count (drop 8 t)) ≡ 8 * length (when b then row_of t ∷ live_rows (rows_of count (drop 8 t)) else live_rows (rows_of count (drop 8 t)))
    go true e = omega (arith, e, length-append (take 8 t) (kept_rows count (drop 8 t)), length-take 8 t)
    go false e = e

pub kept_rows_law : (count : ℕ) (t u : List ℕ) → 8 * count ≤ length t → rows_of (length (live_rows (rows_of count t))) (kept_rows count t ++ u) ≡ live_rows (rows_of count t)
kept_rows_law zero t u h = refl
kept_rows_law (suc count) t u h = go (live_of (row_of t)) (kept_rows_law count (drop 8 t) u (omega (arith, length-drop 8 t)))
  where
    rest : List ℕ
    rest = kept_rows count (drop 8 t)

    later : List Row
    later = live_rows (rows_of count (drop 8 t))

    go : (b : Bool) → rows_of (length later) (rest ++ u) ≡ later
        → rows_of (length (when b then row_of t ∷ later else later)) (((when b then take 8 t else []) ++ rest) ++ u) ≡ (when b then row_of t ∷ later else later)
    go true e =
        ap (rows_of (suc (length later))) (append_assoc (take 8 t) rest u)
        ∙ ap (λ (r : Row). r ∷ rows_of (length later) (drop 8 (take 8 t ++ (rest ++ u)))) (row_first t (rest ++ u) (omega arith))
        ∙ ap (λ (s : List ℕ). row_of t ∷ rows_of (length later) s) (behind_first t (rest ++ u) (omega arith))
        ∙ ap (λ (rs : List Row). row_of t ∷ rs) e
    go false e = e

pub live_again : (rs : List Row) → live_rows (live_rows rs) ≡ live_rows rs
live_again [] = refl
live_again (r ∷ rs) = go (live_of r) refl (live_again rs)
  where
    go : (b : Bool) → live_of r ≡ b → live_rows (live_rows rs) ≡ live_rows rs → live_rows (when b then r ∷ live_rows rs else live_rows rs) ≡ (when b then r ∷ live_rows rs else live_rows rs)
    go true e h = rw e (ap (λ (l : List Row). r ∷ l) h)
    go false e h = h

-- ---- their bodies

pub ahead_kept : (long to : ℕ) (rs : List Row) → Ahead long to rs → Ahead long to (live_rows rs)
ahead_kept long to [] h = h
ahead_kept long to (r ∷ rs) h = go (live_of r) (ahead_kept long (end_of r) rs h.2)
  where
    go : (b : Bool) → Ahead long (end_of r) (live_rows rs) → Ahead long to (when b then r ∷ live_rows rs else live_rows rs)
    go true more = (h.0, h.1, more)
    go false more = ahead_from long to (end_of r) (live_rows rs) (omega (arith, h.0)) more

-- a deck with the same bytes from a place on that all of them lie behind has the same
pub same_bodies : (a b : List ℕ) (long to : ℕ) (rs : List Row) → Ahead long to rs → drop to a ≡ drop to b → bodies (map (entry_of a) rs) ≡ bodies (map (entry_of b) rs)
same_bodies a b long to [] h e = refl
same_bodies a b long to (r ∷ rs) h e =
    let more = same_bodies a b long (end_of r) rs h.2 (same_later to (end_of r) a b (omega (arith, h.0)) e) in
    ap (λ (t : List ℕ). take r.size t ++ bodies (map (entry_of a) rs)) (same_later to r.offset a b h.0 e)
    ∙ ap (λ (t : List ℕ). take r.size (drop r.offset b) ++ t) more
