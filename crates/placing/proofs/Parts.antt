-- Room made between two texts: the second moves up, and the bytes behind lose as many; what is left between is then replaced. Assumes nothing.
use Prim.Native.Nat.{ℕ, ◌+◌, ◌≤◌}
use mathlib.Core.Path.{◌≡◌, sym, ap, ◌∙◌}
use mathlib.Core.List.{List, ◌++◌, append_assoc}
use native.Mathlib.Omega.{arith}
use lib.ListN.{length, take, drop, length-append, length-take}
use lib.Seq.{take-append_seam, take-append-add, drop-append_seam, drop-append-add}
use Rattle.room.specs.Room.{clip}
use Rattle.room.proofs.Laws.{clip_fits}

module _ (x y z : List ℕ) (n : ℕ) (fits : n ≤ length z) where
  abbrev whole : List ℕ
  whole = x ++ (y ++ z)

  -- what is left between
  abbrev pub between : List ℕ
  between = take n (y ++ z)

  pub between_long : length between ≡ n
  between_long = omega (arith, length-take n (y ++ z), length-append y z, fits)

  second : take (length y) (drop (length x) whole) ≡ y
  second = ap (take (length y)) (drop-append_seam x (y ++ z)) ∙ take-append_seam y z

  behind_it : drop (length x + n + length y) whole ≡ drop n z
  behind_it =
      let e : length x + n + length y ≡ length x + (length y + n) = omega arith in
      ap (λ (k : ℕ). drop k whole) e ∙ drop-append-add x (y ++ z) (length y + n) ∙ drop-append-add y z n

  pub moved_up : (at to size : ℕ) {now : List ℕ} → at ≡ length x → to ≡ length x + n → size ≡ length y → now ≡ clip whole to (take size (drop at whole))
      → now ≡ x ++ (between ++ (y ++ drop n z))
  moved_up at to size ea et es e =
      e
      ∙ ap (λ (k : ℕ). clip whole k (take size (drop at whole))) et
      ∙ ap (λ (k : ℕ). clip whole (length x + n) (take k (drop at whole))) es
      ∙ ap (λ (k : ℕ). clip whole (length x + n) (take (length y) (drop k whole))) ea
      ∙ ap (clip whole (length x + n)) second
      ∙ clip_fits whole (length x + n) y (omega (arith, length-append x (y ++ z), length-append y z, fits))
      ∙ ap (λ (t : List ℕ). (t ++ y) ++ drop (length x + n + length y) whole) (take-append-add x (y ++ z) n)
      ∙ ap (λ (t : List ℕ). ((x ++ between) ++ y) ++ t) behind_it
      ∙ append_assoc (x ++ between) y (drop n z)
      ∙ append_assoc x between (y ++ drop n z)

-- a text in the place of another that is as long
pub replaced : (x h y s : List ℕ) (at : ℕ) {now : List ℕ} → at ≡ length x → length h ≡ length s → now ≡ clip (x ++ (h ++ y)) at s → now ≡ x ++ (s ++ y)
replaced x h y s at ea k e =
    let whole = x ++ (h ++ y) in
    let behind_it : drop (length x + length s) whole ≡ y
    = drop-append-add x (h ++ y) (length s) ∙ ap (λ (n : ℕ). drop n (h ++ y)) (sym k) ∙ drop-append_seam h y in
    e
    ∙ ap (λ (n : ℕ). clip whole n s) ea
    ∙ clip_fits whole (length x) s (omega (arith, length-append x (h ++ y), length-append h y, k))
    ∙ ap (λ (t : List ℕ). (take (length x) whole ++ s) ++ t) behind_it
    ∙ ap (λ (t : List ℕ). (t ++ s) ++ y) (take-append_seam x (h ++ y))
    ∙ append_assoc x s y
