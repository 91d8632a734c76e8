-- One byte more moved: it is read where nothing has been stored yet. Assumes nothing.
use Prim.Native.Nat.{ℕ, zero, suc, ◌+◌, ◌-◌, ◌≤◌, ◌<◌}
use mathlib.Core.Path.{◌≡◌, refl, sym, ap, ◌∙◌}
use mathlib.Core.List.{List, [], ◌∷◌, ◌++◌, append_assoc}
use native.Mathlib.Omega.{arith}
use lib.ListN.{length, take, drop, get_or, set, replicate, length-drop, length-take, length-map, drop_of_length-le, take-append-drop}
use lib.Seq.{drop-drop, get_or-drop, get_or-take, drop-cons, take_all}
use Rattle.room.specs.Room.{clip}
use Rattle.room.proofs.Laws.{clip_fits}
use Rattle.room.proofs.Stores.{clip_more}
use Rattle.tidying.specs.Tidied.{zeroed}
use Rattle.byte_blocks.specs.Blocks.{BlocksDown, BlocksUp}
use Rattle.byte_blocks.proofs.Clips.{get_d_before, get_d_behind, set_clip}
use Rattle.byte_blocks.proofs.Blocks.{down_join, up_join}

-- what stays is as if it had been moved
pub down_none : (was : List ℕ) (from to size : ℕ) → from ≡ to → from + size ≤ length was → was ≡ clip was to (take size (drop from was))
down_none was from to size e h = sym (ap (λ (at : ℕ). clip was at moved) (sym e) ∙ whole)
  where
    moved : List ℕ
    moved = take size (drop from was)

    long : length moved ≡ size
    long = omega (arith, length-take size (drop from was), length-drop from was)

    whole : clip was from moved ≡ was
    whole =
        clip_fits was from moved (omega (arith, long))
        ∙ append_assoc (take from was) moved (drop (from + length moved) was)
        ∙ ap (λ (n : ℕ). take from was ++ (moved ++ drop (from + n) was)) long
        ∙ ap (λ (l : List ℕ). take from was ++ (moved ++ l)) (sym (drop-drop size from was))
        ∙ ap (λ (l : List ℕ). take from was ++ l) (take-append-drop size (drop from was))
        ∙ take-append-drop from was

module _ (was : List ℕ) (from to size : ℕ) where
  -- downwards, i bytes are moved
  pub down_more : {is : List ℕ} (i : ℕ) → to ≤ from → from + size ≤ length was → i < size → is ≡ clip was to (take i (drop from was))
      → set is (to + i) (get_or is (from + i) 0) ≡ clip was to (take (i + 1) (drop from was))
  down_more {is} i t l h e =
      let read : get_or is (from + i) 0 ≡ get_or (drop from was) i 0
      = ap (λ (w : List ℕ). get_or w (from + i) 0) e
      ∙ get_d_behind was to (take i (drop from was)) (from + i) (omega (arith, length-take i (drop from was)))
      ∙ sym (get_or-drop from was i 0) in
      ap (set is (to + i)) read ∙ clip_more was to (drop from was) i (omega (arith, length-drop from was)) e

  -- blocks are moved, and then the rest
  pub down_rest : {is now : List ℕ} {done : ℕ} → to ≤ from → from + size ≤ length was → BlocksDown was is from to size done
      → now ≡ clip is (to + done) (take (size - done) (drop (from + done) is)) → now ≡ clip was to (take size (drop from was))
  down_rest {done = done} t l b e = down_join was from to done (size - done) t (omega (arith, b.most)) (omega (arith, b.most)) b.moved e

  abbrev moved : List ℕ
  moved = take size (drop from was)

  pub up_rest : {is now : List ℕ} {left : ℕ} → from ≤ to → to + size ≤ length was → BlocksUp was is from to size left
      → now ≡ clip is to (take left (drop from is)) → now ≡ clip was to moved
  up_rest {is} {left = left} t l b e =
      let f : from + 0 ≡ from = omega arith in
      let n : to + 0 ≡ to = omega arith in
      up_join was from to size 0 left t l b.most (omega arith) b.moved
      (e ∙ ap (λ (k : ℕ). clip is k (take left (drop from is))) (sym n) ∙ ap (λ (k : ℕ). clip is (to + 0) (take left (drop k is))) (sym f))
      ∙ ap (λ (k : ℕ). clip was k moved) n

  -- upwards, so many are left
  pub up_more : {is : List ℕ} (left : ℕ) → from ≤ to → to + size ≤ length was → left ≤ size → 0 < left → is ≡ clip was (to + left) (drop left moved)
      → set is (to + (left - 1)) (get_or is (from + (left - 1)) 0) ≡ clip was (to + (left - 1)) (drop (left - 1) moved)
  unfolding clip
  up_more zero t l h n e = absurd (omega (arith, n))
  up_more {is} (suc j) t l h n e =
      let p : suc j - 1 ≡ j = omega arith in
      let q : to + suc j ≡ suc (to + j) = omega arith in
      let b = get_or was (from + j) 0 in
      let read : get_or is (from + j) 0 ≡ b
      = ap (λ (w : List ℕ). get_or w (from + j) 0) e ∙ get_d_before was (to + suc j) (drop (suc j) moved) (from + j) (omega arith) in
      let first : drop j moved ≡ b ∷ drop (suc j) moved
      = drop-cons moved j 0 (omega (arith, length-take size (drop from was), length-drop from was))
      ∙ ap (λ (x : ℕ). x ∷ drop (suc j) moved) (get_or-take size (drop from was) j 0 (omega arith) ∙ get_or-drop from was j 0) in
      let stored : set is (to + j) (get_or is (from + j) 0) ≡ clip was (to + j) (drop j moved)
      = ap (set is (to + j)) read
      ∙ ap (λ (w : List ℕ). set w (to + j) b) e
      ∙ set_clip was (to + suc j) (drop (suc j) moved) (to + j) b (omega arith)
      ∙ ap (λ (k : ℕ). clip (set was (to + j) b) k (drop (suc j) moved)) q
      ∙ sym (ap (clip was (to + j)) first) in
      rw p stored

-- ---- cleared

zeros : (t : List ℕ) → replicate (length t) 0 ≡ zeroed t
zeros [] = refl
zeros (x ∷ t) = ap (λ (l : List ℕ). 0 ∷ l) (zeros t)

-- all bytes from a place on
pub cleared : (was : List ℕ) (at k : ℕ) {now : List ℕ} → at ≤ length was → k ≡ length was - at → now ≡ replicate (length (take k (drop at was))) 0
    → take at was ++ (now ++ drop k (drop at was)) ≡ clip was at (zeroed (drop at was))
cleared was at k {now} h e f =
    let rest = drop at was in
    let long : length rest ≡ length was - at = length-drop at was in
    let long_zeros : length (zeroed rest) ≡ length rest = length-map rest _ in
    let none : drop k rest ≡ [] = drop_of_length-le rest (omega (arith, long)) in
    let past : drop (at + length (zeroed rest)) was ≡ [] = drop_of_length-le was (omega (arith, long, long_zeros)) in
    let same : now ≡ zeroed rest = f ∙ ap (λ (l : List ℕ). replicate (length l) 0) (take_all k rest (omega (arith, long))) ∙ zeros rest in
    ap (λ (l : List ℕ). take at was ++ (l ++ drop k rest)) same
    ∙ ap (λ (l : List ℕ). take at was ++ (zeroed rest ++ l)) (none ∙ sym past)
    ∙ sym (append_assoc (take at was) (zeroed rest) (drop (at + length (zeroed rest)) was))
    ∙ sym (clip_fits was at (zeroed rest) (omega (arith, long, long_zeros)))
