-- A piece moved in parts: down, each part is read behind what has been stored; up, before it. So the parts are the piece moved at once. Assumes nothing.
use Prim.Native.Nat.{ℕ, ◌+◌, ◌-◌, ◌≤◌, ◌<◌}
use mathlib.Core.Path.{◌≡◌, sym, ap, ◌∙◌}
use mathlib.Core.List.{List, ◌++◌, append-nil}
use native.Mathlib.Omega.{arith}
use lib.ListN.{length, take, drop, get_or, set, length-drop, length-take, drop_of_length-le, take-append-drop}
use lib.Seq.{drop-drop, drop_at, get_or-drop, take-add, take-take}
use Rattle.room.specs.Room.{clip}
use Rattle.room.proofs.Laws.{clip_none, clip_append, clip_start, length_clip}
use Rattle.room.proofs.Stores.{clip_more}
use Rattle.byte_blocks.proofs.Clips.{take_before, drop_behind, clip_clip}

-- ---- one block

-- the first i bytes are read
pub block_more : (room none : List ℕ) {block : List ℕ} (from i : ℕ) → from + i < length room → block ≡ clip none 0 (take i (drop from room))
    → set block i (get_or room (from + i) 0) ≡ clip none 0 (take (i + 1) (drop from room))
block_more room none {block} from i h e =
    let z : 0 + i ≡ i = omega arith in
    ap (λ (k : ℕ). set block k (get_or room (from + i) 0)) (sym z)
    ∙ ap (set block (0 + i)) (sym (get_or-drop from room i 0))
    ∙ clip_more none 0 (drop from room) i (omega (arith, length-drop from room)) e

pub block_all : (room none : List ℕ) {block : List ℕ} (from n i : ℕ) → from + n ≤ length room → length none ≡ n → i ≤ n → n ≤ i
    → block ≡ clip none 0 (take i (drop from room)) → block ≡ take n (drop from room)
block_all room none from n i l k h g e =
    let same : i ≡ n = omega arith in
    let piece = take n (drop from room) in
    let long : length piece ≡ n = omega (arith, length-take n (drop from room), length-drop from room) in
    let past : length none ≤ length piece = omega (arith, long, k) in
    e
    ∙ ap (λ (m : ℕ). clip none 0 (take m (drop from room))) same
    ∙ clip_start none piece (omega (arith, long, k))
    ∙ ap (λ (t : List ℕ). piece ++ t) (drop_of_length-le none past)
    ∙ append-nil piece

-- ---- downwards

module _ (was : List ℕ) (from to : ℕ) where
  pub down_none : was ≡ clip was to (take 0 (drop from was))
  down_none = sym (clip_none was to)

  -- n bytes more
  pub down_join : {is now : List ℕ} (i n : ℕ) {all : ℕ} → to ≤ from → from + i ≤ length was → all ≡ i + n → is ≡ clip was to (take i (drop from was))
      → now ≡ clip is (to + i) (take n (drop (from + i) is)) → now ≡ clip was to (take all (drop from was))
  down_join {is} {now} i n t l a e f =
      let first = take i (drop from was) in
      let long : length first ≡ i = omega (arith, length-take i (drop from was), length-drop from was) in
      let read-there : take n (drop (from + i) is) ≡ take n (drop i (drop from was))
      = ap (λ (w : List ℕ). take n (drop (from + i) w)) e
      ∙ ap (take n) (drop_behind was to first (from + i) (omega (arith, long)))
      ∙ ap (take n) (sym (drop-drop i from was)) in
      f
      ∙ ap (clip is (to + i)) read-there
      ∙ ap (λ (w : List ℕ). clip w (to + i) (take n (drop i (drop from was)))) e
      ∙ ap (λ (k : ℕ). clip (clip was to first) (to + k) (take n (drop i (drop from was)))) (sym long)
      ∙ sym (clip_append was to first (take n (drop i (drop from was))))
      ∙ ap (clip was to) (sym (take-add i n (drop from was)))
      ∙ ap (λ (k : ℕ). clip was to (take k (drop from was))) (sym a)

-- ---- upwards

-- what stands before a text is as it was
piece_before : (was : List ℕ) (at : ℕ) (s : List ℕ) (k n : ℕ) → k ≤ length was → k + n ≤ at → take n (drop k (clip was at s)) ≡ take n (drop k was)
piece_before was at s k n l h =
    sym (piece (clip was at s) (omega (arith, length_clip was at s))) ∙ ap (drop k) (take_before was at s (k + n) h) ∙ piece was l
  where
    piece : (w : List ℕ) → k ≤ length w → drop k (take (k + n) w) ≡ take n (drop k w)
    piece w m = ap (drop k) (take-add k n w) ∙ drop_at (take k w) (take n (drop k w)) k (omega (arith, length-take k w))

module _ (was : List ℕ) (from to size : ℕ) where
  abbrev moved : List ℕ
  moved = take size (drop from was)

  pub up_none : {all : ℕ} → all ≡ size → was ≡ clip was (to + all) (drop all moved)
  up_none {all} e =
      let h : length moved ≤ all = omega (arith, length-take size (drop from was)) in
      sym (ap (clip was (to + all)) (drop_of_length-le moved h) ∙ clip_none was (to + all))

  -- n bytes more, of so many that are left with them
  pub up_join : {is now : List ℕ} (left n : ℕ) {all : ℕ} → from ≤ to → to + size ≤ length was → all ≤ size → all ≡ left + n → is ≡ clip was (to + all) (drop all moved)
      → now ≡ clip is (to + left) (take n (drop (from + left) is)) → now ≡ clip was (to + left) (drop left moved)
  up_join {is} {now} left n {all} t l h a f g =
      let e : is ≡ clip was (to + (left + n)) (drop (left + n) moved) = f ∙ ap (λ (k : ℕ). clip was (to + k) (drop k moved)) a in
      let piece = take n (drop (from + left) was) in
      let rest = drop (left + n) moved in
      let long : length piece ≡ n = omega (arith, length-take n (drop (from + left) was), length-drop (from + left) was) in
      let place : to + left + length piece ≡ to + (left + n) = omega (arith, long) in
      let read-there : take n (drop (from + left) is) ≡ piece
      = ap (λ (w : List ℕ). take n (drop (from + left) w)) e
      ∙ piece_before was (to + (left + n)) rest (from + left) n (omega arith) (omega arith) in
      let sum : left + (size - left) ≡ size = omega arith in
      let front_long : length (take left (drop from was)) ≡ left = omega (arith, length-take left (drop from was), length-drop from was) in
      let later : drop left moved ≡ take (size - left) (drop (from + left) was)
      = ap (λ (k : ℕ). drop left (take k (drop from was))) (sym sum)
      ∙ ap (drop left) (take-add left (size - left) (drop from was))
      ∙ drop_at (take left (drop from was)) (take (size - left) (drop left (drop from was))) left front_long
      ∙ ap (take (size - left)) (drop-drop left from was) in
      let first : take n (drop left moved) ≡ piece = ap (take n) later ∙ take-take n (size - left) (drop (from + left) was) (omega arith) in
      let whole : piece ++ rest ≡ drop left moved
      = ap (λ (s : List ℕ). s ++ rest) (sym first) ∙ ap (λ (s : List ℕ). take n (drop left moved) ++ s) (sym (drop-drop n left moved)) ∙ take-append-drop n (drop left moved) in
      g
      ∙ ap (clip is (to + left)) read-there
      ∙ ap (λ (w : List ℕ). clip w (to + left) piece) e
      ∙ clip_clip was (to + left) (to + (left + n)) piece rest (omega (arith, long))
      ∙ ap (λ (k : ℕ). clip (clip was (to + left) piece) k rest) (sym place)
      ∙ sym (clip_append was (to + left) piece rest)
      ∙ ap (clip was (to + left)) whole
