-- Puts one after the other. A text clipped behind another is both texts clipped at once, and past the end of the room nothing is
-- stored, so that it does not matter that places stop at the cap; all else follows from that. Assumes nothing.
use Prim.Native.Nat.{ℕ, suc, ◌+◌, ◌≤◌, ◌<◌, min}
use mathlib.Core.Path.{◌≡◌, refl, sym, ap, ◌∙◌}
use mathlib.Core.List.{List, [], ◌∷◌, ◌++◌}
use native.Mathlib.Decide.{dec_le}
use native.Mathlib.Nat.{add-zero, zero-add}
use native.Mathlib.Omega.{arith}
use lib.ListN.{length, take, drop, set, length-append}
use lib.Seq.{sets, sets-eq, length-sets, set_out}
use Rattle.room.specs.Room.{clip, cap, Put}

-- ---- clip

pub clip_none : (room : List ℕ) (at : ℕ) → clip room at [] ≡ room
unfolding clip
clip_none room at = refl

pub clip_one : (room : List ℕ) (at b : ℕ) → clip room at (b ∷ []) ≡ set room at b
unfolding clip
clip_one room at b = refl

pub clip_append : (room : List ℕ) (at : ℕ) (s t : List ℕ) → clip room at (s ++ t) ≡ clip (clip room at s) (at + length s) t
unfolding clip
clip_append room at [] t = rw add-zero
clip_append room at (b ∷ s) t =
    clip_append (set room at b) (suc at) s t
    ∙ ap (λ (k : ℕ). clip (clip (set room at b) (suc at) s) k t) (omega arith)

clip_sets : (room : List ℕ) (at : ℕ) (s : List ℕ) → clip room at s ≡ sets room at s
unfolding clip
clip_sets room at [] = refl
clip_sets room at (b ∷ s) = clip_sets (set room at b) (suc at) s

pub length_clip : (room : List ℕ) (at : ℕ) (s : List ℕ) → length (clip room at s) ≡ length room
length_clip room at s = ap length (clip_sets room at s) ∙ length-sets room at s

-- past the end of the room nothing is stored
pub clip_past : (room : List ℕ) (at : ℕ) (s : List ℕ) → length room ≤ at → clip room at s ≡ room
unfolding clip
clip_past room at [] h = refl
clip_past room at (b ∷ s) h = rw (set_out room at b h) (clip_past room (suc at) s (omega arith))

-- a text that fits stands between what was before it and what was behind it
pub clip_fits : (room : List ℕ) (at : ℕ) (s : List ℕ) → at + length s ≤ length room
    → clip room at s ≡ (take at room ++ s) ++ drop (at + length s) room
clip_fits room at s h = clip_sets room at s ∙ sets-eq s room at h

pub clip_start : (room s : List ℕ) → length s ≤ length room → clip room 0 s ≡ s ++ drop (length s) room
clip_start room s h = clip_fits room 0 s (omega arith) ∙ rw zero-add

-- a place that stopped at the cap stores what the place itself would: nothing
clip_stopped : (room : List ℕ) (at : ℕ) (s : List ℕ) → length room < cap → clip room (min at cap) s ≡ clip room at s
clip_stopped room at s h = go (dec_le at cap)
  where
    go : Dec (at ≤ cap) → clip room (min at cap) s ≡ clip room at s
    go (yes l) = ap (λ (k : ℕ). clip room k s) (omega arith)
    go (no g) = clip_past room (min at cap) s (omega arith) ∙ sym (clip_past room at s (omega arith))

-- ---- puts

module _ {a b : List ℕ} {at : ℕ} {s : List ℕ} {m : ℕ} where
  -- one text and then another are both texts at once
  pub then : {c t : List ℕ} {r : ℕ} → Put a b at s m → Put b c m t r → Put a c at (s ++ t) r
  then {t = t} p q =
      record {
        small = p.small;
        wrote = q.wrote ∙ rw (p.next, clip_stopped b (at + length s) t q.small, p.wrote, clip_append);
        next = omega (arith, p.next, q.next, length-append s t);
      }

  -- the same text in other words
  pub put_as : {t : List ℕ} → t ≡ s → Put a b at s m → Put a b at t m
  put_as e p = rw e p

  -- the room keeps its length
  pub put_length : Put a b at s m → length b ≡ length a
  put_length p = ap length p.wrote ∙ length_clip a at s

-- no text: the place after it is the one that `place` answers
pub put_none : {room : List ℕ} {at r : ℕ} → length room < cap → r ≡ min at cap → Put room room at [] r
unfolding clip
put_none h e = record { small = h; wrote = refl; next = omega arith }
