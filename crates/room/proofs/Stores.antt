-- How the puts of this crate store a text: from its start on, as far as the room has places. Each turn stores one byte more of it; what
-- falls outside the room would change nothing. Assumes nothing.
use Prim.Native.Nat.{ℕ, zero, suc, ◌+◌, ◌-◌, ◌≤◌, ◌<◌, min}
use mathlib.Core.Path.{◌≡◌, refl, sym, ◌∙◌}
use mathlib.Core.List.{List, [], ◌∷◌}
use native.Mathlib.Numerals.{add-one}
use native.Mathlib.Omega.{arith}
use lib.ListN.{length, get_or, take, set, length-set, length-take}
use lib.Seq.{take-nil, take-suc, take-length}
use Rattle.room.specs.Room.{clip, cap, Put}
use Rattle.std.proofs.lemmas.Slice.{put_mid-paste}
use borrow.Rule.Slice.PartMut.{put_mid}
use Rattle.room.proofs.Laws.{clip_one, clip_append, clip_past, clip_fits}

-- a byte within the room
pub put_in : {room : List ℕ} {at b : ℕ} → length room < cap → at < length room → Put room (set room at b) at (b ∷ []) (at + 1)
unfolding clip
put_in h l = record { small = h; wrote = refl; next = omega arith }

-- any text past its end
pub put_past : {room : List ℕ} {at : ℕ} {s : List ℕ} {r : ℕ} → length room < cap → length room ≤ at → r ≡ min (at + length s) cap
    → Put room room at s r
put_past {room} {at} {s} h l e = record { small = h; wrote = sym (clip_past room at s l); next = e }

-- only what the room has places for counts
clip_take : (room : List ℕ) (at : ℕ) (s : List ℕ) (n : ℕ) → n ≡ min (length s) (length room - at)
    → clip room at (take n s) ≡ clip room at s
unfolding clip
clip_take room at [] n h = rw take-nil
clip_take room at (b ∷ s) zero h = sym (clip_past room at (b ∷ s) (omega arith))
clip_take room at (b ∷ s) (suc n) h =
    clip_take (set room at b) (suc at) s n (omega (arith, length-set room at b))

-- a text of which that part is stored
pub put_part : (n : ℕ) {was is : List ℕ} {at : ℕ} {s : List ℕ} {r : ℕ} → length was < cap → n ≡ min (length s) (length was - at)
    → is ≡ clip was at (take n s) → r ≡ min (at + length s) cap → Put was is at s r
put_part n {was} {is} {at} {s} h e w x = record { small = h; wrote = w ∙ clip_take was at s n e; next = x }

-- a byte more of such a part
pub clip_more : (was : List ℕ) {is : List ℕ} (at : ℕ) (s : List ℕ) (i : ℕ) → i < length s → is ≡ clip was at (take i s)
    → set is (at + i) (get_or s i 0) ≡ clip was at (take (i + 1) s)
clip_more was at s i h e =
    let there : at + length (take i s) ≡ at + i = omega (arith, length-take i s) in
    rw (e, add-one, take-suc s i 0 h, clip_append, there, clip_one)

-- a text stored at once over a part of just its length
pub clip_over : (room : List ℕ) (at : ℕ) (s : List ℕ) {part : List ℕ} → at + length s ≤ length room → part ≡ s
    → put_mid at (at + length s - at) room part ≡ clip room at s
clip_over room at s {part} h e =
    put_mid-paste at (at + length s - at) room part s (length s) e (omega arith) refl
    ∙ rw take-length (sym (clip_fits room at s h))
