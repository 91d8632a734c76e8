-- A text stored in a room leaves what stands before it and what stands behind it. Assumes nothing.
use Prim.Native.Nat.{ℕ, suc, ◌+◌, ◌≤◌, ◌<◌}
use mathlib.Core.Path.{◌≡◌, refl, ap, ◌∙◌}
use mathlib.Core.List.{List, [], ◌∷◌}
use native.Mathlib.Omega.{arith}
use lib.ListN.{length, take, drop, get_or, set}
use lib.Seq.{get_or-set_other, drop-set-lt, take-set-le, set_comm}
use Rattle.room.specs.Room.{clip}
use Rattle.room.proofs.Laws.{length_clip}

pub clip_long : (was : List ℕ) (at : ℕ) (s : List ℕ) {is : List ℕ} → is ≡ clip was at s → length is ≡ length was
clip_long was at s e = ap length e ∙ length_clip was at s

pub get_d_before : (was : List ℕ) (at : ℕ) (s : List ℕ) (j : ℕ) → j < at → get_or (clip was at s) j 0 ≡ get_or was j 0
unfolding clip
get_d_before was at [] j h = refl
get_d_before was at (b ∷ s) j h = get_d_before (set was at b) (suc at) s j (omega arith) ∙ get_or-set_other was at j b 0 (λ e. omega (arith, e))

pub get_d_behind : (was : List ℕ) (at : ℕ) (s : List ℕ) (j : ℕ) → at + length s ≤ j → get_or (clip was at s) j 0 ≡ get_or was j 0
unfolding clip
get_d_behind was at [] j h = refl
get_d_behind was at (b ∷ s) j h = get_d_behind (set was at b) (suc at) s j (omega arith) ∙ get_or-set_other was at j b 0 (λ e. omega (arith, e))

pub take_before : (was : List ℕ) (at : ℕ) (s : List ℕ) (n : ℕ) → n ≤ at → take n (clip was at s) ≡ take n was
unfolding clip
take_before was at [] n h = refl
take_before was at (b ∷ s) n h = take_before (set was at b) (suc at) s n (omega arith) ∙ take-set-le n was at b h

pub drop_behind : (was : List ℕ) (at : ℕ) (s : List ℕ) (n : ℕ) → at + length s ≤ n → drop n (clip was at s) ≡ drop n was
unfolding clip
drop_behind was at [] n h = refl
drop_behind was at (b ∷ s) n h = drop_behind (set was at b) (suc at) s n (omega arith) ∙ drop-set-lt n was at b (omega arith)

-- a byte before it may be stored first
pub set_clip : (was : List ℕ) (at : ℕ) (s : List ℕ) (j b : ℕ) → j < at → set (clip was at s) j b ≡ clip (set was j b) at s
unfolding clip
set_clip was at [] j b h = refl
set_clip was at (x ∷ s) j b h =
    set_clip (set was at x) (suc at) s j b (omega arith) ∙ ap (λ (w : List ℕ). clip w (suc at) s) (set_comm was at j x b (λ e. omega (arith, e)))

-- and so may a text
pub clip_clip : (was : List ℕ) (a b : ℕ) (s t : List ℕ) → a + length s ≤ b → clip (clip was b t) a s ≡ clip (clip was a s) b t
unfolding clip
clip_clip was a b [] t h = refl
clip_clip was a b (x ∷ s) t h = ap (λ (w : List ℕ). clip w (suc a) s) (set_clip was b t a x (omega arith)) ∙ clip_clip (set was a x) (suc a) b s t (omega arith)
