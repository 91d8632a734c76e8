-- The text of what a branch does to the counters and to the shared number, in the forms in which the code puts it. Assumes nothing.
use Prim.Native.Nat.{ℕ, zero, suc, ◌-◌, ◌<◌}
use mathlib.Core.Path.{◌≡◌, refl}
use mathlib.Core.List.{List, ◌∷◌}
use mathlib.Core.Option.{none, some}
use native.Mathlib.Omega.{arith}
use borrow.Author.Tests.{eq-eqb, ne_eqb}
use Rattle.card.specs.Laid.{set_of}
use Rattle.meaning.specs.Reduced.{keep, shift, update_of}
use Rattle.phrases.specs.Phrases.{◌▸◌, num}
use Rattle.room.specs.Digits.{digit}
use Rattle.room.proofs.Decimal.{decimal_one}
use Rattle.texts.specs.Shared.{set_text, set_last}
use Rattle.texts.specs.ReducedText.{update_text}

-- a shift of one digit each
pub shift_digits : (n j t : ℕ) → j < 10 → t < 10 → (r : List ℕ)
    → "(no_" ▸ (digit j ∷ ("'=no_" ▸ (digit j ∷ ("-1) & (no_" ▸ (digit t ∷ ("'=min(no_" ▸ (digit t ∷ ("+1," ▸ num n ("))" ▸ r)))))))))
    ≡ update_text (shift j t n) none r
shift_digits n j t hj ht r = rw (decimal_one j hj, decimal_one t ht)

-- nothing but what is set, where there is something
keep_none : (sets : ℕ) → sets ≡ 0 → (r : List ℕ) → "true" ▸ r ≡ update_text keep (set_of sets) r
keep_none sets e r = rw e

keep_some : (sets : ℕ) → (sets ≡ 0 → ⊥) → (r : List ℕ) → set_text (sets - 1) r ≡ update_text keep (set_of sets) r
keep_some zero h r = absurd (h refl)
keep_some (suc v) h r = let e : suc v - 1 ≡ v = omega arith in rw e

shift_some : (n j t sets : ℕ) → (sets ≡ 0 → ⊥) → (r : List ℕ)
    → update_text (shift j t n) none (set_last (some (sets - 1)) r) ≡ update_text (shift j t n) (set_of sets) r
shift_some n j t zero h r = absurd (h refl)
shift_some n j t (suc v) h r = let e : suc v - 1 ≡ v = omega arith in rw e

module _ (n j t sets : ℕ) where
  pub update_none : j ≡ t → sets ≡ 0 → (r : List ℕ) → "true" ▸ r ≡ update_text (update_of n j t) (set_of sets) r
  update_none e h r = rw (eq-eqb j t e) (keep_none sets h r)

  pub update_set : j ≡ t → (sets ≡ 0 → ⊥) → (r : List ℕ) → set_text (sets - 1) r ≡ update_text (update_of n j t) (set_of sets) r
  update_set e h r = rw (eq-eqb j t e) (keep_some sets h r)

  pub update_shift : (j ≡ t → ⊥) → sets ≡ 0 → (r : List ℕ) → update_text (shift j t n) none r ≡ update_text (update_of n j t) (set_of sets) r
  update_shift h e r = rw (ne_eqb j t h, e)

  pub update_both : (j ≡ t → ⊥) → (sets ≡ 0 → ⊥) → (r : List ℕ)
      → update_text (shift j t n) none (set_last (some (sets - 1)) r) ≡ update_text (update_of n j t) (set_of sets) r
  update_both h e r = rw (ne_eqb j t h) (shift_some n j t sets e r)
