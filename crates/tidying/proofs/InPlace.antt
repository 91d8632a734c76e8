-- What the promise of a deck changed in place says: which refusal is answered, which length, and what stands in the lent room. By what is said of it alone. Assumes nothing.
use Prim.Native.Nat.{ℕ}
use mathlib.Core.Path.{◌≡◌, refl, sym, ap, ◌∙◌}
use mathlib.Core.Logic.{◌↔◌}
use mathlib.Core.List.{List}
use lib.ListN.{length}
use Rattle.entry.specs.Said.{Said, says, refused}
use Rattle.entry.specs.Contract.{Ends, Enters, in_place, Faithful}
use Rattle.entry.specs.Stage.{Passes}
use Rattle.entry.proofs.Entries.{ends_left, answer_refused, answer_says, refused_left}
use Rattle.entry.proofs.Exactly.{◌↔∙◌}
use Rattle.entry.proofs.Stages.{says≢refused, same_said, first}
use Rattle.tidying.specs.Tidied.{lent_after}

module _ {T : Type 0} {tell : Said ℕ → T} (faithful : Faithful tell) {was is : List ℕ} {said : Said (List ℕ)} {answer : T} (e : Enters in_place tell was is said answer) where
  pub place_refused : (r p : ℕ) → (answer ≡ tell (refused r p)) ↔ (said ≡ refused r p)
  place_refused r p = answer_refused e faithful r p ↔∙ first said (λ (t : List ℕ). says _) r p (λ _ h. says≢refused h)

  -- a refusal leaves the deck as it was
  pub place_unchanged : (r p : ℕ) → answer ≡ tell (refused r p) → is ≡ was
  place_unchanged = refused_left e faithful

  module _ {W : Type 0} {f : W → List ℕ} (found : Passes said W f) where
    ends : (w : W) → in_place was said ≡ says (record { value = length (f w); memory = lent_after (f w) was })
    ends w = ap (in_place was) (found.each w)

    pub place_stands : (w : W) → is ≡ lent_after (f w) was
    place_stands w = ends_left e (ends w)

    pub place_done : (long : ℕ) → (answer ≡ tell (says long)) ↔ ((w : W) × (long ≡ length (f w)))
    place_done long = answer_says e faithful long ↔∙ (λ z. forth said refl z.0 z.1 z.2, λ z. (_, ends z.0, z.1))
      where
        forth : (x : Said (List ℕ)) → said ≡ x → (y : Ends ℕ (List ℕ)) → in_place was x ≡ says y → long ≡ y.value → (w : W) × (long ≡ length (f w))
        forth (says t) k y h v = let (w, at) = found.only t k in (w, v ∙ sym (ap (λ (z : Ends ℕ (List ℕ)). z.value) (same_said h)) ∙ ap length at)
        forth (refused r p) k y h v = says≢refused (sym h)
