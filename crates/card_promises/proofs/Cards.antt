-- Weights and laid cards, by citing; card A's limits, by computing. Assumes nothing.
use Prim.Native.Nat.{ℕ, ◌≤◌}
use mathlib.Core.Path.{◌≡◌, refl, ap}
use mathlib.Core.Logic.{◌↔◌}
use mathlib.Core.Option.{Option, none, some}
use native.Mathlib.Omega.{arith}
use Rattle.card.specs.Limits.{unit}
use Rattle.card.specs.Card.{Mode}
use Rattle.card.specs.Valid.{ValidBranch, ValidCard}
use Rattle.meaning.specs.CardA.{card_a}
use Rattle.card.proofs.HeldIn.{lent_back}
use Rattle.card.proofs.Laws.{units_worth, laid_back, laid_injective, laid_falls, valid_held, statements_long, nodes_long, branches_long, nodes_small, branches_small}
use Rattle.card.specs.Refusals.{wrong_weight}
use Rattle.card.specs.Weight.{units_of}
use Rattle.weights.specs.Judged.{judged_of, weight_number, weight_units}
use Rattle.entry.proofs.Exactly.{◌↔∙◌}
use Rattle.card_promises.specs.Cards.{Cards}

card_a_valid : (mode : Mode) → ValidCard (card_a mode)
unfolding card_a
card_a_valid mode =
    let branch : (u t : ℕ) → u ≤ unit → t ≤ 2 → ValidBranch 2 0 (record { units = u; end = t; sets = none }) = λ u t h l. record { units = h; end = l; sets = tt } in
    record {
      shared = tt;
      seats = omega arith;
      seats_most = omega arith;
      top = omega arith;
      init = omega arith;
      some = (omega arith, omega arith);
      statements = (
        record { own = omega arith; guard = ((omega arith, omega arith), omega arith, omega arith); some = (omega arith, omega arith); branches = (branch _ 1 (omega arith) (omega arith), (branch _ 2 (omega arith) (omega arith), tt)); sum = refl },
        (record { own = omega arith; guard = ((omega arith, omega arith), omega arith, omega arith); some = (omega arith, omega arith); branches = (branch _ 2 (omega arith) (omega arith), (branch _ 1 (omega arith) (omega arith), tt)); sum = refl }, tt),
      );
    }

-- the units, or none
taken_units : (o : Option ℕ) (u : ℕ) → ((weight_number (judged_of o) ≡ 0) × (weight_units (judged_of o) ≡ u)) ↔ (o ≡ some u)
taken_units none u = (λ h. absurd (omega (arith, h.0)), λ e. let z : ◌≡◌ {A = ℕ} 0 1 = cc in absurd (omega arith))
taken_units (some v) u = (λ h. ap some h.1, λ e. (refl, cc))

no_units : (o : Option ℕ) → (weight_number (judged_of o) ≡ wrong_weight) ↔ ((u : ℕ) → o ≡ some u → ⊥)
no_units none = (λ h u e. let z : ◌≡◌ {A = ℕ} 0 1 = cc in absurd (omega arith), λ h. refl)
no_units (some v) = (λ h. absurd (omega (arith, h)), λ h. absurd (h v refl))

pub cards : Cards
unfolding units_of
cards = record {
  hundredths = refl;
  weight_taken = λ w u. taken_units (units_of w) u ↔∙ units_worth w u;
  weight_refused = λ w. no_units (units_of w) ↔∙ (λ h u k. h u ((units_worth w u).1 k), λ h u e. h u ((units_worth w u).0 e));
  card_a_holds = λ mode. card_a_valid mode;
  weights = units_worth;
  fits = λ c v.
      let held = valid_held c v in
      record { statements = statements_long c; nodes = nodes_long c held; branches = branches_long c held; node = nodes_small c held; branch = branches_small c v };
  comes_back = laid_back;
  once = laid_injective;
  lent_comes_back = λ c v. lent_back c (valid_held c v);
  falls = λ c v i h d j l x e. let f = laid_falls c (valid_held c v) i h d j l in rw e (λ z. (f.left z, f.right z));
}
