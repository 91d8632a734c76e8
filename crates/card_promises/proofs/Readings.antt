-- Reading, by citing; and a group's kind, by the laws of its seats. Assumes nothing.
use Prim.Native.Nat.{ℕ, ◌-◌, ◌≤◌}
use mathlib.Core.Path.{◌≡◌, refl}
use mathlib.Core.Bool.{Bool, true, false}
use mathlib.Core.Logic.{◌↔◌, inl}
use mathlib.Core.List.{List}
use mathlib.Core.Option.{none, some}
use native.Mathlib.Omega.{arith}
use Rattle.card.specs.Weight.{card_rule}
use Rattle.card.specs.Text.{when◌then◌else◌}
use Rattle.card.specs.Card.{everyone, others}
use Rattle.reading.specs.Group.{Literal}
use Rattle.reading.specs.Judgements.{once, kind_of}
use Rattle.grammar.specs.Rules.{OnceEach}
use Rattle.grammar.proofs.Symmetry.{once_is, is_once}
use Rattle.grammar.proofs.Theorems.{accepted, read_valid, refusal_1, refusal_2, refusal_3, refusal_4, refusal_5, refusal_6, refusal_7, refusal_17}
use Rattle.reading.proofs.Numbers.{read_number}
use Rattle.card_promises.proofs.CardMarks.{taken_marks}
use Rattle.card_promises.proofs.Numbers.{number_some}
use Rattle.card_promises.specs.Readings.{Readings}

is_everyone : (a b : Bool) → (when a then some everyone else (when b then some others else none)) ≡ some everyone → a ≡ true
is_everyone true b e = refl
is_everyone false true e = let z : ◌≡◌ {A = ℕ} 0 1 = cc in absurd (omega arith)
is_everyone false false e = let z : ◌≡◌ {A = ℕ} 0 1 = cc in absurd (omega arith)

is_others : (a b : Bool) → (when a then some everyone else (when b then some others else none)) ≡ some others → b ≡ true
is_others true b e = let z : ◌≡◌ {A = ℕ} 0 1 = cc in absurd (omega arith)
is_others false true e = refl
is_others false false e = let z : ◌≡◌ {A = ℕ} 0 1 = cc in absurd (omega arith)

names_everyone : (n : ℕ) (ls : List Literal) → (kind_of n ls ≡ some everyone) ↔ OnceEach 1 n ls
names_everyone n ls = (λ e. once_is 1 n n (omega arith) ls (is_everyone (once 1 n ls) (once 2 (n - 1) ls) e), λ o. rw (is_once 1 n n (omega arith) ls o))

-- the first seat is named by everyone alone
names_others : (n : ℕ) (ls : List Literal) → 1 ≤ n → (kind_of n ls ≡ some others) ↔ OnceEach 2 n ls
names_others n ls h = (λ e. once_is 2 (n - 1) n (omega arith) ls (is_others (once 1 n ls) (once 2 (n - 1) ls) e), λ o. back o (once 1 n ls) refl)
  where
    back : OnceEach 2 n ls → (b : Bool) → once 1 n ls ≡ b → kind_of n ls ≡ some others
    back o true e = absurd (omega (arith, (once_is 1 n n (omega arith) ls e).once 1 (omega arith) h, o.only 1 (inl (omega arith))))
    back o false e = rw (e, is_once 2 (n - 1) n (omega arith) ls o)

pub readings : Readings
readings = record {
  accepted = accepted card_rule;
  valid = read_valid card_rule;
  words = taken_marks card_rule;
  names_everyone = names_everyone;
  names_others = names_others;
  row_1 = refusal_1 card_rule;
  row_2 = refusal_2 card_rule;
  row_3 = refusal_3 card_rule;
  row_4 = refusal_4 card_rule;
  row_5 = refusal_5 card_rule;
  row_6 = refusal_6 card_rule;
  row_7 = refusal_7 card_rule;
  row_17 = refusal_17 card_rule;
  no_other = λ s e. (number_some card_rule s e, read_number card_rule s e);
}
