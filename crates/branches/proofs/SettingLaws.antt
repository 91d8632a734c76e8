-- What a branch sets: nothing where no `&` stands, and else its words, its value and the closing bracket. Assumes nothing.
use Prim.Native.Nat.{ℕ, zero, suc, ◌+◌, ◌-◌}
use mathlib.Core.Path.{◌≡◌, refl, ap, ◌∙◌, subst}
use mathlib.Core.List.{List, [], ◌∷◌}
use mathlib.Core.Option.{Option, none, some}
use native.Mathlib.Numerals.{add-one}
use native.Mathlib.Omega.{arith}
use lib.ListN.{length}
use Rattle.marks_on_a_card.specs.Kinds.{kind}
use Rattle.marks.specs.declared.Step.{Step}
use Rattle.reading.specs.Reader.{Reader, bind, ◌>>=◌, ◌>>◌, return, sign, number_of, Numbered, numbered, line}
use Rattle.reading.specs.Shape.{setting}
use Rattle.reading.specs.Checks.{judged_state}
use Rattle.late.specs.Late.{Late, judge, judge_all}
use Rattle.late.specs.declared.state.State.{State as Carried}
use Rattle.late.specs.Settled.{Refusal}
use Rattle.late.specs.State.{NextPlace, late_in, value_in, After, after}
use Rattle.std.specs.Prelude.{Ok, Err}
use Rattle.parts.specs.Parts.{from, Answers, Told, Sure, NumberFrom, SignRead, SignFrom, RunFrom, Went, items_in, marks_due}
use Rattle.parts.proofs.Steps.{Next, told}
use Rattle.parts.proofs.Answers.{onward, halted, next_is, next_is_not}
use Rattle.parts.proofs.Lines.{signs_read}
use Rattle.branches.specs.Branches.{set_due, SetRead, SettingFrom, SetsFrom}

ampersand : Told "&"
ampersand = told "&" (omega arith)

set_sure : Sure set_due
set_sure = (ampersand, (told "(" (omega arith), (told "g" (omega arith), (told "'" (omega arith), (told "=" (omega arith), tt)))))

-- behind the `&`, as far as it stands there
abbrev then_value : Reader (Option Numbered)
then_value = do
  v ← numbered number_of
  sign ")"
  return (some v)

-- nothing is set, and nothing is judged
nothing_set : (s : List ℕ) (i most : ℕ) (was : Carried) (n : ℕ) → SetRead s most (late_in was) (return none (from s i n)) (after (record was { value = 0 }) (Ok i))
unfolding judge_all
nothing_set s i most was n = record { rest = refl; told = record { value = refl; late = refl } }

module _ (s : List ℕ) (i most : ℕ) {x : Step} (v : Next s i x) where
  pub none_set : (x.mark.kind ≡ kind "&" → ⊥) → (was : Carried) → SettingFrom s i most (late_in was) (after (record was { value = 0 }) (Ok i))
  none_set e was = record {
    answers = λ n. next_is_not s _ "&" ampersand (line (items_in set_due) >>= λ ws. then_value) (return none) i x v n _ e (nothing_set s i most was n);
  }

  module _ (e : x.mark.kind ≡ kind "&") (before : Late) where
    -- an answer to the update is one to the whole
    updates : (r : After) (n : ℕ) → SetRead s most before (bind (line (items_in set_due) (from s i n)) (λ ws. then_value)) r → SetRead s most before (setting (from s i n)) r
    updates r n y = next_is s _ "&" ampersand (line (items_in set_due) >>= λ ws. then_value) (return none) i x v n r e y

    worded : (r : After) → RunFrom s i (marks_due set_due) before r → (n : ℕ) → Answers s (λ ws state. late_in state ≡ before) (line (items_in set_due) (from s i n)) r
    worded r hw n = signs_read s before set_due tt (from s i n) r (hw.answers set_due set_sure refl n)

    pub words_halt : {a : Carried} {z : Refusal} → RunFrom s i (marks_due set_due) before (after a (Err z)) → SettingFrom s i most before (after a (Err z))
    words_halt {a} {z} hw = record { answers = λ n. updates _ n (halted s _ _ (line (items_in set_due) (from s i n)) _ a z (worded _ hw n)) }

    module _ {a : Carried} {w : ℕ} (hw : RunFrom s i (marks_due set_due) before (after a (Ok w))) where
      pub value_halts : {b : Carried} {z : Refusal} → NumberFrom s w most (late_in a) (after b (Err z)) → SettingFrom s i most before (after b (Err z))
      value_halts {b} {z} ht = record {
        answers = λ n. updates _ n (onward s _ _ (line (items_in set_due) (from s i n)) _ a w _ (worded _ hw n) λ ws m f.
            halted s _ _ (numbered number_of (from s w m)) _ b z (ht.answers m));
      }

      module _ {b : Carried} {t : ℕ} (ht : NumberFrom s w most (late_in a) (after b (Ok t))) where
        behind_value : (r : After) (n : ℕ)
            → ((d : Numbered) (n : ℕ) → late_in a ≡ before → Went s (late_in a) d.value (judged_state most d ∷ []) b → SetRead s most before (bind (sign ")" (from s t n)) (λ u. return (some d))) r)
            → SetRead s most before (setting (from s i n)) r
        behind_value r n k = updates r n (onward s _ _ (line (items_in set_due) (from s i n)) _ a w _ (worded _ hw n) λ ws m f.
            onward s _ _ (numbered number_of (from s w m)) _ b t _ (ht.answers m) λ d m₁ f₁. k d m₁ f f₁)

        closed : {y : NextPlace} → SignFrom s t (kind ")") y → (n : ℕ) → SignRead s b (sign ")" (from s t n)) (after b y)
        closed hq n = hq.answers ")" (told ")" (omega arith)) refl n b

        pub close_halts : {z : Refusal} → SignFrom s t (kind ")") (Err z) → SettingFrom s i most before (after b (Err z))
        close_halts {z} hq = record { answers = λ n. behind_value _ n λ d m f f₁. halted s _ _ (sign ")" (from s t m)) _ b z (closed hq m) }

        pub set_read : {q : ℕ} → SignFrom s t (kind ")") (Ok q) → SettingFrom s i most before (after (record b { value = value_in b + 1 }) (Ok q))
        unfolding judge_all
        set_read {q} hq = record {
          answers = λ n. behind_value _ n λ d m f f₁.
              onward s _ _ (sign ")" (from s t m)) _ b q _ (closed hq m) λ u m₂ f₂.
              record { rest = refl; told = record { value = add-one (value_in b) ∙ ap suc f₁.value; late = f₁.late ∙ ap (judge (length s) (judged_state most d)) f } };
        }

-- by whether a number is shared
module _ (s : List ℕ) (i values : ℕ) where
  pub none_shared : values ≡ 0 → (was : Carried) → SetsFrom s i values (late_in was) (after (record was { value = 0 }) (Ok i))
  none_shared e was = record { answers = λ n. rw e (nothing_set s i 0 was n) }

  pub shared : (values ≡ 0 → ⊥) → {before : Late} {r : After} → SettingFrom s i (values - 1) before r → SetsFrom s i values before r
  shared e {before} {r} h = go values e h
    where
      go : (m : ℕ) → (m ≡ 0 → ⊥) → SettingFrom s i (m - 1) before r → SetsFrom s i m before r
      go zero e h = absurd (e refl)
      go (suc m) e h =
          let same : suc m - 1 ≡ m = omega arith in
          record { answers = λ n. subst (λ (k : ℕ). SetRead s k before (setting (from s i n)) r) same (h.answers n) }
