-- The mode by its mark, and the range mark by mark. Assumes nothing.
use Prim.Native.Nat.{ℕ, ◌≤◌, ◌<◌}
use mathlib.Core.Path.{◌≡◌, refl}
use mathlib.Core.Bool.{Bool, true, false}
use mathlib.Core.List.{List}
use mathlib.Core.Option.{none, some}
use native.Mathlib.Omega.{arith}
use borrow.Author.Tests.{eq-eqb, ne_eqb, eqb-true, le-leb, lt-leb}
use lib.Dec.{eqb, leb}
use Rattle.card.specs.Refusals.{out_of_shape, past_limit}
use Rattle.card.specs.Text.{when◌then◌else◌}
use Rattle.card.specs.Card.{Mode, nondeterministic, probabilistic}
use Rattle.card.specs.Laid.{mode_number}
use Rattle.marks_on_a_card.specs.Kinds.{k_number, kind}
use Rattle.marks.specs.Step.{marks_at}
use Rattle.marks.specs.declared.Step.{Step}
use Rattle.reading.specs.Reader.{bind, return, refuse_at, sign, number_of}
use Rattle.reading.specs.Shape.{mode_of, zero_of, only_zero, top}
use Rattle.late.specs.Late.{Late}
use Rattle.late.specs.declared.state.State.{State as Carried}
use Rattle.late.specs.Settled.{refusal}
use Rattle.late.specs.State.{late_in, After, after}
use Rattle.std.specs.Prelude.{Ok, Err}
use Rattle.parts.specs.Parts.{from, Told}
use Rattle.parts.proofs.Steps.{Next, place_seen, seen, value_by, number_shown, zero_shown, mode_by, mode_shown, told}
use Rattle.parts.proofs.Answers.{stopped, fits, misses}
use Rattle.parts.proofs.Lines.{sign_fits, sign_misses}
use Rattle.mode_and_range.specs.ModeRange.{ModeFrom, span, SpanRead, SpanFrom}

-- ---- the mode

module _ {s : List ℕ} {i : ℕ} {x : Step} (v : Next s i x) where
  mode_fits : (m : Mode) → mode_by x.mark ≡ some m → (was : Carried) → ModeFrom s i (late_in was) (after (record was { value = mode_number m }) (Ok x.next.at))
  mode_fits m e was = record { answers = λ n. rw (seen mode_of mode_by mode_shown s i x v n, e) (record { rest = refl; told = record { value = refl; late = refl } }) }

  pub mode_first : x.mark.kind ≡ kind "nondeterministic" → (was : Carried) → ModeFrom s i (late_in was) (after (record was { value = mode_number nondeterministic }) (Ok x.next.at))
  mode_first e = mode_fits nondeterministic (rw (eq-eqb _ _ e))

  module _ (d : x.mark.kind ≡ kind "nondeterministic" → ⊥) where
    pub mode_second : x.mark.kind ≡ kind "probabilistic" → (was : Carried) → ModeFrom s i (late_in was) (after (record was { value = mode_number probabilistic }) (Ok x.next.at))
    mode_second e = mode_fits probabilistic (rw (ne_eqb _ _ d, eq-eqb _ _ e))

    pub mode_neither : (x.mark.kind ≡ kind "probabilistic" → ⊥) → {before : Late} (state : Carried) → ModeFrom s i before (after state (Err (refusal out_of_shape x.mark.place)))
    mode_neither e state = record {
      answers = λ n. rw (seen mode_of mode_by mode_shown s i x v n, ne_eqb x.mark.kind (kind "nondeterministic") d, ne_eqb x.mark.kind (kind "probabilistic") e, ← place_seen s i x v) (stopped state);
    }

-- ---- the range, up to its k

dots : Told ".."
dots = told ".." (omega arith)

module _ (most : ℕ) {s : List ℕ} {i : ℕ} {x : Step} (v : Next s i x) where
  -- only 0 stands before the dots
  zero_by : (b : Bool) → eqb x.mark.kind k_number ≡ b → (x.mark.kind ≡ k_number → x.mark.value ≡ 0 → ⊥) → only_zero (when b then some x.mark.value else none) ≡ none
  zero_by true e h = rw (ne_eqb x.mark.value 0 (h (eqb-true _ _ e)))
  zero_by false e h = refl

  pub zero_misses : (x.mark.kind ≡ k_number → x.mark.value ≡ 0 → ⊥) → {before : Late} (state : Carried) → SpanFrom s i most before (after state (Err (refusal out_of_shape x.mark.place)))
  zero_misses h state = record {
    answers = λ n. misses s _ zero_of (λ y. only_zero (value_by k_number y)) zero_shown i x v n (zero_by (eqb x.mark.kind k_number) refl h) _ _ (stopped state);
    within = tt;
  }

  module _ (e : x.mark.kind ≡ k_number) (f : x.mark.value ≡ 0) {y : Step} (u : Next s x.next.at y) where
    behind_zero : (before : Late) (r : After) (n : ℕ) → SpanRead s before (bind (sign ".." (from s x.next.at n)) (λ z. top most)) r → SpanRead s before (span most (from s i n)) r
    behind_zero before r n g = fits s _ zero_of (λ y. only_zero (value_by k_number y)) zero_shown i x v n x.mark.value (rw (eq-eqb _ _ e, eq-eqb _ _ f)) _ r g

    pub dots_miss : (y.mark.kind ≡ kind ".." → ⊥) → {before : Late} (state : Carried) → SpanFrom s i most before (after state (Err (refusal out_of_shape y.mark.place)))
    dots_miss d {before} state = record { answers = λ n. behind_zero before _ n (sign_misses ".." dots s x.next.at _ y u n _ _ d (stopped state)); within = tt }

    module _ (d : y.mark.kind ≡ kind "..") {z : Step} (w : Next s y.next.at z) where
      behind_dots : (before : Late) (r : After) (n : ℕ) → SpanRead s before (top most (from s y.next.at n)) r → SpanRead s before (span most (from s i n)) r
      behind_dots before r n g = behind_zero before r n (sign_fits ".." dots s x.next.at _ y u n _ r d g)

      pub top_misses : (z.mark.kind ≡ k_number → ⊥) → {before : Late} (state : Carried) → SpanFrom s i most before (after state (Err (refusal out_of_shape z.mark.place)))
      top_misses g {before} state = record {
        answers = λ n. behind_dots before _ n (misses s _ number_of (value_by k_number) number_shown y.next.at z w n (rw (ne_eqb _ _ g)) _ _ (stopped state));
        within = tt;
      }

      module _ (g : z.mark.kind ≡ k_number) where
        number_there : (before : Late) (r : After) (n : ℕ)
            → SpanRead s before ((when leb z.mark.value most then return z.mark.value else refuse_at past_limit (marks_at 0 s y.next.at)) (from s z.next.at n)) r
            → SpanRead s before (span most (from s i n)) r
        number_there before r n h = behind_dots before r n (fits s _ number_of (value_by k_number) number_shown y.next.at z w n z.mark.value (rw (eq-eqb _ _ g)) _ r h)

        pub top_past : most < z.mark.value → {before : Late} (state : Carried) → SpanFrom s i most before (after state (Err (refusal past_limit z.mark.place)))
        top_past h {before} state = record {
          answers = λ n. number_there before _ n (rw (lt-leb z.mark.value most h, ← place_seen s _ z w) (stopped state));
          within = tt;
        }

        pub top_fits : z.mark.value ≤ most → (was : Carried) → SpanFrom s i most (late_in was) (after (record was { value = z.mark.value }) (Ok z.next.at))
        top_fits h was = record {
          answers = λ n. number_there (late_in was) _ n (rw (le-leb z.mark.value most h) (record { rest = refl; told = record { value = refl; late = refl } }));
          within = h;
        }
