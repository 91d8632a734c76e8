-- A range, part by part: up to its k, and then the marks round what it starts at. Assumes nothing.
use Prim.Native.Nat.{ℕ}
use mathlib.Core.Path.{◌≡◌, refl, ap, ◌∙◌}
use mathlib.Core.List.{List}
use native.Mathlib.Omega.{arith}
use lib.ListN.{length}
use Rattle.marks_on_a_card.specs.Kinds.{kind}
use Rattle.reading.specs.Reader.{State, Result, ok, stop, Reader, bind, ◌>>=◌, ◌>>◌, return, the, sign, number_of, numbered}
use Rattle.reading.specs.Shape.{Range, zero_of, top, range}
use Rattle.reading.specs.Checks.{judged_state}
use Rattle.late.specs.Late.{Late, judge, judge_all}
use Rattle.late.specs.declared.state.State.{State as Carried}
use Rattle.late.specs.Settled.{Refusal}
use Rattle.late.specs.State.{late_in, value_in, After, after}
use Rattle.std.specs.Prelude.{Ok, Err}
use Rattle.parts.specs.Parts.{from, NumberFrom, SignRead, SignFrom}
use Rattle.parts.proofs.Steps.{told}
use Rattle.parts.proofs.Answers.{onward, halted}
use Rattle.mode_and_range.specs.ModeRange.{span, SpanFrom, RangeRead, RangeFrom}

-- behind its k
abbrev behind_top : ℕ → Reader Range
behind_top k = do
  sign "]"
  sign "init"
  l ← numbered number_of
  sign ";"
  return (record { top = k; start = l })

whole : (most : ℕ) (st : State) → range most st ≡ bind (span most st) behind_top
whole most st = go (the zero_of st)
  where
    dots : (x : Result (Unit {0})) → bind x (λ u s. bind (top most s) behind_top) ≡ bind (bind x (λ u. top most)) behind_top
    dots (ok u s) = refl
    dots (stop n p) = refl

    go : (x : Result ℕ) → bind x (λ z s. bind (sign ".." s) (λ u s₁. bind (top most s₁) behind_top)) ≡ bind (bind x (λ z s. bind (sign ".." s) (λ u. top most))) behind_top
    go (ok z s) = dots (sign ".." s)
    go (stop n p) = refl

-- a part that reading stops in, in the order of the parts; and the two numbers, written
module _ (s : List ℕ) (i most : ℕ) (before : Late) where
  abbrev RangeIs : After → Type 0
  RangeIs = RangeFrom s i most before

  -- where it stops, whatever follows
  stops : (state : Carried) (e : Refusal) → ((n : ℕ) → RangeRead s before (bind (span most (from s i n)) behind_top) (after state (Err e))) → RangeIs (after state (Err e))
  stops state e y = record { answers = λ n. rw (whole most (from s i n)) (y n); within = tt }

  pub span_halts : {a : Carried} {e : Refusal} → SpanFrom s i most before (after a (Err e)) → RangeIs (after a (Err e))
  span_halts {a} {e} ht = stops a e λ n. halted s _ _ (span most (from s i n)) _ a e (ht.answers n)

  module _ {a : Carried} {t : ℕ} (ht : SpanFrom s i most before (after a (Ok t))) where
    behind_span : (r : After) (n : ℕ) → ((n : ℕ) → late_in a ≡ before → RangeRead s before (behind_top (value_in a) (from s t n)) r)
        → RangeRead s before (bind (span most (from s i n)) behind_top) r
    behind_span r n y = onward s _ _ (span most (from s i n)) _ a t r (ht.answers n) λ k m f. rw (← f.value) (y m f.late)

    pub square_halts : {e : Refusal} → SignFrom s t (kind "]") (Err e) → RangeIs (after a (Err e))
    square_halts {e} hq = stops a e λ n. behind_span _ n λ m f. halted s _ _ (sign "]" (from s t m)) _ a e (hq.answers "]" (told "]" (omega arith)) refl m a)

    module _ {q : ℕ} (hq : SignFrom s t (kind "]") (Ok q)) where
      closed : (n : ℕ) → SignRead s a (sign "]" (from s t n)) (after a (Ok q))
      closed n = hq.answers "]" (told "]" (omega arith)) refl n a

      pub init_halts : {e : Refusal} → SignFrom s q (kind "init") (Err e) → RangeIs (after a (Err e))
      init_halts {e} ho = stops a e λ n. behind_span _ n λ m f. onward s _ _ (sign "]" (from s t m)) _ a q _ (closed m) λ u m₁ f₁.
          halted s _ _ (sign "init" (from s q m₁)) _ a e (ho.answers "init" (told "init" (omega arith)) refl m₁ a)

      module _ {o : ℕ} (ho : SignFrom s q (kind "init") (Ok o)) where
        behind_init : (r : After) (n : ℕ)
            → ((n : ℕ) → late_in a ≡ before → RangeRead s before (bind (numbered number_of (from s o n)) (λ l s₁. bind (sign ";" s₁) (λ u. return (record { top = value_in a; start = l })))) r)
            → RangeRead s before (bind (span most (from s i n)) behind_top) r
        behind_init r n y = behind_span r n λ m f. onward s _ _ (sign "]" (from s t m)) _ a q r (closed m) λ u m₁ f₁.
            onward s _ _ (sign "init" (from s q m₁)) _ a o r (ho.answers "init" (told "init" (omega arith)) refl m₁ a) λ u₁ m₂ f₂. y m₂ f

        pub start_halts : {d : Carried} {e : Refusal} → NumberFrom s o (value_in a) (late_in a) (after d (Err e)) → RangeIs (after d (Err e))
        start_halts {d} {e} hl = stops d e λ n. behind_init _ n λ m f. halted s _ _ (numbered number_of (from s o m)) _ d e (hl.answers m)

        module _ {d : Carried} {l : ℕ} (hl : NumberFrom s o (value_in a) (late_in a) (after d (Ok l))) where
          pub semicolon_halts : {e : Refusal} → SignFrom s l (kind ";") (Err e) → RangeIs (after d (Err e))
          semicolon_halts {e} hz = stops d e λ n. behind_init _ n λ m f. onward s _ _ (numbered number_of (from s o m)) _ d l _ (hl.answers m) λ x m₁ f₁.
              halted s _ _ (sign ";" (from s l m₁)) _ d e (hz.answers ";" (told ";" (omega arith)) refl m₁ d)

          pub range_read : {z : ℕ} → SignFrom s l (kind ";") (Ok z) → RangeIs (after (record d { top = value_in a; start = value_in d }) (Ok z))
          unfolding judge_all
          range_read {z} hz = record {
            answers = λ n. rw (whole most (from s i n)) (behind_init _ n λ m f. onward s _ _ (numbered number_of (from s o m)) _ d l _ (hl.answers m) λ x m₁ f₁.
                onward s _ _ (sign ";" (from s l m₁)) _ d z _ (hz.answers ";" (told ";" (omega arith)) refl m₁ d) λ u m₂ f₂.
                record { rest = refl; told = record { top = refl; start = f₁.value; late = f₁.late ∙ ap (judge (length s) (judged_state (value_in a) x)) f } });
            within = ht.within;
          }
