-- The shared number: nothing where none is declared, and else its words, its range, and the two numbers written. Assumes nothing.
use Prim.Native.Nat.{ℕ, suc, ◌+◌, ◌≤◌}
use mathlib.Core.Path.{◌≡◌, refl, sym, ap, ◌∙◌, subst}
use mathlib.Core.Bool.{Bool, true, false}
use mathlib.Core.List.{List}
use mathlib.Core.Option.{none, some}
use native.Mathlib.Numerals.{add-one}
use native.Mathlib.Omega.{arith}
use borrow.Author.Tests.{eqb-true, eqb-false}
use lib.Dec.{eqb}
use Rattle.card.specs.Limits.{top_shared}
use Rattle.marks_on_a_card.specs.Kinds.{kind}
use Rattle.marks.specs.declared.Step.{Step}
use Rattle.reading.specs.Reader.{bind, ◌>>=◌, return, line}
use Rattle.reading.specs.Shape.{range, declaration}
use Rattle.late.specs.Late.{Late, judge_all}
use Rattle.late.specs.declared.state.State.{State as Carried}
use Rattle.late.specs.Settled.{Refusal}
use Rattle.late.specs.State.{late_in, After, after}
use Rattle.std.specs.Prelude.{Ok, Err}
use Rattle.parts.specs.Parts.{from, Answers, Told, Sure, RunFrom, items_in, marks_due}
use Rattle.parts.proofs.Steps.{Next, told}
use Rattle.parts.proofs.Answers.{onward, halted, next_is, next_is_not}
use Rattle.parts.proofs.Lines.{signs_read}
use Rattle.mode_and_range.specs.ModeRange.{RangeIn, RangeRead, RangeFrom}
use Rattle.frame.specs.Frame.{shared_due, sharing, SharedRead, SharedFrom}

-- by the look for the keyword
pub not_declared : (b : Bool) (k : ℕ) → b ≡ eqb k (kind "global") → b ≡ false → k ≡ kind "global" → ⊥
not_declared true k e f = cc
not_declared false k e f = eqb-false k (kind "global") (sym e)

pub is_declared : (b : Bool) (k : ℕ) → b ≡ eqb k (kind "global") → b ≡ true → k ≡ kind "global"
is_declared true k e f = eqb-true k (kind "global") (sym e)
is_declared false k e f = cc

global : Told "global"
global = told "global" (omega arith)

pub shared_sure : Sure shared_due
shared_sure = (global, (told "g" (omega arith), (told ":" (omega arith), (told "[" (omega arith), tt))))

module _ (s : List ℕ) (i : ℕ) {x : Step} (v : Next s i x) where
  pub none_shared : (x.mark.kind ≡ kind "global" → ⊥) → (was : Carried) → SharedFrom s i (late_in was) (after (record was { shared = 0; initial = 0 }) (Ok i))
  unfolding judge_all
  none_shared e was = record {
    answers = λ n. next_is_not s _ "global" global (declaration >>= λ x. return (some x)) (return none) i x v n _ e
        (record { rest = refl; told = record { values = refl; initial = refl; late = refl } });
    within = omega arith;
  }

  module _ (e : x.mark.kind ≡ kind "global") (before : Late) where
    -- an answer to the declaration is one to the whole
    declared : (r : After) (n : ℕ) → SharedRead s before (bind (declaration (from s i n)) (λ x. return (some x))) r → SharedRead s before (sharing (from s i n)) r
    declared r n y = next_is s _ "global" global (declaration >>= λ x. return (some x)) (return none) i x v n r e y

    worded : (r : After) → RunFrom s i (marks_due shared_due) before r → (n : ℕ) → Answers s (λ ws state. late_in state ≡ before) (line (items_in shared_due) (from s i n)) r
    worded r hw n = signs_read s before shared_due tt (from s i n) r (hw.answers shared_due shared_sure refl n)

    pub words_halt : {a : Carried} {z : Refusal} → RunFrom s i (marks_due shared_due) before (after a (Err z)) → SharedFrom s i before (after a (Err z))
    words_halt {a} {z} hw = record {
      answers = λ n. declared _ n (halted s (RangeIn s before) _ (declaration (from s i n)) _ a z (halted s _ _ (line (items_in shared_due) (from s i n)) _ a z (worded _ hw n)));
      within = tt;
    }

    module _ {a : Carried} {w : ℕ} (hw : RunFrom s i (marks_due shared_due) before (after a (Ok w))) where
      ranged : (r : After) → RangeFrom s w top_shared (late_in a) r → (n : ℕ) → RangeRead s before (declaration (from s i n)) r
      ranged r ht n = onward s _ _ (line (items_in shared_due) (from s i n)) _ a w _ (worded _ hw n) λ ws m f.
          subst (λ (l : Late). RangeRead s l (range top_shared (from s w m)) r) f (ht.answers m)

      pub range_halts : {b : Carried} {z : Refusal} → RangeFrom s w top_shared (late_in a) (after b (Err z)) → SharedFrom s i before (after b (Err z))
      range_halts {b} {z} ht = record { answers = λ n. declared _ n (halted s _ _ (declaration (from s i n)) _ b z (ranged _ ht n)); within = tt }

      pub shared_read : {b : Carried} {t : ℕ} → RangeFrom s w top_shared (late_in a) (after b (Ok t)) → SharedFrom s i before (after (record b { shared = b.top + 1; initial = b.start }) (Ok t))
      shared_read {b} {t} ht = record {
        answers = λ n. declared _ n (onward s _ _ (declaration (from s i n)) _ b t _ (ranged _ ht n) λ x m f.
            record { rest = refl; told = record { values = add-one b.top ∙ ap suc f.top; initial = f.start; late = f.late } });
        within = let few : b.top ≤ top_shared = ht.within in omega (arith, few);
      }
