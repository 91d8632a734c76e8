-- The beginning of a card, part by part. Assumes nothing.
use Prim.Native.Nat.{ℕ}
use mathlib.Core.Path.{◌≡◌, refl, sym, ap, ◌∙◌}
use mathlib.Core.List.{List, [], ◌∷◌, ◌++◌}
use native.Mathlib.Omega.{arith}
use lib.ListN.{length}
use Rattle.card.specs.Limits.{top_state}
use Rattle.reading.specs.Reader.{the, line}
use Rattle.reading.specs.Judgements.{Judgement}
use Rattle.reading.specs.Shape.{mode_of, range}
use Rattle.reading.specs.Checks.{judged_state, judged_words, judged_shared}
use Rattle.late.specs.Late.{Late, judge_all}
use Rattle.late.specs.declared.state.State.{State as Carried}
use Rattle.late.specs.Settled.{Refusal}
use Rattle.late.specs.State.{late_in, value_in, After, after}
use Rattle.std.specs.Prelude.{Ok, Err}
use Rattle.late.proofs.Settling.{judge_append}
use Rattle.parts.specs.Parts.{from, Sure, LineRead, RunFrom, items_in, marks_due}
use Rattle.parts.proofs.Steps.{told}
use Rattle.parts.proofs.Answers.{onward, halted}
use Rattle.mode_and_range.specs.ModeRange.{ModeFrom, RangeFrom}
use Rattle.frame.specs.Frame.{sharing, SharedFrom, card_due, header, HeaderRead, HeaderFrom}

pub card_sure : Sure card_due
card_sure = (told "module" (omega arith), (told ":" (omega arith), (told "[" (omega arith), tt)))

-- what is judged of each part, one after the other
judged_header : (e : ℕ) (g : List Judgement) (ws : List Judgement) (x : Judgement) (before : Late)
    → judge_all e (g ++ (ws ++ (x ∷ []))) before ≡ judge_all e (x ∷ []) (judge_all e ws (judge_all e g before))
judged_header e g ws x before = judge_append e g (ws ++ (x ∷ [])) before ∙ judge_append e ws (x ∷ []) (judge_all e g before)

module _ (s : List ℕ) (i : ℕ) (before : Late) where
  abbrev HeaderIs : After → Type 0
  HeaderIs = HeaderFrom s i before

  -- where it stops
  stops : (state : Carried) (z : Refusal) → ((n : ℕ) → HeaderRead s before (header (from s i n)) (after state (Err z))) → HeaderIs (after state (Err z))
  stops state z y = record { answers = y; within = tt }

  pub mode_halts : {a : Carried} {z : Refusal} → ModeFrom s i before (after a (Err z)) → HeaderIs (after a (Err z))
  mode_halts {a} {z} hm = stops a z λ n. halted s _ _ (the mode_of (from s i n)) _ a z (hm.answers n)

  module _ {a : Carried} {m : ℕ} (hm : ModeFrom s i before (after a (Ok m))) where
    pub shared_halts : {b : Carried} {z : Refusal} → SharedFrom s m (late_in a) (after b (Err z)) → HeaderIs (after b (Err z))
    shared_halts {b} {z} hg = stops b z λ n. onward s _ _ (the mode_of (from s i n)) _ a m _ (hm.answers n) λ mode n₁ f.
        halted s _ _ (sharing (from s m n₁)) _ b z (hg.answers n₁)

    module _ {b : Carried} {g : ℕ} (hg : SharedFrom s m (late_in a) (after b (Ok g))) where
      worded : (r : After) → RunFrom s g (marks_due card_due) (late_in b) r → (n : ℕ) → LineRead s (late_in b) (1 ∷ 1 ∷ []) (line (items_in card_due) (from s g n)) r
      worded r hw n = hw.answers card_due card_sure refl n

      pub words_halt : {c : Carried} {z : Refusal} → RunFrom s g (marks_due card_due) (late_in b) (after c (Err z)) → HeaderIs (after c (Err z))
      words_halt {c} {z} hw = stops c z λ n. onward s _ _ (the mode_of (from s i n)) _ a m _ (hm.answers n) λ mode n₁ f.
          onward s _ _ (sharing (from s m n₁)) _ b g _ (hg.answers n₁) λ x n₂ f₁.
          halted s _ _ (line (items_in card_due) (from s g n₂)) _ c z (worded _ hw n₂)

      module _ {c : Carried} {w : ℕ} (hw : RunFrom s g (marks_due card_due) (late_in b) (after c (Ok w))) where
        pub range_halts : {d : Carried} {z : Refusal} → RangeFrom s w top_state (late_in c) (after d (Err z)) → HeaderIs (after d (Err z))
        range_halts {d} {z} ht = stops d z λ n. onward s _ _ (the mode_of (from s i n)) _ a m _ (hm.answers n) λ mode n₁ f.
            onward s _ _ (sharing (from s m n₁)) _ b g _ (hg.answers n₁) λ x n₂ f₁.
            onward s _ _ (line (items_in card_due) (from s g n₂)) _ c w _ (worded _ hw n₂) λ ws n₃ f₂.
            halted s _ _ (range top_state (from s w n₃)) _ d z (ht.answers n₃)

        pub header_read : {d : Carried} {t : ℕ} → RangeFrom s w top_state (late_in c) (after d (Ok t)) → HeaderIs (after (record d { mode = value_in a; shared = b.shared; initial = b.initial }) (Ok t))
        header_read {d} {t} ht = record {
          answers = λ n. onward s _ _ (the mode_of (from s i n)) _ a m _ (hm.answers n) λ mode n₁ f.
              onward s _ _ (sharing (from s m n₁)) _ b g _ (hg.answers n₁) λ x n₂ f₁.
              onward s _ _ (line (items_in card_due) (from s g n₂)) _ c w _ (worded _ hw n₂) λ ws n₃ f₂.
              onward s _ _ (range top_state (from s w n₃)) _ d t _ (ht.answers n₃) λ k n₄ f₃.
              record {
                rest = refl;
                told = record {
                  mode = f.value;
                  values = f₁.values;
                  initial = f₁.initial;
                  top = f₃.top;
                  start = f₃.start;
                  late = f₃.late
                      ∙ ap (judge_all e (judged_state k.top k.start ∷ [])) (f₂ ∙ ap (judge_all e (judged_words (1 ∷ 1 ∷ []) ws)) (f₁.late ∙ ap (judge_all e (judged_shared x)) f.late))
                      ∙ sym (judged_header e (judged_shared x) (judged_words (1 ∷ 1 ∷ []) ws) (judged_state k.top k.start) before);
                };
              };
          within = hg.within;
        }
          where
            e : ℕ
            e = length s
