-- The four ways out of a word, in the definition's order: a seat word, a module word, another word, a keyword. Each takes what the code
-- has found so far.
use Prim.Native.Nat.{ℕ, ◌+◌, ◌≤◌, ◌<◌}
use mathlib.Core.Path.{◌≡◌, refl, sym, ap, ap₂, ◌∙◌}
use mathlib.Core.Bool.{true, false}
use mathlib.Core.List.{List}
use native.Mathlib.Omega.{arith}
use lib.ListN.{length, get_or, drop, length-drop}
use Rattle.std.specs.Prelude.{Option, Some, None}
use Rattle.card.specs.Text.{bytes}
use Rattle.marks_on_a_card.specs.Bytes.{is_letter, in_word, run, run_end, begins, after}
use Rattle.marks_on_a_card.specs.declared.Digits.{Digits}
use Rattle.marks_on_a_card.proofs.Runs.{run_length}
use Rattle.marks_on_a_card.specs.Marks.{text, seat, process, numbered, word_mark, word}
use Rattle.marks_on_a_card.specs.Kinds.{k_seat, k_process, k_word, knowns, kind_in}
use Rattle.marks.specs.Step.{step_to, stepped}
use Rattle.marks.specs.Parts.{valued_of, bare_of}
use Rattle.words_and_digits.specs.Begun.{lettered, begun_in}
use Rattle.words_and_digits.specs.Numbered.{NumberedBy, Numbered}
use Rattle.marks.specs.declared.Step.{Step}
use Rattle.words_and_digits.specs.declared.Keyword.{Keyword}
use Rattle.marks.proofs.Starts.{word_step}
use Rattle.words_and_digits.proofs.Keywords.{keyword_is}

pub numbered_fits : (t s : List ℕ) (i : ℕ) → i < length s → (d : Digits) → NumberedBy t (run in_word (drop i s)) d → i + d.count ≤ length s
numbered_fits t s i h d is = omega (arith, is.long, run_length in_word (drop i s), length-drop i s)

pub not_numbered : (t w : List ℕ) (o : Option Digits) → Numbered t w o → ((d : Digits) → o ≡ Some d → ⊥) → Numbered t w None
not_numbered t w None is other = is
not_numbered t w (Some d) is other = absurd (other d refl)

module _ (s : List ℕ) (i : ℕ) (h : i < length s) (l : is_letter (get_or s i 0) ≡ true) where
  abbrev w : List ℕ
  w = run in_word (drop i s)

  abbrev Answers : Step → Type 0
  Answers r = (k : ℕ → Step) → r ≡ stepped i (word (get_or s i 0) (drop (i + 1) s)) k

  pub seat_word : (d : Digits) → NumberedBy (bytes "s") w d → (r : Step) → r ≡ valued_of k_seat d.value i (i + d.count) → Answers r
  seat_word d as-seat r e k =
      e ∙ ap (λ (m : ℕ). step_to (seat d.value) i (i + m)) as-seat.long
      ∙ sym (word_step s i h l k (seat d.value) (as-seat.is_one seat (numbered process (after (bytes "process") w) (text w))))

  module _ (no-seat : Numbered (bytes "s") w None) where
    process_so : word_mark w ≡ numbered process (after (bytes "process") w) (text w)
    process_so = no-seat seat (numbered process (after (bytes "process") w) (text w))

    pub process_word : (d : Digits) → NumberedBy (bytes "process") w d → (r : Step) → r ≡ valued_of k_process d.value i (i + d.count) → Answers r
    process_word d as-process r e k =
        e ∙ ap (λ (m : ℕ). step_to (process d.value) i (i + m)) as-process.long
        ∙ sym (word_step s i h l k (process d.value) (process_so ∙ as-process.is_one process (text w)))

    module _ (no-process : Numbered (bytes "process") w None) where
      as_text : (k : ℕ → Step) → stepped i (word (get_or s i 0) (drop (i + 1) s)) k ≡ step_to (text w) i (i + length w)
      as_text k = word_step s i h l k (text w) (process_so ∙ no-process process (text w))

      pub other_word : kind_in knowns w ≡ k_word → (end : ℕ) → end ≡ run_end in_word s i → (r : Step) → r ≡ bare_of k_word i end → Answers r
      other_word o end z r e k = e ∙ ap₂ (λ (v m : ℕ). bare_of v i m) (sym o) z ∙ sym (as_text k)

      pub keyword_word : (known : Keyword) → Some known ≡ begun_in (lettered knowns) (drop i s) → begins in_word (drop (i + known.size) s) ≡ false
          → (r : Step) → r ≡ bare_of known.kind i (i + known.size) → Answers r
      keyword_word known is o r e k =
          let found = keyword_is s i h l known is o in
          e ∙ ap₂ (λ (v m : ℕ). bare_of v i (i + m)) (sym found.0) (sym found.1) ∙ sym (as_text k)
