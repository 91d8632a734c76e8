-- A run of marks, each behind one blank or none, whose text stands at a place with no word going on behind it, is passed: at each place the
-- bytes say what the step finds, mark by mark (`passed`). A further module is such a run, however it is written. Assumes nothing.
use Prim.Native.Nat.{ℕ, suc, ◌+◌, ◌-◌, ◌*◌, ◌≤◌, ◌<◌}
use Prim.Native.String.{String}
use mathlib.Core.Path.{◌≡◌, refl, sym, ap, ◌∙◌}
use mathlib.Core.Bool.{Bool, true, false, not}
use mathlib.Core.List.{List, [], ◌∷◌, ◌++◌, append-nil}
use mathlib.Core.Option.{some}
use native.Mathlib.Nat.{add-zero}
use native.Mathlib.Omega.{arith}
use borrow.Author.Tests.{eq-eqb, le-leb, lt-ltb, le-ltb, ltb-true, ltb-false, not-true}
use lib.Dec.{eqb, ltb}
use lib.ListN.{length, drop, length-append}
use lib.Seq.{drop-drop}
use Rattle.card.specs.Limits.{most_seats, word_digits}
use Rattle.card.specs.Text.{bytes}
use Rattle.marks_on_a_card.specs.Bytes.{is_digit, is_letter, in_word, is_alone, begins, begun, run, every}
use Rattle.marks_on_a_card.specs.Digits.{number_spelt}
use Rattle.marks_on_a_card.proofs.Lists.{cases, not_both, and_left, and_right}
use Rattle.marks_on_a_card.proofs.Numbers.{one_digit}
use Rattle.marks_on_a_card.proofs.Runs.{begins_at, run_empty}
use Rattle.marks_on_a_card.specs.Kinds.{k_seat, k_process, kind}
use Rattle.marks_on_a_card.specs.Marks.{word_mark}
use Rattle.marks.specs.Step.{step_to, step_at}
use Rattle.marks.specs.Parts.{valued_of}
use Rattle.marks.specs.declared.Step.{Step}
use Rattle.marks_on_a_card.proofs.StartLaws.{digit_in_word}
use Rattle.marks_on_a_card.specs.Quick.{bytes_ahead, word_ahead}
use Rattle.looks.proofs.Quick.{past_step}
use Rattle.looks.proofs.Words.{run_of, whole}
use Rattle.word_and_digit_looks.proofs.Looks.{bytes_stand, bytes_fit}
use Rattle.reading.specs.Reader.{line}
use Rattle.late.specs.Late.{Late}
use Rattle.late.specs.declared.state.State.{State as Carried}
use Rattle.late.specs.State.{late_in, After, after}
use Rattle.std.specs.Prelude.{Ok}
use Rattle.parts.specs.Parts.{from, Due, sign, seat, process, items_in, dues_in, marks_due, word_by, LineRead}
use Rattle.parts.proofs.Steps.{next_at}
use Rattle.parts.proofs.Lines.{Left, run_end, run_more, word_due}
use Rattle.parts.proofs.Front.{front, sign_by}
use Rattle.std.specs.Prelude.{Option, Some, None}
use Rattle.frame.specs.Frame.{module_due, gap, copy_text, digits, past_word, past_text, past_copy, ModuleFrom}

-- ---- a text that stands at a place, with no word going on behind it

record Stands (t s : List ℕ) (p : ℕ) : Type 0 where
  here : begun t (drop p s) ≡ true
  over : begins in_word (drop (p + length t) s) ≡ false

-- what stands behind its beginning
stands_on : (t u s : List ℕ) (p : ℕ) → Stands (t ++ u) s p → Stands u s (p + length t)
stands_on [] u s p h = rw (add-zero p) h
stands_on (b ∷ t) u s p h =
    let to : p + 1 + length (t ++ u) ≡ p + suc (length (t ++ u)) = omega arith in
    let more : Stands (t ++ u) s (p + 1) = record { here = (front b (t ++ u) s p h.here).others; over = rw to h.over } in
    let q : p + suc (length t) ≡ p + 1 + length t = omega arith in
    rw q (stands_on t u s (p + 1) more)

-- the beginning itself
begun_part : (t u s : List ℕ) → begun (t ++ u) s ≡ true → begun t s ≡ true
begun_part [] u s e = refl
begun_part (b ∷ t) u [] e = e
begun_part (b ∷ t) u (c ∷ s) e = cases (eqb b c)
    (λ y.
    let f : begun (t ++ u) s ≡ true = rw y at e in
    rw y (begun_part t u s f))
    (λ n. not_both false (rw n at e) refl)

-- no word goes on where it begins
no_word : (u s : List ℕ) (p : ℕ) → begins in_word u ≡ false → Stands u s p → begins in_word (drop p s) ≡ false
no_word [] s p n h = rw (add-zero p) at h.over
no_word (c ∷ u) s p n h =
    let f = front c u s p h.here in
    begins_at in_word s p f.place ∙ ap in_word f.byte ∙ n

-- ---- a mark that stands there

abbrev spelt : Due → List ℕ
spelt (sign t) = bytes t
spelt (seat i) = 115 ∷ digits i
spelt (process i) = bytes "process" ++ digits i

abbrev kind_by : Due → ℕ
kind_by (sign t) = kind t
kind_by (seat i) = k_seat
kind_by (process i) = k_process

abbrev number_by : Due → ℕ
number_by (sign t) = 0
number_by (seat i) = i
number_by (process i) = i

-- the step finds it before the text u
abbrev Finds : Due → List ℕ → Type 0
Finds d u = (s : List ℕ) (p : ℕ) → Stands (spelt d ++ u) s p → step_at s p ≡ valued_of (kind_by d) (number_by d) p (p + length (spelt d))

sign_found : (t : String) (b : ℕ) (u : List ℕ) → bytes t ≡ b ∷ [] → kind t ≡ b → is_alone b ≡ true → Finds (sign t) u
sign_found t b u e k y s p h =
    let there : Stands (b ∷ u) s p = rw e at h in
    let f = front b u s p there.here in
    rw (k, e) (sign_by s b p (p + 1) refl y (eq-eqb b b refl) f.place f.byte)

-- a word of these bytes, which make that mark
word_found : (d : Due) (b : ℕ) (t u : List ℕ) → spelt d ≡ b ∷ t → is_letter b ≡ true → every in_word (b ∷ t) ≡ true → begins in_word u ≡ false
    → ((p q : ℕ) → step_to (word_mark (b ∷ t)) p q ≡ valued_of (kind_by d) (number_by d) p q) → Finds d u
word_found d b t u e l w n made s p h =
    let there : Stands ((b ∷ t) ++ u) s p = rw e at h in
    let place : p < length s = (front b (t ++ u) s p there.here).place in
    let behind : begins in_word (drop (length (b ∷ t)) (drop p s)) ≡ false = ap (begins in_word) (drop-drop (length (b ∷ t)) p s) ∙ no_word u s (p + length (b ∷ t)) n (stands_on (b ∷ t) u s p there) in
    let word : run in_word (drop p s) ≡ b ∷ t =
    run_of in_word (b ∷ t) (drop p s) w (begun_part (b ∷ t) u (drop p s) there.here)
    ∙ ap (λ (v : List ℕ). (b ∷ t) ++ v) (run_empty in_word (drop (length (b ∷ t)) (drop p s)) behind) ∙ append-nil (b ∷ t) in
    rw e (whole s p b t l place word ∙ made p (p + length (b ∷ t)))

-- a word's number, of one digit or from 10 to 19
module _ (i : ℕ) (few : i < 20) where
  digit : (b : ℕ) → 48 ≤ b → b ≤ 57 → is_digit b ≡ true
  digit b l h = rw (le-leb 48 b l, le-leb b 57 h)

  number_spelt_law : number_spelt word_digits (digits i) ≡ some i
  number_spelt_law = cases (ltb i 10)
      (λ y.
      let small : i < 10 = ltb-true i 10 y in
      let d : is_digit (48 + i) ≡ true = digit (48 + i) (omega arith) (omega arith) in
      let v : 0 * 10 + (48 + i - 48) ≡ i = omega arith in
      rw (y, one_digit word_digits ((48 + i) ∷ []) (rw d) refl (omega arith)) (ap (λ (x : ℕ). some x) v))
      (λ n.
      let large : 10 ≤ i = ltb-false i 10 n in
      let d : is_digit (38 + i) ≡ true = digit (38 + i) (omega arith) (omega arith) in
      let v : (0 * 10 + (49 - 48)) * 10 + (38 + i - 48) ≡ i = omega arith in
      rw (n, d) (ap (λ (x : ℕ). some x) v))

  digits_in_word : every in_word (digits i) ≡ true
  digits_in_word = cases (ltb i 10)
      (λ y.
      let small : i < 10 = ltb-true i 10 y in
      rw (y, digit_in_word (48 + i) (digit (48 + i) (omega arith) (omega arith))))
      (λ n.
      let large : 10 ≤ i = ltb-false i 10 n in
      rw (n, digit_in_word (38 + i) (digit (38 + i) (omega arith) (omega arith))))

  seat_found : (u : List ℕ) → begins in_word u ≡ false → Finds (seat i) u
  seat_found u n = word_found (seat i) 115 (digits i) u refl refl digits_in_word n (λ p q. rw number_spelt_law)

  process_found : (u : List ℕ) → begins in_word u ≡ false → Finds (process i) u
  process_found u n = word_found (process i) 112 (bytes "rocess" ++ digits i) u refl refl digits_in_word n (λ p q. rw number_spelt_law)

-- a blank before it is passed
past_gap : (b : Bool) (t s : List ℕ) (p : ℕ) → Stands (gap b ++ t) s p → {x : Step} → step_at s (p + length (gap b)) ≡ x → step_at s p ≡ x
past_gap true t s p h f =
    let blank = front 32 t s p h.here in
    let there : begins (eqb 32) (drop p s) ≡ true = begins_at (eqb 32) s p blank.place ∙ ap (eqb 32) blank.byte in
    sym (past_step s p {r = p + 1} (rw there)) ∙ f
past_gap false t s p h f = rw (add-zero p) at f

-- ---- a run of them

-- a mark behind a blank or none, and the text of such marks
record Piece : Type 0 where
  blank : Bool
  mark : Due

abbrev text_of : List Piece → List ℕ
text_of [] = []
text_of (m ∷ ms) = gap m.blank ++ (spelt m.mark ++ text_of ms)

abbrev dues_of : List Piece → List Due
dues_of [] = []
dues_of (m ∷ ms) = m.mark ∷ dues_of ms

-- each is found before those behind it
infixr 5 ◌then◌
data Found : List Piece → Type 0 where
  none : Found []
  ◌then◌ : {m : Piece} {ms : List Piece} → Finds m.mark (text_of ms) → Found ms → Found (m ∷ ms)

module _ (s : List ℕ) (n : ℕ) (late : Late) {whole : After → Type 0} where
  -- a mark more of the run, whose number is due
  one_more : (p w due place next : ℕ) (dues : List (ℕ × ℕ)) → step_at s p ≡ valued_of w due place next
      → Left s n p late ((w, due) ∷ dues) whole → Left s n next late dues whole
  one_more p w due place next dues e l =
      let x = valued_of w due place next in
      let same : word_by due due place late ≡ late = sym (word_due due due place late refl) in
      rw same at (run_more s n p late x (next_at s p x (sym e)) whole w due dues l refl)

  first_of : (p : ℕ) (d : Due) (run : List Due) → Left s n p late (marks_due (d ∷ run)) whole → Left s n p late ((kind_by d, number_by d) ∷ marks_due run) whole
  first_of p (sign t) run l = l
  first_of p (seat i) run l = l
  first_of p (process i) run l = l

  passed : (ms : List Piece) (p : ℕ) → Found ms → Stands (text_of ms) s p
      → Left s n p late (marks_due (dues_of ms)) whole → Left s n (p + length (text_of ms)) late [] whole
  passed [] p none h l = rw (add-zero p) l
  passed (m ∷ ms) p (first then others) h l =
      let before = gap m.blank in
      let word = spelt m.mark in
      let rest = text_of ms in
      let at-word : Stands (word ++ rest) s (p + length before) = stands_on before (word ++ rest) s p h in
      let at_rest : Stands rest s (p + length before + length word) = stands_on word rest s (p + length before) at-word in
      let step = past_gap m.blank (word ++ rest) s p h (first s (p + length before) at-word) in
      let to : p + length (before ++ (word ++ rest)) ≡ p + length before + length word + length rest = omega (arith, length-append before (word ++ rest), length-append word rest) in
      let left = one_more p (kind_by m.mark) (number_by m.mark) (p + length before) (p + length before + length word) (marks_due (dues_of ms)) step (first_of p m.mark (dues_of ms) l) in
      rw to (passed ms (p + length before + length word) others at_rest left)

-- ---- the module

abbrev set : Bool → Due → Piece
set behind d = record { blank = behind; mark = d }

abbrev pieces : Bool → ℕ → List Piece
pieces written i =
    set true (process i) ∷ set written (sign "=") ∷ set written (process 1)
    ∷ set written (sign "[") ∷ set false (seat 1) ∷ set false (sign "=") ∷ set false (seat i)
    ∷ set false (sign ",") ∷ set written (seat i) ∷ set false (sign "=") ∷ set false (seat 1) ∷ set false (sign "]")
    ∷ set written (sign "endmodule") ∷ []

module _ (written : Bool) (i : ℕ) (few : i < 20) where
  -- the sign behind a word stands behind a blank or not
  apart : (b : Bool) (c : ℕ) (u : List ℕ) → in_word c ≡ false → begins in_word (gap b ++ (c ∷ u)) ≡ false
  apart true c u e = refl
  apart false c u e = e

  equal : (u : List ℕ) → Finds (sign "=") u
  equal u = sign_found "=" 61 u refl refl refl

  own : (u : List ℕ) → begins in_word u ≡ false → Finds (seat 1) u
  own = seat_found 1 (omega arith)

  found : Found (pieces written i)
  found =
      process_found i few _ (apart written 61 _ refl) then equal _ then process_found 1 (omega arith) _ (apart written 91 _ refl)
      then sign_found "[" 91 _ refl refl refl then own _ refl then equal _ then seat_found i few _ refl
      then sign_found "," 44 _ refl refl refl then seat_found i few _ refl then equal _ then own _ refl then sign_found "]" 93 _ refl refl refl
      then word_found (sign "endmodule") 101 (bytes "ndmodule") [] refl refl refl refl (λ p q. refl) then none

-- where a text stands, the card has room for it
pub past_fits : (t s : List ℕ) (at : ℕ) → word_ahead t s at ≡ true → at + length t ≤ length s
past_fits t s at e = bytes_fit t s at (and_left (bytes_ahead t s at) (not (begins in_word (drop (at + length t) s))) e)

module _ (s : List ℕ) (at i : ℕ) where
  abbrev written_so : List ℕ → Bool
  written_so ds = begins (eqb 32) (drop (at + (8 + length ds)) s)

  -- the text that the code looks for
  looked_for : (ds : List ℕ) → digits i ≡ ds → (b : Bool) → written_so ds ≡ b → past_word (copy_text b ds) s at ≡ past_copy s at i
  looked_for ds d b e = ap (λ (a : Bool). past_word (copy_text a ds) s at) (sym e) ∙ ap (past_text s at) (sym d)

  pub one_digit_copy : i < 10 → (b : Bool) → begins (eqb 32) (drop (at + 9) s) ≡ b → past_word (copy_text b ((48 + i) ∷ [])) s at ≡ past_copy s at i
  one_digit_copy h = looked_for ((48 + i) ∷ []) (rw (lt-ltb i 10 h))

  pub two_digit_copy : 10 ≤ i → (b : Bool) → begins (eqb 32) (drop (at + 10) s) ≡ b → past_word (copy_text b (49 ∷ (38 + i) ∷ [])) s at ≡ past_copy s at i
  two_digit_copy h = looked_for (49 ∷ (38 + i) ∷ []) (rw (le-ltb i 10 h))

  abbrev text : List ℕ
  text = copy_text (written_so (digits i)) (digits i)

  long : (b : Bool) → 40 ≤ length (copy_text b (digits i))
  long true = cases (ltb i 10) (λ y. rw y (omega arith)) (λ n. rw n (omega arith))
  long false = cases (ltb i 10) (λ y. rw y (omega arith)) (λ n. rw n (omega arith))

  -- no text of it is shorter
  pub too_short : length s < at + 40 → None ≡ past_copy s at i
  too_short h = cases (word_ahead text s at)
      (λ y. absurd (omega (arith, h, past_fits text s at y, long (written_so (digits i)))))
      (λ n. rw n)

  pub copy_passed : i ≤ most_seats → (next : ℕ) → Some next ≡ past_copy s at i → (state : Carried) → ModuleFrom s at i (late_in state) (after state (Ok next))
  copy_passed few next is state = record {
    answers = λ run h dues n.
        let late = late_in state in
        let start : Left s n at late (marks_due (module_due i)) (LineRead s late (dues_in run) (line (items_in run) (from s at n))) = record { rest = run; sure = h; left = dues; answered = λ r y. y } in
        let end = passed s n late (pieces (written_so (digits i)) i) at (found (written_so (digits i)) i (omega arith)) stands start in
        rw to (run_end s n (at + length text) late _ end state refl);
  }
    where
      stood : word_ahead text s at ≡ true
      stood = cases (word_ahead text s at) (λ y. y) (λ n. let none : ◌≡◌ {A = Option ℕ} (Some next) None = is ∙ rw n in cc)

      to : next ≡ at + length text
      to = let same : ◌≡◌ {A = Option ℕ} (Some next) (Some (at + length text)) = is ∙ rw stood in cc

      stands : Stands text s at
      stands = record {
        here = bytes_stand text s at (and_left (bytes_ahead text s at) (not (begins in_word (drop (at + length text) s))) stood);
        over = not-true (begins in_word (drop (at + length text) s)) (and_right (bytes_ahead text s at) (not (begins in_word (drop (at + length text) s))) stood);
      }
