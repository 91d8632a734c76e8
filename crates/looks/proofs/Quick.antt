-- Where a quick look finds a mark, the step finds the same: the look says which bytes stand there, and what starts with them is known
-- (proofs/Words.antt, proofs/Starts.antt of marks).
use Prim.Native.Nat.{ℕ, ◌+◌, ◌-◌, ◌≤◌, ◌<◌}
use mathlib.Core.Path.{◌≡◌, refl, sym, ap, ◌∙◌}
use mathlib.Core.Bool.{Bool, true, false, not, ◌&&◌, ◌||◌}
use mathlib.Core.List.{List, [], ◌∷◌, ◌++◌}
use native.Mathlib.Decide.{dec_lt}
use native.Mathlib.Nat.{add-zero, zero-add}
use native.Mathlib.Omega.{arith}
use borrow.Author.Tests.{eqb-true, ne_eqb, not-true}
use lib.Dec.{eqb}
use lib.ListN.{length, get_or, drop, drop_of_length-le}
use lib.Seq.{drop-drop}
use Rattle.card.specs.Limits.{word_digits}
use Rattle.card.specs.Text.{bytes, when◌then◌else◌}
use Rattle.marks_on_a_card.specs.Bytes.{is_digit, is_letter, is_blank, is_sign, in_word, begins, run, every, begun, is_alone, in_number}
use Rattle.marks_on_a_card.specs.Digits.{plain}
use Rattle.marks_on_a_card.specs.Marks.{start_at, word_mark, gap_of}
use Rattle.marks_on_a_card.specs.Kinds.{k_number, k_seat, k_process}
use Rattle.marks.specs.Step.{step_to, stepped, step_from, step_at}
use Rattle.marks.specs.Parts.{bare_of, valued_of}
use Rattle.std.specs.Prelude.{Option, Some, None}
use Rattle.marks_on_a_card.specs.Quick.{sign_ahead, digit_ahead, last_digit, seat_ahead, past_blank, past_line, bytes_ahead, process_ahead, teen_ahead}
use Rattle.marks.specs.declared.Step.{Step}
use Rattle.marks_on_a_card.proofs.Lists.{cases, not_both, and_left, and_right, drop_at}
use Rattle.marks_on_a_card.proofs.Runs.{begins_at, begins_place, eqb_sym, run_on, run_empty}
use Rattle.marks_on_a_card.proofs.Numbers.{one_digit}
use Rattle.marks.proofs.Starts.{alone_step, step_gap, numeral_single, step_at_law}
use Rattle.marks_on_a_card.proofs.StartLaws.{among, sign_kind, gap_blank, gap_none, digit_starts, digit_in_word}
use Rattle.word_and_digit_looks.proofs.Looks.{bytes_stand, one_digit_at, digit_there, digit_ends, digit_is, digit_small}
use Rattle.looks.proofs.Words.{run_of, whole}

-- ---- what a look answers, test by test

pub sign_none : (k : ℕ) (s : List ℕ) (i : ℕ) → length s ≤ i → sign_ahead k (drop i s) ≡ false
sign_none k s i h = rw (drop_of_length-le s h)

pub sign_at : (k : ℕ) (s : List ℕ) (i : ℕ) → i < length s → sign_ahead k (drop i s) ≡ (eqb (get_or s i 0) k && is_alone (get_or s i 0))
sign_at k s i h = rw (drop_at s i h)

module _ (s : List ℕ) (i : ℕ) where
  pub seat_none : begins (eqb 115) (drop i s) ≡ false → seat_ahead (drop i s) ≡ None
  seat_none e = rw e

  pub seat_begun : begins (eqb 115) (drop i s) ≡ true → seat_ahead (drop i s) ≡ last_digit (drop (i + 1) s)
  seat_begun e = rw (e, drop-drop 1 i s)

  pub seat_at : i < length s → seat_ahead (drop i s) ≡ (when eqb (get_or s i 0) 115 && begins is_digit (drop (i + 1) s) && not (begins in_word (drop (i + 1 + 1) s)) then Some (get_or s (i + 1) 0 - 48) else None)
  seat_at h = cases (begins (eqb 115) (drop i s))
      (λ e.
      let q : eqb (get_or s i 0) 115 ≡ true = eqb_sym (get_or s i 0) 115 ∙ sym (begins_at (eqb 115) s i h) ∙ e in
      seat_begun e ∙ one_digit_at in_word s (i + 1) ∙ rw q)
      (λ e.
      let q : eqb (get_or s i 0) 115 ≡ false = eqb_sym (get_or s i 0) 115 ∙ sym (begins_at (eqb 115) s i h) ∙ e in
      seat_none e ∙ rw q)

-- ---- the steps

-- a sign that begins no other mark starts no blank and no comment
alone_gap : (b : ℕ) (t : List ℕ) → is_alone b ≡ true → gap_of (start_at b t) ≡ 0
alone_gap b t e =
    let y : is_sign b ≡ true = and_left (is_sign b) (not (eqb b 33 || eqb b 47)) e in
    gap_none b t
    (not-true (is_blank b) (among (λ a. not (is_blank a)) (bytes "[]:;=!&|()+',/") b refl y))
    (rw (ne_eqb b 47 (λ q. not_both (is_alone b) e (rw q))))

module _ (s : List ℕ) (i : ℕ) where
  abbrev on : ℕ → Step
  on = λ more. step_from (length s) more (drop (i + 1) s)

  -- what the end does not pass stands before it
  before_end : (p : List ℕ → Bool) → p [] ≡ false → p (drop i s) ≡ true → i < length s
  before_end p n e = go (dec_lt i (length s))
    where
      go : Dec (i < length s) → i < length s
      go (yes h) = h
      go (no h) = let l : length s ≤ i = omega arith in not_both (p (drop i s)) e (ap p (drop_of_length-le s l) ∙ n)

  module _ (k : ℕ) (e : sign_ahead k (drop i s) ≡ true) where
    pub sign_place : i < length s
    sign_place = before_end (sign_ahead k) refl e

    pub sign_step : step_at s i ≡ bare_of k i (i + 1)
    sign_step =
        let b = get_or s i 0 in
        let both : (eqb b k && is_alone b) ≡ true = sym (sign_at k s i sign_place) ∙ e in
        let y : is_alone b ≡ true = and_right (eqb b k) (is_alone b) both in
        let z : is_sign b ≡ true = and_left (is_sign b) (not (eqb b 33 || eqb b 47)) y in
        step_at_law s i sign_place ∙ alone_step b (drop (i + 1) s) i on y (alone_gap b (drop (i + 1) s) y)
        ∙ ap (λ (v : ℕ). bare_of v i (i + 1)) (sign_kind b z ∙ eqb-true b k (and_left (eqb b k) (is_alone b) both))

  -- the byte that stands there
  stood : (b : ℕ) → begins (eqb b) (drop i s) ≡ true → get_or s i 0 ≡ b
  stood b e = sym (eqb-true b (get_or s i 0) (sym (begins_at (eqb b) s i (begins_place (eqb b) s i e)) ∙ e))

  -- behind a blank the step finds the same
  blank_step : (b : ℕ) → is_blank b ≡ true → begins (eqb b) (drop i s) ≡ true → step_at s (i + 1) ≡ step_at s i
  blank_step b y e =
      let g : gap_of (start_at (get_or s i 0) (drop (i + 1) s)) ≡ 1 = gap_blank (get_or s i 0) (drop (i + 1) s) (rw (stood b e, y)) in
      sym (step_gap s i (begins_place (eqb b) s i e) (λ z. omega (arith, g, z)) ∙ ap (λ (n : ℕ). step_at s (i + n)) g)

  pub past_step : {r : ℕ} → r ≡ past_blank s i → step_at s r ≡ step_at s i
  past_step {r} is =
      cases (begins (eqb 32) (drop i s))
      (λ e.
      let a : r ≡ i + 1 = is ∙ rw e in
      ap (step_at s) a ∙ blank_step 32 refl e)
      (λ e.
      let a : r ≡ i = is ∙ rw e in
      ap (step_at s) a)

  pub past_line_step : {r : ℕ} → r ≡ past_line s i → step_at s r ≡ step_at s i
  past_line_step {r} is =
      cases (begins (eqb 10) (drop i s))
      (λ e.
      let a : r ≡ i + 1 = is ∙ rw e in
      ap (step_at s) a ∙ blank_step 10 refl e)
      (λ e.
      let a : r ≡ past_blank s i = is ∙ rw e in
      past_step a)

  pub not_step : begins (eqb 33) (drop i s) ≡ true → begins (eqb 61) (drop (i + 1) s) ≡ false → step_at s i ≡ bare_of 33 i (i + 1)
  not_step e n = step_at_law s i (begins_place (eqb 33) s i e) ∙ rw (stood 33 e, n, add-zero)

  pub unequal_step : begins (eqb 33) (drop i s) ≡ true → begins (eqb 61) (drop (i + 1) s) ≡ true → step_at s i ≡ bare_of 7 i (i + 1 + 1)
  unequal_step e n = step_at_law s i (begins_place (eqb 33) s i e) ∙ rw (stood 33 e, n)

  pub slash_step : begins (eqb 47) (drop i s) ≡ true → begins (eqb 47) (drop (i + 1) s) ≡ false → step_at s i ≡ bare_of 47 i (i + 1)
  slash_step e n = step_at_law s i (begins_place (eqb 47) s i e) ∙ rw (stood 47 e, n, add-zero)

  pub arrow_step : begins (eqb 45) (drop i s) ≡ true → begins (eqb 62) (drop (i + 1) s) ≡ true → step_at s i ≡ bare_of 45 i (i + 1 + 1)
  arrow_step e n = step_at_law s i (begins_place (eqb 45) s i e) ∙ rw (stood 45 e, n)

  module _ (v : ℕ) (is : Some v ≡ digit_ahead (drop i s)) where
    pub digit_place : i < length s
    digit_place = begins_place is_digit s i (digit_there in_number s i v is)

    pub digit_step : step_at s i ≡ valued_of k_number v i (i + 1)
    digit_step =
        let b = get_or s i 0 in
        let t = drop (i + 1) s in
        let d : is_digit b ≡ true = sym (begins_at is_digit s i digit_place) ∙ digit_there in_number s i v is in
        step_at_law s i digit_place ∙ ap (λ x. stepped i x on) (digit_starts b t d) ∙ numeral_single b t i on d (digit_ends in_number s i v is)
        ∙ ap (λ (u : ℕ). valued_of k_number u i (i + 1)) (sym (digit_is in_number s i v is))

  -- a word t, which begins with the letter b, and one digit
  module _ (b : ℕ) (t : List ℕ) (l : is_letter b ≡ true) (w : every in_word (b ∷ t) ≡ true) (e : begun (b ∷ t) (drop i s) ≡ true) (v : ℕ) (is : Some v ≡ last_digit (drop (i + length (b ∷ t)) s)) where
    abbrev last : ℕ
    last = i + length (b ∷ t)

    pub last_place : last < length s
    last_place = begins_place is_digit s last (digit_there in_word s last v is)

    pub last_digit_law : is_digit (get_or s last 0) ≡ true
    last_digit_law = sym (begins_at is_digit s last last_place) ∙ digit_there in_word s last v is

    pub last_step : step_at s i ≡ step_to (word_mark (b ∷ t ++ (get_or s last 0 ∷ []))) i (i + length (b ∷ t ++ (get_or s last 0 ∷ [])))
    last_step =
        let d = get_or s last 0 in
        let end : run in_word (drop (length (b ∷ t)) (drop i s)) ≡ d ∷ [] =
        ap (run in_word) (drop-drop (length (b ∷ t)) i s) ∙ run_on in_word s last last_place (digit_in_word d last_digit_law)
        ∙ ap (λ (u : List ℕ). d ∷ u) (run_empty in_word (drop (last + 1) s) (digit_ends in_word s last v is)) in
        whole s i b (t ++ (d ∷ [])) l (omega (arith, last_place)) (run_of in_word (b ∷ t) (drop i s) w e ∙ ap (λ (u : List ℕ). b ∷ t ++ u) end)

  module _ (v : ℕ) (is : Some v ≡ seat_ahead (drop i s)) where
    seat_s : begins (eqb 115) (drop i s) ≡ true
    seat_s = cases (begins (eqb 115) (drop i s)) (λ y. y) (λ n. let none : ◌≡◌ {A = Option ℕ} (Some v) None = is ∙ seat_none s i n in cc)

    seat_begins : begun (bytes "s") (drop i s) ≡ true
    seat_begins = one (drop i s) seat_s
      where
        one : (u : List ℕ) → begins (eqb 115) u ≡ true → begun (115 ∷ []) u ≡ true
        one [] e = e
        one (b ∷ u) e = rw e

    seat_last : Some v ≡ last_digit (drop (i + 1) s)
    seat_last = is ∙ seat_begun s i seat_s

    pub seat_room : i + 1 < length s
    seat_room = last_place 115 [] refl refl seat_begins v seat_last

    pub seat_step : step_at s i ≡ valued_of k_seat v i (i + 2)
    seat_step =
        let d = get_or s (i + 1) 0 in
        let y : plain word_digits (d ∷ []) ≡ true = one_digit word_digits (d ∷ []) (rw (last_digit_law 115 [] refl refl seat_begins v seat_last)) refl (omega arith) in
        last_step 115 [] refl refl seat_begins v seat_last ∙ rw (y, zero-add, ← digit_is in_word s (i + 1) v seat_last)

  module _ (v : ℕ) (is : Some v ≡ process_ahead s i) where
    process_so : bytes_ahead (bytes "process") s i ≡ true
    process_so = cases (bytes_ahead (bytes "process") s i) (λ y. y) (λ n. let none : ◌≡◌ {A = Option ℕ} (Some v) None = is ∙ rw n in cc)

    process_begins : begun (bytes "process") (drop i s) ≡ true
    process_begins = bytes_stand (bytes "process") s i process_so

    process_last : Some v ≡ last_digit (drop (i + 7) s)
    process_last = is ∙ rw process_so

    pub process_room : i + 7 < length s
    process_room = last_place 112 (bytes "rocess") refl refl process_begins v process_last

    pub process_step : step_at s i ≡ valued_of k_process v i (i + 8)
    process_step =
        let d = get_or s (i + 7) 0 in
        let y : plain word_digits (d ∷ []) ≡ true = one_digit word_digits (d ∷ []) (rw (last_digit_law 112 (bytes "rocess") refl refl process_begins v process_last)) refl (omega arith) in
        last_step 112 (bytes "rocess") refl refl process_begins v process_last ∙ rw (y, zero-add, ← digit_is in_word s (i + 7) v process_last)

  module _ (v : ℕ) (is : Some v ≡ teen_ahead s i) where
    teen_so : bytes_ahead (bytes "s1") s i ≡ true
    teen_so = cases (bytes_ahead (bytes "s1") s i) (λ y. y) (λ n. let none : ◌≡◌ {A = Option ℕ} (Some v) None = is ∙ rw n in cc)

    teen_begins : begun (bytes "s1") (drop i s) ≡ true
    teen_begins = bytes_stand (bytes "s1") s i teen_so

    teen_last : Some v ≡ last_digit (drop (i + 2) s)
    teen_last = is ∙ rw teen_so

    pub teen_small : v < 10
    teen_small = digit_small in_word s (i + 2) v teen_last

    pub teen_room : i + 2 < length s
    teen_room = last_place 115 (bytes "1") refl refl teen_begins v teen_last

    pub teen_step : step_at s i ≡ valued_of k_seat (10 + v) i (i + 3)
    teen_step =
        let d = get_or s (i + 2) 0 in
        let y : is_digit d ≡ true = last_digit_law 115 (bytes "1") refl refl teen_begins v teen_last in
        last_step 115 (bytes "1") refl refl teen_begins v teen_last ∙ rw (y, ← digit_is in_word s (i + 2) v teen_last)

-- what a look for a sign says of the step, for the goals of a crate
pub ruleset sign_looks = (sign_place, sign_step, past_step, past_line_step)

-- and a look for a word or a number
pub ruleset word_looks = (digit_place, digit_step, seat_room, seat_step, teen_room, process_room, past_step, past_line_step)
