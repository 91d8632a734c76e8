-- A number, a sign, and a run of fixed marks: what the cursor's step shows decides whether reading goes on. A run goes mark by mark; what
-- is left of it (`rest`) is a run too, and an answer to it answers the whole (`Left`). Assumes nothing.
use Prim.Native.Nat.{ℕ, suc, ◌+◌, ◌≤◌, ◌<◌}
use Prim.Native.String.{String}
use mathlib.Core.Path.{◌≡◌, refl, sym, ap, ◌∙◌}
use mathlib.Core.Bool.{true}
use mathlib.Core.List.{List, [], ◌∷◌}
use mathlib.Core.Option.{Option}
use native.Mathlib.Numerals.{add-one}
use native.Mathlib.Omega.{arith}
use borrow.Author.Tests.{eq-eqb, ne_eqb}
use lib.ListN.{length, get_or, drop, drop_of_length-le}
use Rattle.std.specs.Prelude.{Ok, Err}
use lib.Seq.{drop-cons}
use Rattle.card.specs.Limits.{numbers}
use Rattle.card.specs.Refusals.{out_of_shape}
use Rattle.marks_on_a_card.specs.Marks.{Mark, text, seat as seat_mark, process as process_mark, number, decimal, outside}
use Rattle.marks_on_a_card.specs.Kinds.{k_number, k_seat, k_process, kind, value_of}
use Rattle.marks.specs.declared.Step.{Step}
use Rattle.reading.specs.Reader.{State, Result, ok, stop, Reader, bind, the, is, given, sign as read_sign, seat_of, process_of, number_of, Numbered, numbered, keep, line}
use Rattle.reading.specs.Checks.{judged_words}
use Rattle.late.specs.Late.{Late, judge_all}
use Rattle.late.specs.declared.state.State.{State as Carried}
use Rattle.late.specs.Settled.{refusal}
use Rattle.late.specs.State.{late_in, with_late, After, after, Halted}
use Rattle.parts.specs.Parts.{from, Answers, state_by, word_by, SignFrom, NumberFrom, RunFrom, Told, Due, sign, seat, process, items_in, dues_in, marks_due, Sure, LineRead}
use Rattle.parts.proofs.Steps.{Next, end, one, place_seen, Shown, seen, value_by, sign_by, sign_shown, seat_shown, process_shown, number_shown}
use Rattle.parts.proofs.Answers.{stopped, made, fits, misses}

-- ---- how readers go together

module _ {A B C : Type 0} where
  pub assoc : (x : Result A) (f : A → Reader B) (g : B → Reader C) → bind (bind x f) g ≡ bind x (λ a s. bind (f a s) g)
  assoc (ok a s) f g = refl
  assoc (stop n p) f g = refl

-- ---- a number

module _ {s : List ℕ} {k i : ℕ} {x : Step} (v : Next s i x) where
  pub number_stops : {before : Late} (state : Carried) → (x.mark.kind ≡ k_number → ⊥) → NumberFrom s i k before (after state (Err (refusal out_of_shape x.mark.place)))
  number_stops state e = record { answers = λ n. misses s _ number_of (value_by k_number) number_shown i x v n (rw (ne_eqb _ _ e)) _ _ (stopped state); small = tt }

  -- what is judged late is kept, then the value is written
  pub number_read : (was : Carried) {is : Carried} → x.mark.kind ≡ k_number → x.mark.value < numbers → is ≡ with_late was (state_by k x.mark.value x.mark.place (late_in was))
      → NumberFrom s i k (late_in was) (after (record is { value = x.mark.value }) (Ok x.next.at))
  unfolding judge_all
  number_read was e few h = record {
    answers = λ n. fits s _ number_of (value_by k_number) number_shown i x v n x.mark.value (rw (eq-eqb _ _ e)) _ _
        (record {
          rest = refl;
          told = record { value = refl; late = ap late_in h ∙ ap (λ (p : ℕ). state_by k x.mark.value p (late_in was)) (place_seen s i x v) };
        });
    small = few;
  }

-- ---- a word's number

pub word_due : (due v p : ℕ) (late : Late) → v ≡ due → late ≡ word_by due v p late
word_due due v p late e = rw (eq-eqb _ _ e)

-- ---- a sign

sign_value : (t : String) (m : Mark) → is t m ≡ true → value_of m ≡ 0
sign_value t (text s) e = refl
sign_value t (seat_mark i) e = cc
sign_value t (process_mark i) e = cc
sign_value t (number v) e = cc
sign_value t (decimal v n f) e = cc
sign_value t outside e = refl

module _ (t : String) (h : Told t) (s : List ℕ) (i : ℕ) where
  no_value : (x : Step) → Next s i x → x.mark.kind ≡ kind t → x.mark.value ≡ 0
  no_value _ (end e) z = refl
  no_value _ (one m p next l e) z = sign_value t m (h.mark m ∙ eq-eqb _ _ z)

  pub sign_took : (x : Step) → Next s i x → x.mark.kind ≡ kind t → (n : ℕ) → read_sign t (from s i n) ≡ ok tt (from s x.next.at n)
  sign_took x v e n = seen (λ m. given (is t m)) (sign_by t) (sign_shown t h) s i x v n ∙ rw (eq-eqb x.mark.kind (kind t) e)

  module _ {B : Type 0} (to : B → Carried → Type 0) (x : Step) (v : Next s i x) (n : ℕ) (f : Unit {0} → Reader B) (r : After) where
    pub sign_fits : x.mark.kind ≡ kind t → Answers s to (f tt (from s x.next.at n)) r → Answers s to (bind (read_sign t (from s i n)) f) r
    sign_fits e y = fits s to (λ m. given (is t m)) (sign_by t) (sign_shown t h) i x v n tt (ap given (eq-eqb _ _ e)) f r y

    pub sign_misses : (x.mark.kind ≡ kind t → ⊥) → Halted out_of_shape x.mark.place r → Answers s to (bind (read_sign t (from s i n)) f) r
    sign_misses e y = misses s to (λ m. given (is t m)) (sign_by t) (sign_shown t h) i x v n (ap given (ne_eqb _ _ e)) f r y

-- whichever sign the kind tells
module _ {s : List ℕ} {i j : ℕ} {x : Step} (v : Next s i x) where
  pub sign_read : x.mark.kind ≡ j → SignFrom s i j (Ok x.next.at)
  sign_read e = record { answers = λ t h f n was. rw (sign_took t h s i x v (e ∙ f) n) (record { rest = refl; told = refl }) }

  pub sign_stops : (x.mark.kind ≡ j → ⊥) → SignFrom s i j (Err (refusal out_of_shape x.mark.place))
  sign_stops e = record {
    answers = λ t h f n was. rw (seen (λ m. given (is t m)) (sign_by t) (sign_shown t h) s i x v n, ne_eqb x.mark.kind (kind t) (λ z. e (z ∙ sym f)), ← place_seen s i x v) (stopped was);
  }

-- ---- a run

nothing : {B : Type 0} {a : ℕ × ℕ} {l : List (ℕ × ℕ)} → [] ≡ a ∷ l → B
nothing e = let z : ◌≡◌ {A = ℕ} 0 1 = cc in absurd (omega arith)

-- the first mark and the others
pub record Same (w v due is : ℕ) (dues rest : List (ℕ × ℕ)) : Type 0 where
  pub kind : w ≡ v
  pub number : due ≡ is
  pub others : dues ≡ rest

same : {w v due is : ℕ} {dues rest : List (ℕ × ℕ)} → (w, due) ∷ dues ≡ (v, is) ∷ rest → Same w v due is dues rest
same {w} {v} {due} {is} e =
    let f : ◌≡◌ {A = ℕ × ℕ} (w, due) (v, is) = cc in
    record { kind = ap (λ (p : ℕ × ℕ). p.0) f; number = ap (λ (p : ℕ × ℕ). p.1) f; others = cc }

-- what is left of a run, which in numbers is this: an answer to it, from a cursor on, answers the whole
pub record Left (s : List ℕ) (n next : ℕ) (late : Late) (dues : List (ℕ × ℕ)) (whole : After → Type 0) : Type 0 where
  pub rest : List Due
  pub sure : Sure rest
  pub left : dues ≡ marks_due rest
  pub answered : (r : After) → LineRead s late (dues_in rest) (line (items_in rest) (from s next n)) r → whole r

module _ (s : List ℕ) (n i : ℕ) (late : Late) where
  -- nothing is left
  pub run_end : (whole : After → Type 0) → Left s n i late [] whole → (state : Carried) → late_in state ≡ late → whole (after state (Ok i))
  unfolding judge_all
  run_end whole l state kept = go l.rest l.left l.answered
    where
      go : (run : List Due) → [] ≡ marks_due run → ((r : After) → LineRead s late (dues_in run) (line (items_in run) (from s i n)) r → whole r) → whole (after state (Ok i))
      go [] e f = f _ (record { rest = refl; told = kept })
      go (sign t ∷ run) e f = nothing e
      go (seat j ∷ run) e f = nothing e
      go (process j ∷ run) e f = nothing e

  module _ (x : Step) (v : Next s i x) where
    -- a word: its number is judged
    worded : (f : Mark → Option ℕ) (w : ℕ) → Shown f (value_by w) → x.mark.kind ≡ w → (due : ℕ) (run : List Due) (r : After)
        → LineRead s (word_by due x.mark.value x.mark.place late) (dues_in run) (line (items_in run) (from s x.next.at n)) r
        → LineRead s late (due ∷ dues_in run) (bind (numbered f (from s i n)) (λ w. keep w (line (items_in run)))) r
    unfolding judge_all
    worded f w h e due run r y =
        rw (assoc (the f (from s i n)) _ (λ w. keep w (line (items_in run))))
        (fits s _ f (value_by w) h i x v n x.mark.value (rw (eq-eqb _ _ e)) _ r
        (made s _ _ (line (items_in run) (from s x.next.at n)) _ r y
        (λ ws g. g ∙ ap (λ (p : ℕ). judge_all (length s) (judged_words (dues_in run) ws) (word_by due x.mark.value p late)) (place_seen s i x v))))

    -- one mark of it
    pub run_more : (whole : After → Type 0) (w due : ℕ) (dues : List (ℕ × ℕ)) → Left s n i late ((w, due) ∷ dues) whole → x.mark.kind ≡ w
        → Left s n x.next.at (word_by due x.mark.value x.mark.place late) dues whole
    run_more whole w due dues l e = go l.rest l.sure l.left l.answered
      where
        go : (run : List Due) → Sure run → (w, due) ∷ dues ≡ marks_due run
            → ((r : After) → LineRead s late (dues_in run) (line (items_in run) (from s i n)) r → whole r)
            → Left s n x.next.at (word_by due x.mark.value x.mark.place late) dues whole
        go [] h a f = nothing (sym a)
        go (sign t ∷ run) h a f =
            let b = same a in
            let z : x.mark.kind ≡ kind t = e ∙ b.kind in
            let y : word_by due x.mark.value x.mark.place late ≡ late = rw (no_value t h.0 s i x v z, b.number) in
            record { rest = run; sure = h.1; left = b.others; answered = λ r g. f r (sign_fits t h.0 s i _ x v n _ r z (rw y at g)) }
        go (seat j ∷ run) h a f =
            let b = same a in
            let d = b.number in
            record { rest = run; sure = h; left = b.others; answered = λ r g. f r (worded seat_of k_seat seat_shown (e ∙ b.kind) j run r (rw d at g)) }
        go (process j ∷ run) h a f =
            let b = same a in
            let d = b.number in
            record { rest = run; sure = h; left = b.others; answered = λ r g. f r (worded process_of k_process process_shown (e ∙ b.kind) j run r (rw d at g)) }

    -- a mark that does not fit
    pub run_stops : (whole : After → Type 0) (w due : ℕ) (dues : List (ℕ × ℕ)) → Left s n i late ((w, due) ∷ dues) whole → (x.mark.kind ≡ w → ⊥)
        → (state : Carried) → whole (after state (Err (refusal out_of_shape x.mark.place)))
    run_stops whole w due dues l e state = go l.rest l.sure l.left l.answered
      where
        out : After
        out = after state (Err (refusal out_of_shape x.mark.place))

        missed : (f : Mark → Option ℕ) (d : ℕ) → Shown f (value_by d) → w ≡ d → (due : ℕ) (run : List Due)
            → LineRead s late (due ∷ dues_in run) (bind (numbered f (from s i n)) (λ w. keep w (line (items_in run)))) out
        missed f d h z due run =
            rw (assoc (the f (from s i n)) _ (λ w. keep w (line (items_in run))))
            (misses s _ f (value_by d) h i x v n (rw (ne_eqb x.mark.kind d (λ y. e (y ∙ sym z)))) _ out (stopped state))

        go : (run : List Due) → Sure run → (w, due) ∷ dues ≡ marks_due run
            → ((r : After) → LineRead s late (dues_in run) (line (items_in run) (from s i n)) r → whole r) → whole out
        go [] h a f = nothing (sym a)
        go (sign t ∷ run) h a f = f _ (sign_misses t h.0 s i _ x v n _ out (λ y. e (y ∙ sym (same a).kind)) (stopped state))
        go (seat j ∷ run) h a f = f _ (missed seat_of k_seat seat_shown (same a).kind j run)
        go (process j ∷ run) h a f = f _ (missed process_of k_process process_shown (same a).kind j run)

-- ---- the same at an index of the table

pub record Going (s : List ℕ) (i : ℕ) (dues : List (ℕ × ℕ)) (before : Late) (j next : ℕ) (state : Carried) : Type 0 where
  pub left : (run : List Due) → Sure run → dues ≡ marks_due run → (n : ℕ)
      → Left s n next (late_in state) (drop j dues) (LineRead s before (dues_in run) (line (items_in run) (from s i n)))

pub going_start : {s : List ℕ} {i : ℕ} {dues : List (ℕ × ℕ)} (state : Carried) → Going s i dues (late_in state) 0 i state
going_start state = record { left = λ run h e n. record { rest = run; sure = h; left = e; answered = λ r y. y } }

module _ {s : List ℕ} {i : ℕ} {dues : List (ℕ × ℕ)} {before : Late} {j next : ℕ} {state : Carried} (g : Going s i dues before j next state) where
  pub going_end : length dues ≤ j → RunFrom s i dues before (after state (Ok next))
  going_end h = record { answers = λ run y e n. run_end s n next (late_in state) _ (rw (drop_of_length-le dues h) at (g.left run y e n)) state refl }

  module _ (h : j < length dues) {x : Step} (v : Next s next x) where
    abbrev here : ℕ × ℕ
    here = get_or dues j (0, 0)

    pub going_stops : (out : Carried) → (x.mark.kind ≡ here.0 → ⊥) → RunFrom s i dues before (after out (Err (refusal out_of_shape x.mark.place)))
    going_stops out d = record {
      answers = λ run z e n. run_stops s n next (late_in state) x v _ here.0 here.1 (drop (suc j) dues) (rw (drop-cons dues j (0, 0) h) at (g.left run z e n)) d out;
    }

    pub going_more : {now : Carried} → x.mark.kind ≡ here.0 → now ≡ with_late state (word_by here.1 x.mark.value x.mark.place (late_in state)) → Going s i dues before (j + 1) x.next.at now
    going_more {now} d e = record {
      left = λ run z a n.
          let o = rw (drop-cons dues j (0, 0) h) at (g.left run z a n) in
          rw (add-one j, ap late_in e) (run_more s n next (late_in state) x v _ here.0 here.1 (drop (suc j) dues) o d);
    }

-- ---- a run of signs alone has no words, and nothing in it is judged

abbrev pub Signs : List Due → Type 0
Signs [] = Unit {0}
Signs (sign t ∷ run) = Signs run
Signs (seat i ∷ run) = ⊥
Signs (process i ∷ run) = ⊥

abbrev Wordless : Result (List Numbered) → Type 0
Wordless (ok ws b) = ws ≡ []
Wordless (stop n p) = Unit {0}

wordless : (run : List Due) → Signs run → (st : State) → Wordless (line (items_in run) st)
wordless [] h st = refl
wordless (sign t ∷ run) h st = go (read_sign t st) (wordless run h)
  where
    go : (x : Result (Unit {0})) → ((s : State) → Wordless (line (items_in run) s)) → Wordless (bind x (λ u. line (items_in run)))
    go (ok u s) f = f s
    go (stop n p) f = tt
wordless (seat i ∷ run) h st = absurd h
wordless (process i ∷ run) h st = absurd h

pub signs_read : (s : List ℕ) (before : Late) (run : List Due) → Signs run → (st : State) (r : After) → LineRead s before [] (line (items_in run) st) r
    → Answers s (λ ws state. late_in state ≡ before) (line (items_in run) st) r
unfolding judge_all
signs_read s before run h st r = go (line (items_in run) st) (wordless run h st)
  where
    kept : (ws : List Numbered) → ws ≡ [] → judge_all (length s) (judged_words [] ws) before ≡ before
    kept ws e = rw e

    go : (x : Result (List Numbered)) → Wordless x → LineRead s before [] x r → Answers s (λ ws state. late_in state ≡ before) x r
    go (ok ws b) e y = record { rest = y.rest; told = y.told ∙ kept ws e }
    go (stop n p) e y = y
