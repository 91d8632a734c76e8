-- The further modules and the end of the card. What is left after each module is read by the same reader with one module less; the
-- numbers due in a module's words rise with the modules. Assumes nothing.
use Prim.Native.Nat.{ℕ, suc, ◌+◌, ◌-◌, ◌≤◌, ◌<◌}
use mathlib.Core.Path.{◌≡◌, refl, sym, ap, ◌∙◌}
use mathlib.Core.Bool.{Bool, true, false}
use mathlib.Core.List.{List, ◌∷◌}
use native.Mathlib.Numerals.{add-one}
use native.Mathlib.Omega.{arith}
use borrow.Author.Tests.{eqb-true, eqb-false}
use lib.Dec.{eqb}
use lib.ListN.{length}
use Rattle.card.specs.Limits.{most_seats}
use Rattle.card.specs.Refusals.{out_of_shape, past_limit}
use Rattle.marks_on_a_card.specs.Kinds.{k_end, kind}
use Rattle.marks.specs.Step.{marks_at}
use Rattle.marks_on_a_card.proofs.KindLaws.{kind_some}
use Rattle.marks.specs.declared.Found.{Found}
use Rattle.marks.specs.declared.Step.{Step}
use Rattle.reading.specs.Reader.{State, Result, ok, stop, Reader, bind, return, refuse, Numbered, Item, line}
use Rattle.reading.specs.Shape.{copy, the_end}
use Rattle.reading.specs.Checks.{judged_words, judged_modules}
use Rattle.late.specs.Late.{Late, judge_all}
use Rattle.late.specs.declared.state.State.{State as Carried}
use Rattle.late.specs.Settled.{Refusal, refusal}
use Rattle.late.specs.State.{late_in, After, after, Halted}
use Rattle.std.specs.Prelude.{Ok, Err}
use Rattle.late.proofs.Settling.{judge_append}
use Rattle.parts.specs.Parts.{from, Reaches, Answers, Went, Told, items_in, dues_in, Sure, LineRead}
use Rattle.mode_and_range.specs.ModeRange.{Valued}
use Rattle.frame.specs.Frame.{module_due, ModuleFrom, EndedBy, modules, ModulesRead, ModulesFrom}
use Rattle.parts.proofs.Steps.{Next, end as at_end, one, place_seen, told}
use Rattle.parts.proofs.Answers.{stopped, onward, halted, made}
use Rattle.parts.proofs.Counted.{up_to, another, too_many, no_other}
use Rattle.parts.proofs.Lines.{sign_took}

pub module_sure : (i : ℕ) → Sure (module_due i)
module_sure i =
    let equal = told "=" (omega arith) in
    (equal, (told "[" (omega arith), (equal, (told "," (omega arith), (equal, (told "]" (omega arith), (told "endmodule" (omega arith), tt)))))))

-- ---- the end of the card

module _ (s : List ℕ) (i : ℕ) where
  pub end_fits : (x : Step) → Next s i x → x.mark.kind ≡ k_end → (n : ℕ) → the_end (from s i n) ≡ ok tt (from s i n)
  end_fits _ (at_end e) z n = rw e
  end_fits _ (one m p next l e) z n = absurd (kind_some m z)

  pub end_misses : (x : Step) → Next s i x → (x.mark.kind ≡ k_end → ⊥) → (n : ℕ) → the_end (from s i n) ≡ stop out_of_shape (marks_at 0 s i)
  end_misses _ (at_end e) z n = absurd (z refl)
  end_misses _ (one m p next l e) z n = rw e

-- ---- the modules

abbrev ends : List (List Numbered) → Reader (List (List Numbered))
ends ms s = bind (the_end s) (λ u. return ms)

abbrev more : List Numbered → List (List Numbered) → List (List Numbered)
more m ms = m ∷ ms

step : (m : List Numbered) (ms : List (List Numbered)) (s : State) → ends (m ∷ ms) s ≡ bind (ends ms s) (λ xs. return (more m xs))
step m ms s = go (the_end s)
  where
    go : (y : Result (Unit {0})) → bind y (λ u. return (m ∷ ms)) ≡ bind (bind y (λ u. return ms)) (λ xs. return (m ∷ xs))
    go (ok u t) = refl
    go (stop n p) = refl

keyword : Told "module"
keyword = told "module" (omega arith)

abbrev pub further : ℕ → Reader (List (List Numbered))
further = up_to "module" copy (refuse past_limit) ends

abbrev pub RestRead : List ℕ → ℕ → Late → Result (List (List Numbered)) → After → Type 0
RestRead s seats late = Answers s (λ ms. Went s late (seats + length ms) (judged_modules (seats + 1) ms))

-- what stands behind the keyword
abbrev module_rest : List Item
module_rest = items_in (module_due 0)

module _ (s : List ℕ) (seats : ℕ) (late : Late) (i n : ℕ) (x : Step) (v : Next s i x) (r : After) where
  -- it ended right there
  reached : r.next ≡ Ok i → Reaches s (from s i n) r.next
  reached f = rw f refl

  module _ (d : x.mark.kind ≡ kind "module" → ⊥) (most : ℕ) where
    pub modules_stop : (x.mark.kind ≡ k_end → ⊥) → Halted out_of_shape x.mark.place r → RestRead s seats late (further most (from s i n)) r
    modules_stop e h =
        rw (no_other "module" copy (refuse past_limit) ends more step keyword s i x v d most n, end_misses s i x v e n, ← place_seen s i x v) h

    pub modules_end : x.mark.kind ≡ k_end → r.next ≡ Ok i → Valued late seats r.state → RestRead s seats late (further most (from s i n)) r
    unfolding judge_all
    modules_end e f h =
        rw (no_other "module" copy (refuse past_limit) ends more step keyword s i x v d most n, end_fits s i x v e n)
        (record { rest = reached f; told = record { value = h.value ∙ omega arith; late = h.late } })

  module _ (d : x.mark.kind ≡ kind "module") where
    pub past_modules : Halted past_limit x.mark.place r → RestRead s seats late (further 0 (from s i n)) r
    past_modules h = rw (too_many "module" copy (refuse past_limit) ends more step keyword s i x v d n, ← place_seen s i x v) h

    opened : (most : ℕ) → further (suc most) (from s i n) ≡ bind (line module_rest (from s x.next.at n)) (λ m s₁. bind (further most s₁) (λ ms. return (more m ms)))
    opened most =
        another "module" copy (refuse past_limit) ends more step keyword s i x v d most n
        ∙ ap (λ (y : Result (Unit {0})). bind (bind y (λ u. line module_rest)) (λ m s₁. bind (further most s₁) (λ ms. return (more m ms)))) (sign_took "module" keyword s i x v d n)

    abbrev Lined : After → Type 0
    Lined a = (n : ℕ) → LineRead s late (dues_in (module_due (seats + 1))) (line module_rest (from s x.next.at n)) a

    pub module_stops : (most : ℕ) (state : Carried) (z : Refusal) → Lined (after state (Err z)) → r ≡ after state (Err z) → RestRead s seats late (further (suc most) (from s i n)) r
    module_stops most state z hc f = rw (opened most, f) (halted s _ _ (line module_rest (from s x.next.at n)) _ state z (hc n))

    pub one_more : (most : ℕ) (state : Carried) (c : ℕ) → Lined (after state (Ok c)) → ((m : ℕ) → RestRead s (seats + 1) (late_in state) (further most (from s c m)) r) → RestRead s seats late (further (suc most) (from s i n)) r
    unfolding judge_all
    one_more most state c hc y = rw (opened most) (onward s _ _ (line module_rest (from s x.next.at n)) _ state c r (hc n) λ m n₁ g.
        made s _ _ (further most (from s c n₁)) (more m) r (y n₁) λ ms h.
        record {
          value = omega (arith, h.value);
          late = h.late ∙ ap (judge_all (length s) (judged_modules (seats + 1 + 1) ms)) g ∙ sym (judge_append (length s) (judged_words (dues_in (module_due (seats + 1))) m) (judged_modules (seats + 1 + 1) ms) late) ∙ rw (add-one (seats + 1));
        })

-- before the first module
pub none_counted : (s : List ℕ) (late : Late) (x : Result (List (List Numbered))) (r : After) → RestRead s 1 late x r → ModulesRead s late x r
none_counted s late (ok ms b) r y = record { rest = y.rest; told = record { value = omega (arith, y.told.value); late = y.told.late } }
none_counted s late (stop n p) r y = y

-- ---- the loop: an answer to what is left answers the whole

pub record Going (s : List ℕ) (before : Late) (i seats next : ℕ) (state : Carried) : Type 0 where
  pub whole : (r : After) → ((m : ℕ) → RestRead s seats (late_in state) (further (most_seats - seats) (from s next m)) r) → (n : ℕ) → ModulesRead s before (modules (from s i n)) r

pub going_start : {s : List ℕ} {i : ℕ} (state : Carried) → Going s (late_in state) i 1 i state
going_start {s} {i} state = record { whole = λ r y n. none_counted s (late_in state) (modules (from s i n)) r (y n) }

-- the mark behind the last module
pub end_stops : {m : Found} {at seats : ℕ} {late : Late} (state : Carried) → (m.kind ≡ k_end → ⊥) → EndedBy m at seats late (after state (Err (refusal out_of_shape m.place)))
end_stops state e = record { ends = λ f. absurd (e f); stops = λ f. stopped state }

pub end_read : {m : Found} {at seats : ℕ} (was : Carried) → m.kind ≡ k_end → EndedBy m at seats (late_in was) (after (record was { value = seats }) (Ok at))
end_read was e = record { ends = λ f. (refl, record { value = refl; late = refl }); stops = λ f. absurd (f e) }

module _ {s : List ℕ} {before : Late} {i seats next : ℕ} {state : Carried} (g : Going s before i seats next state) {x : Step} (v : Next s next x) where
  pub going_ended : (x.mark.kind ≡ kind "module" → ⊥) → {r : After} → EndedBy x.mark next seats (late_in state) r → ModulesFrom s i before r
  going_ended d {r} h = record { answers = g.whole r λ m. by m (eqb x.mark.kind k_end) refl }
    where
      by : (m : ℕ) (t : Bool) → eqb x.mark.kind k_end ≡ t → RestRead s seats (late_in state) (further (most_seats - seats) (from s next m)) r
      by m true e =
          let y = h.ends (eqb-true _ _ e) in
          modules_end s seats (late_in state) next m x v r d (most_seats - seats) (eqb-true _ _ e) y.0 y.1
      by m false e = modules_stop s seats (late_in state) next m x v r d (most_seats - seats) (eqb-false _ _ e) (h.stops (eqb-false _ _ e))

  module _ (d : x.mark.kind ≡ kind "module") where
    pub going_past : most_seats ≤ seats → (out : Carried) → ModulesFrom s i before (after out (Err (refusal past_limit x.mark.place)))
    going_past l out = record {
      answers = g.whole _ λ m.
          let z : most_seats - seats ≡ 0 = omega arith in
          rw z (past_modules s seats (late_in state) next m x v _ d (stopped out));
    }

    module _ (l : seats < most_seats) where
      one_less : most_seats - seats ≡ suc (most_seats - (seats + 1))
      one_less = omega arith

      line_read : {r : After} → ModuleFrom s x.next.at (seats + 1) (late_in state) r → (n : ℕ) → LineRead s (late_in state) (dues_in (module_due (seats + 1))) (line module_rest (from s x.next.at n)) r
      line_read hc n = hc.answers (module_due (seats + 1)) (module_sure (seats + 1)) refl n

      pub going_stops : {end : Carried} {z : Refusal} → ModuleFrom s x.next.at (seats + 1) (late_in state) (after end (Err z)) → ModulesFrom s i before (after end (Err z))
      going_stops {end} {z} hc = record { answers = g.whole _ λ m. rw one_less (module_stops s seats (late_in state) next m x v _ d (most_seats - (seats + 1)) end z (line_read hc) refl) }

      pub going_more : {end : Carried} {c : ℕ} → ModuleFrom s x.next.at (seats + 1) (late_in state) (after end (Ok c)) → Going s before i (seats + 1) c end
      going_more {end} {c} hc = record { whole = λ r y. g.whole r λ m. rw one_less (one_more s seats (late_in state) next m x v r d (most_seats - (seats + 1)) end c (line_read hc) y) }
