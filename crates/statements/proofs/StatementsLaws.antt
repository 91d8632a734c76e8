-- A card's statements: what is left after each statement is read by the same reader with one statement less. Assumes nothing.
use Prim.Native.Nat.{ℕ, zero, suc, ◌+◌, ◌-◌, ◌≤◌, ◌<◌}
use mathlib.Core.Path.{◌≡◌, refl, sym, ap, ◌∙◌}
use mathlib.Core.List.{List, [], ◌∷◌}
use native.Mathlib.Nat.{zero-add}
use native.Mathlib.Omega.{arith}
use lib.ListN.{length}
use Rattle.card.specs.Limits.{most_statements}
use Rattle.card.specs.Refusals.{out_of_shape, past_limit}
use Rattle.card.specs.Lent.{Lent}
use Rattle.marks_on_a_card.specs.Marks.{place_of}
use Rattle.marks_on_a_card.specs.Kinds.{kind}
use Rattle.marks.specs.declared.Step.{Step}
use Rattle.reading.specs.Reader.{Place, State, at, Result, ok, stop, Reader, bind, return, refuse, sign}
use Rattle.reading.specs.Shape.{StatementShape}
use Rattle.reading.specs.Checks.{judged_each}
use Rattle.late.specs.Late.{Late, judge_all}
use Rattle.std.specs.Prelude.{Ok, Err}
use Rattle.late.specs.declared.state.State.{State as Carried}
use Rattle.late.specs.Settled.{Refusal, refusal}
use Rattle.late.specs.State.{NextPlace, late_in, After, after, Halted}
use Rattle.late.proofs.Settling.{judge_append}
use Rattle.parts.specs.Parts.{from, Answers, Went, SignRead, SignFrom, Told}
use Rattle.branches.specs.declared.Bounds.{Bounds}
use Rattle.statements.specs.OneStatement.{statement_by, judged_by, StatementRead, StatementFrom}
use Rattle.statements.specs.Statements.{statements, filled, StatementsRead, StatementsFrom}
use Rattle.parts.proofs.Steps.{Next, place_seen, told}
use Rattle.parts.proofs.Answers.{stopped, went_on, onward, halted, made}
use Rattle.parts.proofs.Counted.{up_to, with_first, another, too_many, no_other}
use Rattle.parts.proofs.Lines.{sign_took, sign_fits, sign_misses}

abbrev pub ends : List StatementShape → Reader (List StatementShape)
ends xs s = bind (sign "endmodule" s) (λ u. return xs)

abbrev pub more : StatementShape → List StatementShape → List StatementShape
more x xs = x ∷ xs

step : (x : StatementShape) (xs : List StatementShape) (s : State) → ends (x ∷ xs) s ≡ bind (ends xs s) (λ ys. return (more x ys))
step x xs s = go (sign "endmodule" s)
  where
    go : (y : Result (Unit {0})) → bind y (λ u. return (x ∷ xs)) ≡ bind (bind y (λ u. return xs)) (λ ys. return (x ∷ ys))
    go (ok u t) = refl
    go (stop n p) = refl

bracket : Told "["
bracket = told "[" (omega arith)

keyword : Told "endmodule"
keyword = told "endmodule" (omega arith)

module _ (bounds : Bounds) where
  -- behind a statement
  abbrev pub further : ℕ → Reader (List StatementShape)
  further = up_to "[" (statement_by bounds) (refuse past_limit) ends

  -- where a `[` stands: so many statements may still stand there
  abbrev pub rest : ℕ → Reader (List StatementShape)
  rest zero = λ s. stop past_limit s.marks
  rest (suc most) = λ s. bind (statement_by bounds s) (λ x s₁. bind (further most s₁) (λ xs. return (more x xs)))

  pub rest_whole : (most : ℕ) (s : State) → statements bounds most s ≡ rest (suc most) s
  rest_whole most s = with_first "[" (statement_by bounds) (refuse past_limit) ends more step (statement_by bounds s) most

  at_bracket : (most : ℕ) (s : List ℕ) (i : ℕ) (x : Step) (v : Next s i x) → x.mark.kind ≡ kind "[" → (n : ℕ) → further most (from s i n) ≡ rest most (from s i n)
  at_bracket zero s i x v e n = too_many "[" (statement_by bounds) (refuse past_limit) ends more step bracket s i x v e n
  at_bracket (suc most) s i x v e n = another "[" (statement_by bounds) (refuse past_limit) ends more step bracket s i x v e most n

-- with the statements so far counted in
pub record Counted (bounds : Bounds) (s : List ℕ) (i : ℕ) (before : Late) (was is : Lent) (xs : List StatementShape) (state : Carried) : Type 0 where
  pub went : Went s before (i + length xs) (judged_each (judged_by bounds) xs) state
  pub memory : is ≡ filled i xs was

abbrev pub RestRead : Bounds → List ℕ → ℕ → Late → Lent → Lent → Result (List StatementShape) → After → Type 0
RestRead bounds s i late was is = Answers s (Counted bounds s i late was is)

-- before the first statement
pub none_counted : (bounds : Bounds) (s : List ℕ) (late : Late) (was is : Lent) (x : Result (List StatementShape)) (r : After)
    → RestRead bounds s 0 late was is x r → StatementsRead bounds s late was is x r
none_counted bounds s late was is (ok xs b) r y =
    let z = y.told in
    record { rest = y.rest; told = record { went = record { value = z.went.value ∙ zero-add (length xs); late = z.went.late }; memory = z.memory } }
none_counted bounds s late was is (stop n p) r y = y

-- one statement too many: its bracket stands at `place`
pub past_statements : (bounds : Bounds) (s : List ℕ) (i : ℕ) (late : Late) (was is : Lent) (st : State) (place : ℕ) (r : After) → place ≡ place_of (length s) st.marks
    → Halted past_limit place r → RestRead bounds s i late was is (rest bounds 0 st) r
past_statements bounds s i late was is st place r e h = rw (← e) h

module _ (bounds : Bounds) (s : List ℕ) (i : ℕ) (late : Late) (was is : Lent) (most : ℕ) (st : State) where
  abbrev RestIs : After → Type 0
  RestIs = RestRead bounds s i late was is (rest bounds (suc most) st)

  pub statement_stops : (state : Carried) (z : Refusal) (now : Lent) → StatementRead bounds s late was now i (statement_by bounds st) (after state (Err z)) → RestIs (after state (Err z))
  statement_stops state z now hx = halted s _ _ (statement_by bounds st) _ state z hx

  module _ (state : Carried) (x : ℕ) (now : Lent) (hx : StatementRead bounds s late was now i (statement_by bounds st) (after state (Ok x))) where
    one_counted : (r : After) → ((m : ℕ) → RestRead bounds s (i + 1) (late_in state) now is (further bounds most (from s x m)) r) → RestIs r
    unfolding judge_all filled
    one_counted r y = onward s _ _ (statement_by bounds st) _ state x r hx λ a m g.
        made s _ _ (further bounds most (from s x m)) (more a) r (y m) λ xs h. record {
          went = record {
            value = omega (arith, h.went.value);
            late = h.went.late ∙ ap (judge_all (length s) (judged_each (judged_by bounds) xs)) g.late ∙ sym (judge_append (length s) (judged_by bounds a) (judged_each (judged_by bounds) xs) late);
          };
          memory = h.memory ∙ ap (filled (i + 1) xs) g.memory;
        }

    module _ (y : Step) (v : Next s x y) where
      pub one_more : y.mark.kind ≡ kind "[" → (r : After)
          → ((m : ℕ) → RestRead bounds s (i + 1) (late_in state) now is (rest bounds most (from s x m)) r) → RestIs r
      one_more f r z = one_counted r λ m. rw (at_bracket bounds most s x y v f m) (z m)

      module _ (d : y.mark.kind ≡ kind "[" → ⊥) where
        last : (r : After) → ((m : ℕ) → RestRead bounds s (i + 1) (late_in state) now is (ends [] (from s x m)) r) → RestIs r
        last r z = one_counted r λ m. rw (no_other "[" (statement_by bounds) (refuse past_limit) ends more step bracket s x y v d most m) (z m)

        pub list_stops : (y.mark.kind ≡ kind "endmodule" → ⊥) → RestIs (after state (Err (refusal out_of_shape y.mark.place)))
        list_stops f = last _ λ m. sign_misses "endmodule" keyword s x _ y v m _ _ f (stopped state)

        pub list_read : y.mark.kind ≡ kind "endmodule" → is ≡ now → RestIs (after (record state { value = i + 1 }) (Ok y.next.at))
        unfolding judge_all filled
        list_read f z = last _ λ m. sign_fits "endmodule" keyword s x _ y v m _ _ f
            (record { rest = refl; told = record { went = record { value = omega arith; late = refl }; memory = z } })

-- the first `[` is there, or reading stops before it
pub open_stops : {bounds : Bounds} {s : List ℕ} {i : ℕ} {was is : Lent} (state : Carried) {z : Refusal} → SignFrom s i (kind "[") (Err z)
    → StatementsFrom bounds s i (late_in state) was is (after state (Err z))
open_stops {bounds} {s} {i} {was} {is} state {z} h = record { answers = λ n. go n (sign "[" (from s i n)) refl (h.answers "[" bracket refl n state) }
  where
    go : (n : ℕ) (y : Result (Unit {0})) → sign "[" (from s i n) ≡ y → SignRead s state y (after state (Err z)) → StatementsRead bounds s (late_in state) was is (statements bounds (most_statements - 1) (from s i n)) (after state (Err z))
    go n (ok u b) q h = absurd h.rest
    go n (stop m p) q h = rw q h

opened_at : (s : List ℕ) (state : Carried) (x : Result (Unit {0})) (o : ℕ) → SignRead s state x (after state (Ok o)) → (m : ℕ) × (x ≡ ok tt (from s o m))
opened_at s state (ok tt b) o h = (b.nodes, ap (λ (p : Place). ok tt (at p b.nodes)) (sym h.rest))
opened_at s state (stop n p) o h = went_on h

-- where a `[` stands right before the cursor; once there is a statement, its place is known
pub record Bracket (s : List ℕ) (count place next : ℕ) (st : State) : Type 0 where
  pub nodes : ℕ
  pub there : sign "[" st ≡ ok tt (from s next nodes)
  pub known : 0 < count → place ≡ place_of (length s) st.marks

pub record Going (bounds : Bounds) (s : List ℕ) (before : Late) (was : Lent) (i count place : ℕ) (now : Lent) (next : ℕ) (state : Carried) : Type 0 where
  pub few : count ≤ most_statements
  pub whole : (r : After) (is : Lent) → ((st : State) → Bracket s count place next st → RestRead bounds s count (late_in state) now is (rest bounds (most_statements - count) st) r)
      → (n : ℕ) → StatementsRead bounds s before was is (statements bounds (most_statements - 1) (from s i n)) r

pub going_start : {bounds : Bounds} {s : List ℕ} {was : Lent} {i place : ℕ} (state : Carried) {o : ℕ} → SignFrom s i (kind "[") (Ok o)
    → Going bounds s (late_in state) was i 0 place was o state
going_start {bounds} {s} {was} {i} {place} state {o} h = record {
  few = omega arith;
  whole = λ r is y n.
      let b = opened_at s state (sign "[" (from s i n)) o (h.answers "[" bracket refl n state) in
      none_counted bounds s (late_in state) was is (statements bounds (most_statements - 1) (from s i n)) r
      (rw (rest_whole bounds (most_statements - 1) (from s i n)) (y (from s i n) (record { nodes = b.0; there = b.1; known = λ l. omega arith })));
}

module _ {bounds : Bounds} {s : List ℕ} {before : Late} {was : Lent} {i count place : ℕ} {now : Lent} {next : ℕ} {state : Carried} (g : Going bounds s before was i count place now next state) where
  module _ (l : count < most_statements) where
    one_less : most_statements - count ≡ suc (most_statements - (count + 1))
    one_less = omega arith

    -- the rest as the reader of one statement and what follows
    opened : {new : Lent} {after_one : Carried} {x : NextPlace} → StatementFrom bounds s next (late_in state) now new count (after after_one x) → (is : Lent) (r : After)
        → ((st : State) → StatementRead bounds s (late_in state) now new count (statement_by bounds st) (after after_one x)
        → RestRead bounds s count (late_in state) now is (rest bounds (suc (most_statements - (count + 1))) st) r)
        → (n : ℕ) → StatementsRead bounds s before was is (statements bounds (most_statements - 1) (from s i n)) r
    opened hx is r y = g.whole r is λ st b. rw one_less (y st (hx.answers st b.nodes b.there))

    pub going_stops : {new : Lent} {end : Carried} {z : Refusal} → StatementFrom bounds s next (late_in state) now new count (after end (Err z)) → StatementsFrom bounds s i before was new (after end (Err z))
    going_stops {new} {end} {z} hx = record { answers = opened hx new _ λ st h. statement_stops bounds s count (late_in state) now new (most_statements - (count + 1)) st end z new h }

    module _ {new : Lent} {end : Carried} {x : ℕ} (hx : StatementFrom bounds s next (late_in state) now new count (after end (Ok x))) {y : Step} (v : Next s x y) where
      module _ (d : y.mark.kind ≡ kind "[" → ⊥) where
        pub going_unended : (y.mark.kind ≡ kind "endmodule" → ⊥) → StatementsFrom bounds s i before was new (after end (Err (refusal out_of_shape y.mark.place)))
        going_unended f = record { answers = opened hx new _ λ st h. list_stops bounds s count (late_in state) now new (most_statements - (count + 1)) st end x new h y v d f }

        pub going_ended : y.mark.kind ≡ kind "endmodule" → StatementsFrom bounds s i before was new (after (record end { value = count + 1 }) (Ok y.next.at))
        going_ended f = record { answers = opened hx new _ λ st h. list_read bounds s count (late_in state) now new (most_statements - (count + 1)) st end x new h y v d f refl }

      pub going_more : y.mark.kind ≡ kind "[" → Going bounds s before was i (count + 1) y.mark.place new y.next.at end
      going_more f = record {
        few = omega arith;
        whole = λ r is z. opened hx is r λ st h. one_more bounds s count (late_in state) now is (most_statements - (count + 1)) st end x new h y v f r λ m.
            z (from s x m) (record { nodes = m; there = sign_took "[" bracket s x y v f m; known = λ q. place_seen s x y v });
      }

  -- one statement too many
  pub going_past : most_statements ≤ count → StatementsFrom bounds s i before was now (after state (Err (refusal past_limit place)))
  going_past l = record {
    answers = g.whole _ now λ st b.
        let z : most_statements - count ≡ 0 = omega arith in
        rw z (past_statements bounds s count (late_in state) now now st place _ (b.known (omega arith)) (stopped state));
  }
