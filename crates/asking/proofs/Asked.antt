-- What the reader of a question does on marks, in terms of its grammar and limits. Assumes nothing.
use Prim.Native.Nat.{ℕ, zero, suc, ◌≤◌}
use mathlib.Core.Path.{◌≡◌, refl, ap, ◌∙◌}
use mathlib.Core.Logic.{◌⊎◌, ◌↔◌}
use mathlib.Core.Bool.{Bool, true, false}
use mathlib.Core.List.{List, [], ◌∷◌, ◌++◌}
use native.Mathlib.Omega.{arith}
use lib.ListN.{length, length-append}
use Rattle.card.specs.Limits.{most_nodes, most_depth}
use Rattle.card.specs.Refusals.{out_of_shape, past_limit}
use Rattle.card.specs.Card.{any, is as eq, isnt as ne, Formula}
use Rattle.card.specs.Valid.{Every}
use Rattle.marks_on_a_card.specs.Marks.{Placed}
use Rattle.reading.specs.Reader.{Place, State, at, ok, stop, ◌>>=◌, ◌>>◌, return}
use Rattle.reading.specs.Guard.{test_next, Read, unary_by}
use Rattle.reading.specs.Group.{joint, Literal, joined}
use Rattle.reading.specs.Shape.{may_have, the_end}
use Rattle.grammar.specs.Grammar.{JoinedSaid, close, next, shared_test, joined_by, FormulaSaid}
use Rattle.grammar.specs.Counted.{Within}
use Rattle.grammar.proofs.Steady.{Lang, free, Steady, Always, steady_silent}
use Rattle.grammar.proofs.Follows.{Ran, Came, Anyway, group_reads, group_opens, group_no_number, expression_runs, ran_last}
use Rattle.grammar.proofs.Exact.{may_have_t, HaltedIn, whole_passes, whole_stops, GuardL, expression_t, unary_t}
use Rattle.grammar.proofs.Shapes.{shape_read as the_shape_read, read_shape as the_read_shape, stopped_past as the_stopped_past, past_stopped as the_past_stopped, stopped_unfit as the_stopped_unfit, unfit_stopped as the_unfit_stopped, stop_numbers as the_stop_numbers}
use Rattle.asking.specs.Question.{Item, twice_next, item_next, term, item, asked, question, TermSaid, ItemSaid, of_group, of_terms, of_test, NoneStarts, QuestionSaid, asks, Sight, sight, counted_question, QuestionUnfit, QuestionPast}
use Rattle.asking.proofs.Seen.{term_seen, formula_no_test, bracket_no_seat, bracket_no_number, term_settles}
use Rattle.asking.proofs.Looking.{or_left, or_right, none_or, term_reads, question_items}

-- ---- reading follows the grammar

term_shrinks : {ms r : Place} {ls : List Literal} → TermSaid ms ls r → length r ≤ length ms
term_shrinks d = let m = term_settles d in let e = ap length m.split ∙ length-append m.pre _ in omega arith

terms_read : {ms r : Place} {ts : List (List Literal)} → JoinedSaid TermSaid any ms ts r → (f : ℕ) → length ms ≤ f → (n : ℕ)
    → joined term (joint any) f (at ms n) ≡ ok ts (at r n)
terms_read (close {a} {r}) zero h n = absurd (omega arith)
terms_read close (suc f) h n = refl
terms_read (next d o) zero h n = absurd (omega arith)
terms_read (next d o) (suc f) h n = rw (term_reads d n, terms_read o f (omega (arith, term_shrinks d)) n)

item_reads : {shared : Bool} (q ms r : Place) (x : Item) → ItemSaid shared q ms x r → (n : ℕ) → item q (at ms n) ≡ ok x (at r n)
item_reads q ms r _ (of_group g) n = rw (group_no_number g, group_opens g, group_reads g n)
item_reads q ms r _ (of_terms {ns = ns} d b o) n = rw (bracket_no_number d, bracket_no_seat d, term_reads d n, terms_read o (length ns) (omega arith) n)
item_reads q ms r _ (of_test (shared_test {q = eq})) n = refl
item_reads q ms r _ (of_test (shared_test {q = ne})) n = refl

item_opens : {shared : Bool} (q ms r : Place) (x : Item) → ItemSaid shared q ms x r → item_next shared ms ≡ true
item_opens {shared} q ms r _ (of_group g) = or_left (test_next shared ms) (twice_next ms) (rw (group_opens g))
item_opens {shared} q ms r _ (of_terms d b o) = or_right (test_next shared ms) (twice_next ms) (term_seen d ∙ b)
item_opens q ms r _ (of_test shared_test) = refl

formula_shuts : {shared : Bool} (ms r : Place) (g : Formula Item) → NoneStarts ms → FormulaSaid NoneStarts (ItemSaid shared) (joined_by any) ms g r → item_next shared ms ≡ false
formula_shuts {shared} ms r g f d = none_or (test_next shared ms) (twice_next ms) (formula_no_test d) f

pub question_runs : {shared : Bool} (ms : Place) (g : Formula Item) (d : QuestionSaid shared ms g) → Ran (counted_question ms g d) (Came Anyway g []) (question shared (at ms zero))
question_runs {shared} ms g (asks d) =
    ran_last (λ g. the_end >> return g) (expression_runs (item_next shared) NoneStarts (ItemSaid shared) item item_opens formula_shuts item_reads d refl refl) λ left _. (left, refl, tt)

-- ---- and the grammar reading

module _ (shared : Bool) where
  abbrev AskedL : Lang
  AskedL = GuardL NoneStarts (ItemSaid shared) (joined_by any)

  abbrev body : Read Item
  body = may_have most_nodes >>= λ _. asked shared

  body_t : Steady (sight shared) Always free AskedL body body
  body_t = steady_silent (may_have_t most_nodes) λ _ _ _.
      expression_t NoneStarts (ItemSaid shared) (unary_by (item_next shared) item most_depth) (unary_t (item_next shared) NoneStarts (ItemSaid shared) item (question_items shared) most_depth)

  body_said : (ms : Place) → AskedL ms [] → (g : Formula Item) × QuestionSaid shared ms g
  body_said ms (g, d) = (g, asks d)

  passes : (ms : Place) (g : Formula Item) (s : State) → question shared (at ms zero) ≡ ok g s → (h : Formula Item) × QuestionSaid shared ms h
  passes ms = whole_passes (QuestionSaid shared) AskedL body_said body body_t ms zero tt

  -- what is looked for behind a bracket does not hang on the marks before it
  abbrev looks : Place → Place → Sight
  looks ms = sight shared

  stops : (ms : Place) (n : ℕ) (r : Place) → question shared (at ms zero) ≡ stop n r → HaltedIn (looks ms) (QuestionSaid shared) (question shared) ms zero n r
  stops ms = whole_stops (QuestionSaid shared) AskedL body_said body body_t ms zero tt

  alike : (pre : Place) (m : Placed) (x y : Place) → question shared (at (pre ++ (m ∷ y)) zero) ≡ stop past_limit (m ∷ y) → looks (pre ++ (m ∷ x)) ≡ looks (pre ++ (m ∷ y))
  alike pre m x y e = refl

  -- ---- the theorems, on marks

  abbrev pub QuestionWithin : Place → Formula Item → Type 0
  QuestionWithin ms g = (d : QuestionSaid shared ms g) × Every Within (counted_question ms g d)

  -- it is read exactly when it has the shape within the limits, and as what it says
  pub question_read : (ms : Place) (g : Formula Item) → ((n : ℕ) × (question shared (at ms zero) ≡ ok g (at [] n))) ↔ QuestionWithin ms g
  question_read ms g = (
    (λ (n, e). the_read_shape looks (question shared) (QuestionSaid shared) counted_question question_runs passes stops alike ms g (at [] n) e),
    (λ (d, w). the_shape_read looks (question shared) (QuestionSaid shared) counted_question question_runs passes stops alike d w),
  )

  pub question_within : (ms : Place) (g : Formula Item) (s : State) → question shared (at ms zero) ≡ ok g s → QuestionWithin ms g
  question_within = the_read_shape looks (question shared) (QuestionSaid shared) counted_question question_runs passes stops alike

  -- 4 exactly at the first mark past a limit
  pub question_past : (ms r : Place) → question shared (at ms zero) ≡ stop past_limit r ↔ QuestionPast shared ms r
  question_past ms r = (
    the_stopped_past looks (question shared) (QuestionSaid shared) counted_question question_runs passes stops alike ms r,
    the_past_stopped looks (question shared) (QuestionSaid shared) counted_question question_runs passes stops alike ms r,
  )

  -- 3 exactly where no question goes on, unless a limit is passed before
  pub question_stopped_unfit : (ms r : Place) → question shared (at ms zero) ≡ stop out_of_shape r → QuestionUnfit shared ms r
  question_stopped_unfit = the_stopped_unfit looks (question shared) (QuestionSaid shared) counted_question question_runs passes stops alike

  pub question_unfit_stopped : (ms r : Place) → QuestionUnfit shared ms r → ((t : Place) → QuestionPast shared ms t → (m : Placed) (w : Place) → t ≡ m ∷ (w ++ r) → ⊥)
      → question shared (at ms zero) ≡ stop out_of_shape r
  question_unfit_stopped = the_unfit_stopped looks (question shared) (QuestionSaid shared) counted_question question_runs passes stops alike

  -- and nothing else
  pub question_stops : (ms : Place) (n : ℕ) (r : Place) → question shared (at ms zero) ≡ stop n r → (n ≡ out_of_shape) ⊎ (n ≡ past_limit)
  question_stops = the_stop_numbers looks (question shared) (QuestionSaid shared) counted_question question_runs passes stops alike
