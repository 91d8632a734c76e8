-- The whole card is its beginning, its statements and its further modules. Assumes nothing.
use Prim.Native.Nat.{ℕ, zero, suc, ◌-◌, ◌≤◌}
use mathlib.Core.Path.{◌≡◌, refl, sym, ap, ◌∙◌, subst}
use mathlib.Core.Bool.{Bool, true, false, ◌&&◌}
use mathlib.Core.Logic.{inl, inr}
use mathlib.Core.List.{List, [], ◌∷◌, ◌++◌}
use mathlib.Core.Option.{Option, none, some}
use native.Mathlib.Omega.{arith}
use Rattle.std.specs.Prelude.{Ok, Err}
use Rattle.card.proofs.Verdicts.{refusal_is, ok≢refused}
use lib.Dec.{eqb, leb}
use lib.ListN.{length, length-map}
use Rattle.card.specs.Limits.{card_bytes, top_state, most_statements, most_seats, unit}
use Rattle.card.specs.Refusals.{above_top, not_due, wrong_weight, decimal_weight}
use Rattle.card.specs.Card.{Mode, Card}
use Rattle.card.specs.Text.{when◌then◌else◌}
use Rattle.card.specs.Weight.{units_of, Rule, allowed, weight_refusal}
use Rattle.card.specs.Valid.{values_of}
use Rattle.card.specs.Laid.{mode_number, start_of}
use Rattle.card.specs.Lent.{Lent, head_of, lent_of, none_lent}
use Rattle.card.specs.declared.Head.{Head}
use Rattle.marks_on_a_card.specs.Marks.{place_of}
use Rattle.marks.specs.Step.{marks_at}
use Rattle.reading.specs.Reader.{State, Result, ok, stop, Reader, bind, ◌>>=◌, ◌>>◌, return, the, next_is, if_next, sign, Numbered, line}
use Rattle.grammar.specs.Grammar.{card_run}
use Rattle.reading.specs.Shape.{StatementShape, Range, CardShape, statement, more_statements, more_modules, mode_of, range, declaration, the_end, modules as parts, card}
use Rattle.reading.specs.Guard.{is_some}
use Rattle.reading.specs.Judgements.{Judgement, state, word, one_group, weight, sum, symmetric, total_units, place_in, unless, broken, Verdict, fine, wrong, or_else, first_broken}
use Rattle.reading.specs.Checks.{judged_state, judged_words, judged_each, judged_statement, judged_modules, judged_shared, most_in, judged_card, statement_in, seats_in, shared_in, card_in}
use Rattle.reading.specs.Reading.{Outcome, taken, refused, first_outside, judged, read_under, Refuses}
use Rattle.reading.proofs.Through.{none≢some}
use Rattle.grammar.proofs.Fair.{card_fair}
use Rattle.reading.proofs.Numbers.{read_number}
use Rattle.grammar.proofs.Shaping.{read_shape as shape_of_law}
use Rattle.grammar.proofs.Valid.{read_valid}
use Rattle.late.specs.Late.{Late, none_yet, judge, judge_all}
use Rattle.late.specs.Values.{values_in, shares, most_of, initial_in}
use Rattle.late.specs.Settled.{Refusal, Due, settled, verdict}
use Rattle.late.specs.declared.state.State.{State as Carried}
use Rattle.late.specs.State.{NextPlace, late_in, value_in, after}
use Rattle.late.proofs.Settling.{judge_append, settled_first}
use Rattle.late.proofs.ValueLaws.{shares_values, most_values, values_shared, start_shared}
use Rattle.parts.specs.Parts.{from, Answers}
use Rattle.frame.specs.Frame.{sharing, HeaderShape, header, HeaderIn, HeaderFrom, modules, ModulesFrom}
use Rattle.branches.specs.declared.Bounds.{Bounds}
use Rattle.outline.specs.ReadingOf.{Outline, outline_of, memory_of, ReadsUnder}
use Rattle.outline.specs.Refusing.{Judged}
use Rattle.search.specs.Search.{searched}
use Rattle.statements.specs.Statements.{filled, StatementsRead, StatementsFrom}
use Rattle.parts.proofs.Answers.{went_on, onward, halted, made}
use Rattle.parts.proofs.Lines.{assoc}
use Rattle.reader.proofs.Outcomes.{or_outside, read_stop, read_shape}
use Rattle.reader.proofs.FilledLaws.{card_lent}

abbrev pub shape_of : HeaderShape → List StatementShape → List (List Numbered) → CardShape
shape_of h xs ms = record { mode = h.mode; shared = h.shared; words = h.words; k = h.states.top; l = h.states.start; statements = xs; modules = ms }

-- the shared number, or none, and then what hangs on it
sharing_then : {A : Type 0} (f : Option Range → Reader A) (s : State) → if_next "global" (declaration >>= λ g. f (some g)) (f none) s ≡ bind (sharing s) f
sharing_then f s = go (next_is "global" s.marks)
  where
    go : (b : Bool) → (when b then (declaration >>= λ g. f (some g)) else f none) s ≡ bind ((when b then (declaration >>= λ x. return (some x)) else return none) s) f
    go true = sym (assoc (declaration s) (λ x. return (some x)) f)
    go false = refl

-- its statements, on a card that shares a number or not
abbrev all_statements : Bool → Reader (List StatementShape)
all_statements shared = do
  x ← statement shared
  xs ← more_statements shared (most_statements - 1)
  sign "endmodule"
  return (x ∷ xs)

regroup : (a : Result Mode) (g : Reader (Option Range)) (b : Reader (List Numbered)) (r : Reader Range) (x : Option Range → Reader StatementShape) (xs : Option Range → Reader (List StatementShape)) (y : Reader (Unit {0})) (ms : Reader (List (List Numbered))) (e : Reader (Unit {0}))
    → bind (bind a (λ m s₁. bind (g s₁) (λ z s₂. bind (b s₂) (λ ws s₃. bind (r s₃) (λ k s₄. bind (x z s₄) (λ x₁ s₅. bind (xs z s₅) (λ xs₁ s₆. bind (y s₆) (λ y₁ s₇. bind (ms s₇) (λ ms₁.
    return (shape_of (record { mode = m; shared = z; words = ws; states = k }) (x₁ ∷ xs₁) ms₁)))))))))) (λ c s. bind (e s) (λ e₁. return c))
    ≡ bind (bind a (λ m s₁. bind (g s₁) (λ z s₂. bind (b s₂) (λ ws s₃. bind (r s₃) (λ k. return (record { mode = m; shared = z; words = ws; states = k }))))))
    (λ h s. bind (bind (x h.shared s) (λ x₁ s₅. bind (xs h.shared s₅) (λ xs₁ s₆. bind (y s₆) (λ y₁. return (x₁ ∷ xs₁))))) (λ all s₁. bind (bind (ms s₁) (λ ms₁ s₂. bind (e s₂) (λ e₁. return ms₁))) (λ ms₁. return (shape_of h all ms₁))))
regroup a g b r x xs y ms e = simp assoc

pub card_parts : (s : State) → card s ≡ bind (header s) (λ h s₁. bind (all_statements (is_some h.shared) s₁) (λ xs s₂. bind (modules s₂) (λ ms. return (shape_of h xs ms))))
card_parts s =
    ap (λ (y : Result CardShape). bind y (λ c s₁. bind (the_end s₁) (λ u. return c))) (behind (the mode_of s))
    ∙ regroup (the mode_of s) sharing (line card_run) (range top_state) (λ g. statement (is_some g)) (λ g. more_statements (is_some g) (most_statements - 1)) (sign "endmodule") (more_modules (most_seats - 1)) the_end
  where
    behind : (a : Result Mode) → bind a (λ m. if_next "global" (declaration >>= λ g. parts m (some g)) (parts m none)) ≡ bind a (λ m s₁. bind (sharing s₁) (parts m))
    behind (ok m s₁) = sharing_then (parts m) s₁
    behind (stop n p) = refl

-- what is judged of the header, the statements and the modules, one after the other
judged_parts : (e : ℕ) (g ws each ms : List Judgement) (x : Judgement) (before : Late)
    → judge_all e ms (judge_all e each (judge_all e (g ++ (ws ++ (x ∷ []))) before)) ≡ judge_all e (g ++ (ws ++ (x ∷ (each ++ ms)))) before
unfolding judge_all
judged_parts e g ws each ms x before =
    ap (λ (l : Late). judge_all e ms (judge_all e each l)) (judge_append e g (ws ++ (x ∷ [])) before ∙ judge_append e ws (x ∷ []) (judge_all e g before))
    ∙ sym (judge_append e g (ws ++ (x ∷ (each ++ ms))) before ∙ judge_append e ws (x ∷ (each ++ ms)) (judge_all e g before)
    ∙ judge_append e each ms (judge e x (judge_all e ws (judge_all e g before))))

-- what the three parts say of the card's shape: the states behind them are h, l and t
record Whole (decimals : Rule) (s : List ℕ) (h l t : Carried) (was is : Lent) (c : CardShape) : Type 0 where
  mode : h.mode ≡ mode_number c.mode
  values : h.shared ≡ values_in c.shared
  initial : h.initial ≡ initial_in c.shared
  seats : value_in t ≡ seats_in c
  top : h.top ≡ c.k
  start : h.start ≡ c.l.value
  late : late_in t ≡ judge_all (length s) (judged_card decimals c) none_yet
  count : value_in l ≡ length c.statements
  memory : is ≡ filled 0 c.statements was

-- what no judgement breaks is fine
verdict_fine : (e : ℕ) (v : Verdict) → Ok tt ≡ verdict e v → v ≡ fine
verdict_fine e fine h = refl
verdict_fine e (wrong r p) h = ok≢refused h

-- ---- the contract, by the outcome

-- reading stops so, unless a mark outside the rules stands there or further on
pub record Stops (decimals : Rule) (s : List ℕ) (n p : ℕ) : Type 0 where
  pub outcome : read_under decimals s ≡ or_outside n p (first_outside (marks_at 0 s p))

module _ {decimals : Rule} {s : List ℕ} {r : Outline} {x : Lent} where
  by_outcome : (o : Outcome) → read_under decimals s ≡ o → r ≡ outline_of o → x ≡ memory_of o → ReadsUnder decimals s r x
  by_outcome o e f g = record { outline = rw e f; memory = rw e g; valid = read_valid decimals s }

  pub reads_refused : {k p : ℕ} → read_under decimals s ≡ refused k p → r ≡ outline_of (refused k p) → x ≡ none_lent → ReadsUnder decimals s r x
  reads_refused {k} {p} = by_outcome (refused k p)

  pub reads_searched : {n p : ℕ} → Stops decimals s n p → {y : Refusal} → y ≡ searched n p (first_outside (marks_at 0 s p))
      → r ≡ Err y → x ≡ none_lent → ReadsUnder decimals s r x
  reads_searched {n} {p} h {y} e f = go (first_outside (marks_at 0 s p)) h.outcome e
    where
      go : (o : Option ℕ) → read_under decimals s ≡ or_outside n p o → y ≡ searched n p o → x ≡ none_lent → ReadsUnder decimals s r x
      go none a b = reads_refused a (f ∙ ap (λ (z : Refusal). Err z) b)
      go (some q) a b = reads_refused a (f ∙ ap (λ (z : Refusal). Err z) b)

  pub reads_taken : (c : Card) → read_under decimals s ≡ taken c → r ≡ outline_of (taken c) → x ≡ lent_of c → ReadsUnder decimals s r x
  reads_taken c = by_outcome (taken c)

-- ---- a stop anywhere is a stop of the whole card

abbrev StopsAs : Rule → List ℕ → Refusal → Type 0
StopsAs decimals s e = Stops decimals s e.number e.place

abbrev none_so : CardShape → Carried → Type 0
none_so c r = ⊥

module _ (decimals : Rule) (s : List ℕ) (short : length s ≤ card_bytes) where
  stopped_read : (x : Result CardShape) → card (from s 0 0) ≡ x → (now : Carried) (e : Refusal) → Answers s none_so x (after now (Err e)) → StopsAs decimals s e
  stopped_read (ok c b) q now e y = absurd y.told
  stopped_read (stop m p) q now e y =
      subst (λ (r : Refusal). StopsAs decimals s r) (sym (refusal_is y.refused)) (record { outcome = read_stop decimals s short m p q })

  pub header_stops : (h : Carried) (e : Refusal) → HeaderFrom s 0 none_yet (after h (Err e)) → StopsAs decimals s e
  header_stops h e hh = stopped_read (card (from s 0 0)) refl h e
      (rw (card_parts (from s 0 0)) (halted s _ none_so (header (from s 0 0)) _ h e (hh.answers 0)))

  module _ (h : Carried) {a : ℕ} (hh : HeaderFrom s 0 none_yet (after h (Ok a))) where
    -- what the header says of the numbers in the statements
    abbrev bounds : Bounds
    bounds = record { top = h.top; values = h.shared; decimals = decimals }

    module _ (was is : Lent) (l : Carried) where
      listed : (next : NextPlace) → StatementsFrom bounds s a (late_in h) was is (after l next) → (x : HeaderShape) → HeaderIn s none_yet x h → (n : ℕ)
          → StatementsRead bounds s (late_in h) was is (all_statements (is_some x.shared) (from s a n)) (after l next)
      listed next hl x f n =
          subst (λ (shared : Bool). StatementsRead bounds s (late_in h) was is (all_statements shared (from s a n)) (after l next)) (ap shares f.values ∙ shares_values x.shared) (hl.answers n)

      pub statements_stop : (e : Refusal) → StatementsFrom bounds s a (late_in h) was is (after l (Err e)) → StopsAs decimals s e
      statements_stop e hl = stopped_read (card (from s 0 0)) refl l e
          (rw (card_parts (from s 0 0)) (onward s _ none_so (header (from s 0 0)) _ h a _ (hh.answers 0) λ x n f.
          halted s _ none_so (all_statements (is_some x.shared) (from s a n)) _ l e (listed (Err e) hl x f n)))

      module _ {b : ℕ} (hl : StatementsFrom bounds s a (late_in h) was is (after l (Ok b))) (t : Carried) where
        pub modules_stop : (e : Refusal) → ModulesFrom s b (late_in l) (after t (Err e)) → StopsAs decimals s e
        modules_stop e ht = stopped_read (card (from s 0 0)) refl t e
            (rw (card_parts (from s 0 0)) (onward s _ none_so (header (from s 0 0)) _ h a _ (hh.answers 0) λ x n f.
            onward s _ none_so (all_statements (is_some x.shared) (from s a n)) _ l b _ (listed (Ok b) hl x f n) λ xs m g.
            halted s _ none_so (modules (from s b m)) _ t e (ht.answers m)))

        module _ {c : ℕ} (ht : ModulesFrom s b (late_in l) (after t (Ok c))) where
          shape_told : Answers s (λ x r. Whole decimals s h l t was is x) (card (from s 0 0)) (after t (Ok c))
          shape_told = rw (card_parts (from s 0 0)) (onward s _ _ (header (from s 0 0)) _ h a _ (hh.answers 0) λ x n f.
              onward s _ _ (all_statements (is_some x.shared) (from s a n)) _ l b _ (listed (Ok b) hl x f n) λ xs m g.
              made s _ _ (modules (from s b m)) (shape_of x xs) (after t (Ok c)) (ht.answers m) λ ms j.
              let most : most_of (h.shared) ≡ most_in x.shared = ap most_of f.values ∙ most_values x.shared in
              let each = judged_each (judged_statement decimals x.states.top (most_in x.shared)) xs in
              record {
                mode = f.mode;
                values = f.values;
                initial = f.initial;
                seats = j.value;
                top = f.top;
                start = f.start;
                late = j.late
                    ∙ ap (judge_all (length s) (judged_modules 2 ms))
                    (g.went.late ∙ (λ q. judge_all (length s) (judged_each (judged_statement decimals (f.top q) (most q)) xs) (late_in h)) ∙ ap (judge_all (length s) each) f.late)
                    ∙ judged_parts (length s) (judged_shared x.shared) (judged_words (1 ∷ 1 ∷ []) x.words) each (judged_modules 2 ms) (judged_state x.states.top x.states.start) none_yet;
                count = g.went.value;
                memory = g.memory;
              })

          got : (x : Result CardShape) → card (from s 0 0) ≡ x → Answers s (λ x r. Whole decimals s h l t was is x) x (after t (Ok c))
              → (x : CardShape) × (b : State) × (card (from s 0 0) ≡ ok x b) × Whole decimals s h l t was is x
          got (ok x b) e y = (x, b, e, y.told)
          got (stop n p) e y = went_on y

          -- z: what is due once it is settled
          module _ (z : Due) (hz : z ≡ settled (value_in t) (late_in t)) where
            -- what is settled is the first broken judgement, and reading hangs on it
            by_verdict : (x : CardShape) (b : State) → card (from s 0 0) ≡ ok x b → Whole decimals s h l t was is x
                → (z ≡ verdict (length s) (first_broken (seats_in x) (judged_card decimals x))) × (read_under decimals s ≡ judged (length s) (card_in x) (first_broken (seats_in x) (judged_card decimals x)))
            by_verdict x b e w =
                let g = shape_of_law (marks_at 0 s 0) x b e in
                let f = card_fair g.0 g.1 in (
                  hz ∙ ap (settled (value_in t)) w.late ∙ ap (λ (n : ℕ). settled n (judge_all (length s) (judged_card decimals x) none_yet)) w.seats
                      ∙ settled_first (length s) (seats_in x) (omega arith) (omega (arith, f.modules)) (judged_card decimals x),
                  read_shape decimals s short x b e,
                )

            late_read : {e : Refusal} → Err e ≡ z → read_under decimals s ≡ refused e.number e.place
            late_read {e} f = go (got (card (from s 0 0)) refl shape_told)
              where
                by : (x : CardShape) (v : Verdict) → z ≡ verdict (length s) v → judged (length s) (card_in x) v ≡ refused e.number e.place
                by x fine q = ok≢refused (sym (f ∙ q))
                by x (wrong r p) q = ap (λ (y : Refusal). refused y.number y.place) (sym (refusal_is (f ∙ q)))

                go : (x : CardShape) × (b : State) × (card (from s 0 0) ≡ ok x b) × Whole decimals s h l t was is x → read_under decimals s ≡ refused e.number e.place
                go (x, b, q, w) = let y = by_verdict x b q w in y.1 ∙ by x (first_broken (seats_in x) (judged_card decimals x)) y.0

            -- the card, its head, and the arrays that it lies in
            taken_read : Ok tt ≡ z → was ≡ none_lent
                → (c : Card) × (read_under decimals s ≡ taken c)
                × (record { mode = h.mode; shared = h.shared; initial = h.initial; seats = value_in t; top = h.top; start = h.start; count = value_in l } ≡ head_of c) × (is ≡ lent_of c)
            taken_read f zeros = go (got (card (from s 0 0)) refl shape_told)
              where
                go : (x : CardShape) × (b : State) × (card (from s 0 0) ≡ ok x b) × Whole decimals s h l t was is x → (c : Card) × (read_under decimals s ≡ taken c)
                    × (record { mode = h.mode; shared = h.shared; initial = h.initial; seats = value_in t; top = h.top; start = h.start; count = value_in l } ≡ head_of c) × (is ≡ lent_of c)
                go (x, b, e, w) =
                    let y = by_verdict x b e w in
                    let v : first_broken (seats_in x) (judged_card decimals x) ≡ fine = verdict_fine (length s) (first_broken (seats_in x) (judged_card decimals x)) (f ∙ y.0) in
                    let t : read_under decimals s ≡ taken (card_in x) = y.1 ∙ ap (judged (length s) (card_in x)) v in
                    let values : h.shared ≡ values_of (shared_in x.shared) = w.values ∙ sym (values_shared x.shared) in
                    let initial : h.initial ≡ start_of (shared_in x.shared) = w.initial ∙ sym (start_shared x.shared) in
                    let count : value_in l ≡ length (card_in x).statements = w.count ∙ sym (length-map x.statements (statement_in (seats_in x))) in (
                      card_in x,
                      t,
                      (λ i. record { mode = w.mode i; shared = values i; initial = initial i; seats = w.seats i; top = w.top i; start = w.start i; count = count i }),
                      w.memory ∙ ap (filled 0 x.statements) zeros ∙ card_lent decimals x v (read_valid decimals s (card_in x) t),
                    )

          -- what is settled decides
          pub judged_read : was ≡ none_lent → {r : Outline} {last : Lent}
              → Judged (record { mode = h.mode; shared = h.shared; initial = h.initial; seats = value_in t; top = h.top; start = h.start; count = value_in l }) (settled (value_in t) (late_in t)) is last r
              → ReadsUnder decimals s r last
          judged_read zeros {r} {last} j = go (settled (value_in t) (late_in t)) refl
            where
              go : (z : Due) → z ≡ settled (value_in t) (late_in t) → ReadsUnder decimals s r last
              go (Ok u) e =
                  let y = taken_read (settled (value_in t) (late_in t)) refl e zeros in
                  let x = j.takes e in
                  reads_taken y.0 y.1 (x.0 ∙ ap (λ (g : Head). Ok g) y.2) (x.1 ∙ y.3)
              go (Err q) e = let x = j.refuses q e in reads_refused (late_read (settled (value_in t) (late_in t)) refl e) x.0 x.1
