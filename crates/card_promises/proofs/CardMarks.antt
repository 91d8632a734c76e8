-- By induction over the grammar: each part's marks are those of the part without places, since each of its words is judged and was the
-- one due. Assumes nothing.
use Prim.Native.Nat.{ℕ, suc}
use mathlib.Core.Path.{◌≡◌, refl, sym, ap, ◌∙◌}
use mathlib.Core.Bool.{Bool}
use mathlib.Core.List.{List, [], ◌∷◌, ◌++◌, append_assoc, map}
use mathlib.Core.Option.{Option, none, some}
use native.Mathlib.Omega.{arith}
use lib.ListN.{length}
use Rattle.card.specs.Card.{Card, Formula}
use Rattle.card.specs.Weight.{Weight, Worth, Rule}
use Rattle.card.specs.Valid.{Every}
use Rattle.card.proofs.Laws.{units_worth}
use Rattle.marks_on_a_card.specs.Marks.{Mark, seat, process, number, placed, marks_of}
use Rattle.reading.specs.Reader.{Place, Numbered, Item, exactly, seat_word, process_word}
use Rattle.reading.specs.Group.{Tested}
use Rattle.reading.specs.Judgements.{Judgement, or_zero, units_in, place_in, judged_guard}
use Rattle.reading.specs.Shape.{BranchShape, StatementShape, Range, CardShape}
use Rattle.reading.specs.Checks.{judged_words, judged_branch, judged_each, judged_or, judged_statement, module_dues, judged_modules, judged_shared, judged_card, most_in, value_or, branch_in, guard_or, statement_in, shared_in, card_in}
use Rattle.grammar.specs.Grammar.{Said, sign_at, LineSaid, ended, fixed, a_seat, a_process, module_run, ManySaid, done as said_done, again as said_again, RestSaid, nothing as no_guard, guarded as a_guard, WeightSaid, a_number, a_ratio, a_decimal, SetSaid, keeps, sets_to, BranchSaid, branch as said_branch, PlusSaid, plus as said_plus, StatementSaid, statement as said_statement, mode_word, RangeSaid, range, SharedSaid, unshared, sharing, CardSaid, card as said_card}
use Rattle.grammar.specs.Rules.{Kept}
use Rattle.grammar.specs.Verdicts.{KeptOn}
use Rattle.reading.specs.Reading.{taken, read_under}
use Rattle.grammar.proofs.Fair.{every_append}
use Rattle.grammar.proofs.Along.{strictly, along_whole, guard_along}
use Rattle.grammar.proofs.Theorems.{accepted}
use Rattle.card_promises.specs.CardMarks.{sign, mark_of, weight_marks, set_marks, BranchMarks, branch, PlusMarks, plus, Repeated, done, again, GuardMarks, nothing, guarded, StatementMarks, statement, copy_marks, copies, shared_marks, CardMarks, card}

abbrev marks : Place → List Mark
marks = map mark_of

-- ---- a run of marks, with these numbers in its words

abbrev filled : List Item → List ℕ → List Mark
filled [] dues = []
filled (exactly t ∷ items) dues = sign t ∷ filled items dues
filled (seat_word ∷ items) [] = []
filled (seat_word ∷ items) (due ∷ dues) = seat due ∷ filled items dues
filled (process_word ∷ items) [] = []
filled (process_word ∷ items) (due ∷ dues) = process due ∷ filled items dues

-- a run without a word in it
abbrev Wordless : List Item → Type 0
Wordless [] = Unit {0}
Wordless (exactly t ∷ items) = Wordless items
Wordless (seat_word ∷ items) = ⊥
Wordless (process_word ∷ items) = ⊥

fixed_marks : {items : List Item} {ms r : Place} {ws : List Numbered} → Wordless items → LineSaid items ms ws r → marks ms ≡ filled items [] ++ marks r
fixed_marks h ended = refl
fixed_marks h (fixed {t} d) = ap (λ (x : List Mark). sign t ∷ x) (fixed_marks h d)
fixed_marks h (a_seat d) = absurd h
fixed_marks h (a_process d) = absurd h

module _ (decimals : Rule) (n k m : ℕ) where
  abbrev Holds : List Judgement → Type 0
  Holds = Every (Kept n)

  line_marks : {items : List Item} {ms r : Place} {ws : List Numbered} → LineSaid items ms ws r → (dues : List ℕ) → Holds (judged_words dues ws)
      → marks ms ≡ filled items dues ++ marks r
  line_marks ended dues h = refl
  line_marks (fixed {t} d) dues h = ap (λ (x : List Mark). sign t ∷ x) (line_marks d dues h)
  line_marks (a_seat {i} d) [] h = absurd (omega (arith, h.0))
  line_marks (a_seat {i} d) (due ∷ dues) h = rw (h.0, line_marks d dues h.1)
  line_marks (a_process {i} d) [] h = absurd (omega (arith, h.0))
  line_marks (a_process {i} d) (due ∷ dues) h = rw (h.0, line_marks d dues h.1)

  -- ---- weights and branches

  weight_marks_law : {ms r : Place} {w : Weight} → WeightSaid ms w r → marks ms ≡ weight_marks w ++ marks r
  weight_marks_law a_number = refl
  weight_marks_law a_ratio = refl
  weight_marks_law a_decimal = refl

  units_in_law : (w : Weight) (u : ℕ) → Worth w u → units_in w ≡ u
  units_in_law w u h = ap or_zero ((units_worth w u).1 h)

  -- what a thing's marks are, and what follows it
  abbrev Front : {A : Type 0} → (A → List Mark → Type 0) → A → Place → Place → Type 0
  Front One x ms r = (front : List Mark) × One x front × (marks ms ≡ front ++ marks r)

  -- & (g'=v)
  set_marks_law : {shared : Bool} (ms r : Place) (v : Option Numbered) → SetSaid shared ms v r → marks ms ≡ set_marks (value_or v) ++ marks r
  set_marks_law ms r none keeps = refl
  set_marks_law ms r (some v) (sets_to {ws = ws} d) = fixed_marks tt d

  -- :(s1'=t)
  abbrev behind_weight : ℕ → List Mark → List Mark
  behind_weight t rest = sign ":" ∷ sign "(" ∷ seat 1 ∷ sign "'" ∷ sign "=" ∷ number t ∷ sign ")" ∷ rest

  branch_marks : {shared : Bool} (ms r : Place) (x : BranchShape) → BranchSaid shared ms x r → Holds (judged_branch decimals k m x) → Front BranchMarks (branch_in x) ms r
  branch_marks ms r x (said_branch {t} {os = os} {w = w} {ws} {v} d l g) h =
      let (_, (u, worth)) = h.0 in
      let (due, end) = every_append (Kept n) (judged_words (1 ∷ []) ws) _ h.1 in (
        weight_marks w ++ behind_weight t (set_marks (value_or v)),
        rw (units_in_law w u worth) (branch w worth),
        weight_marks_law d
            ∙ ap (λ (y : List Mark). weight_marks w ++ y) (line_marks l (1 ∷ []) due ∙ ap (behind_weight t) (set_marks_law os r v g))
            ∙ sym (append_assoc (weight_marks w) (behind_weight t (set_marks (value_or v))) (marks r)),
      )

  plus_marks : {shared : Bool} (ms r : Place) (x : BranchShape) → PlusSaid shared ms x r → Holds (judged_branch decimals k m x) → Front PlusMarks (branch_in x) ms r
  plus_marks ms r x (said_plus {ms = ns} d) h =
      let (front, b, e) = branch_marks ns r x d h in
      (sign "+" ∷ front, plus b, ap (λ (y : List Mark). sign "+" ∷ y) e)

  -- ---- any number of things

  many_marks : {S A : Type 0} {Each : Said S} (judged : S → List Judgement) (to : S → A) (One : A → List Mark → Type 0)
      → ((ms r : Place) (x : S) → Each ms x r → Holds (judged x) → Front One (to x) ms r)
      → {ms r : Place} {xs : List S} → ManySaid Each ms xs r → Holds (judged_each judged xs) → Front (Repeated One) (map to xs) ms r
  many_marks judged to One each said_done h = ([], done, refl)
  many_marks judged to One each (said_again {ms} {ns} {r} {x} {xs} d ds) h =
      let (a, b) = every_append (Kept n) (judged x) (judged_each judged xs) h in
      let (front, o, e) = each ms ns x d a in
      let (rest, os, es) = many_marks judged to One each ds b in
      (front ++ rest, again o os, e ∙ ap (λ (y : List Mark). front ++ y) es ∙ sym (append_assoc front rest (marks r)))

  -- ---- statements

  append_marks : (u v : Place) → marks (u ++ v) ≡ marks u ++ marks v
  append_marks [] v = refl
  append_marks (placed m p ∷ u) v = ap (λ (y : List Mark). m ∷ y) (append_marks u v)

  rest_marks : {shared : Bool} (ms r : Place) (g : Option (Formula Tested)) → RestSaid shared ms g r → Front GuardMarks (guard_or n g) ms r
  rest_marks ms r none no_guard = ([], nothing, refl)
  rest_marks ms r (some g) (a_guard {ms = ns} u) =
      let (v, e) = along_whole strictly place_in ns r (judged_guard k m g) (guard_along k m u) in
      (sign "&" ∷ marks v, guarded, ap (λ (y : List Mark). sign "&" ∷ y) (ap marks e ∙ append_marks v r))

  -- [] s1=j
  abbrev begins : ℕ → List Mark → List Mark
  begins j rest = sign "[" ∷ sign "]" ∷ seat 1 ∷ sign "=" ∷ number j ∷ rest

  ends : (gs bs ps rest : List Mark) → (gs ++ (sign "->" ∷ (bs ++ (ps ++ (sign ";" ∷ []))))) ++ rest ≡ gs ++ (sign "->" ∷ (bs ++ (ps ++ (sign ";" ∷ rest))))
  ends gs bs ps rest = rw (append_assoc gs (sign "->" ∷ (bs ++ (ps ++ (sign ";" ∷ [])))) rest, append_assoc bs (ps ++ (sign ";" ∷ [])) rest, append_assoc ps (sign ";" ∷ []) rest)

  statement_marks : {shared : Bool} (ms r : Place) (x : StatementShape) → StatementSaid shared ms x r → Holds (judged_statement decimals k m x) → Front StatementMarks (statement_in n x) ms r
  statement_marks ms r x (said_statement {j} {a} {b} {c} {ns = ns} {os} {qs} {ws = ws} {g} {x = y} {xs = ys} l u d ds) h =
      let (due, h₁) = every_append (Kept n) (judged_words (1 ∷ []) ws) _ h in
      let (_, h₂) = every_append (Kept n) (judged_or k m g) _ h₁.1 in
      let (h₃, _) = every_append (Kept n) (judged_each (judged_branch decimals k m) (y ∷ ys)) _ h₂ in
      let (h₄, h₅) = every_append (Kept n) (judged_branch decimals k m y) (judged_each (judged_branch decimals k m) ys) h₃ in
      let (gs, guard, e₁) = rest_marks ns (sign_at "->" b ∷ os) g u in
      let (bs, first, e₂) = branch_marks os qs y d h₄ in
      let (ps, more, e₃) = many_marks (judged_branch decimals k m) branch_in PlusMarks plus_marks ds h₅ in (
        begins j (gs ++ (sign "->" ∷ (bs ++ (ps ++ (sign ";" ∷ []))))),
        statement guard first more,
        line_marks l (1 ∷ []) due ∙ ap (begins j) (e₁ ∙ ap (λ (z : List Mark). gs ++ (sign "->" ∷ z)) (e₂ ∙ ap (λ (z : List Mark). bs ++ z) e₃) ∙ sym (ends gs bs ps (marks r))),
      )

  -- ---- the further modules

  modules_marks : (i : ℕ) {ms : Place} {ys : List (List Numbered)} → ManySaid (LineSaid module_run) ms ys [] → Holds (judged_modules i ys) → marks ms ≡ copies i (length ys)
  modules_marks i said_done h = refl
  modules_marks i (said_again {x = y} {xs = ys} d ds) h =
      let (due, rest) = every_append (Kept n) (judged_words (module_dues i) y) (judged_modules (suc i) ys) h in
      line_marks d (module_dues i) due ∙ ap (λ (z : List Mark). copy_marks i ++ z) (modules_marks (suc i) ds rest)

-- ---- the card

-- module process1 s1 : [0..k] init l;
abbrev opens : ℕ → ℕ → List Mark → List Mark
opens k l rest =
    sign "module" ∷ process 1
    ∷ seat 1 ∷ sign ":" ∷ sign "[" ∷ number 0 ∷ sign ".." ∷ number k ∷ sign "]" ∷ sign "init" ∷ number l ∷ sign ";" ∷ rest

-- behind `[`
range_marks : {ms r : Place} (x : Range) → RangeSaid ms x r → marks ms ≡ number 0 ∷ sign ".." ∷ number x.top ∷ sign "]" ∷ sign "init" ∷ number x.start.value ∷ sign ";" ∷ marks r
range_marks x range = refl

shared_marks_law : {ms r : Place} (g : Option Range) → SharedSaid ms g r → marks ms ≡ shared_marks (shared_in g) ++ marks r
shared_marks_law none unshared = refl
shared_marks_law (some x) (sharing l y) = fixed_marks tt l ∙ ap (λ (z : List Mark). sign "global" ∷ sign "g" ∷ sign ":" ∷ sign "[" ∷ z) (range_marks x y)

card_marks : (decimals : Rule) {ms : Place} {c : CardShape} → CardSaid ms c → Every (KeptOn c) (judged_card decimals c) → CardMarks (card_in c) (marks ms)
card_marks decimals (said_card {mode} {ms = ms} {ns} {os} {ps} {qs} {rs} {g} {ws} {y} {x} {xs} {ys} u w v s ss ts) h =
    let n = suc (length ys) in
    let k = y.top in
    let m = most_in g in
    let (_, h₀) = every_append (Kept n) (judged_shared g) _ h in
    let (due, h₁) = every_append (Kept n) (judged_words (1 ∷ 1 ∷ []) ws) _ h₀ in
    let (h₂, h₃) = every_append (Kept n) (judged_each (judged_statement decimals k m) (x ∷ xs)) (judged_modules 2 ys) h₁.1 in
    let (h₄, h₅) = every_append (Kept n) (judged_statement decimals k m x) (judged_each (judged_statement decimals k m) xs) h₂ in
    let (fs, first, e₁) = statement_marks decimals n k m ps qs x s h₄ in
    let (gs, more, e₂) = many_marks decimals n k m (judged_statement decimals k m) (statement_in n) StatementMarks (statement_marks decimals n k m) ss h₅ in
    let e₃ : marks ps ≡ fs ++ (gs ++ (sign "endmodule" ∷ copies 2 (length ys))) =
    e₁ ∙ ap (λ (z : List Mark). fs ++ z) (e₂ ∙ ap (λ (z : List Mark). gs ++ (sign "endmodule" ∷ z)) (modules_marks decimals n k m 2 ts h₃)) in
    let e₄ : marks ns ≡ opens k y.start.value (fs ++ (gs ++ (sign "endmodule" ∷ copies 2 (length ys)))) =
    line_marks decimals n k m w (1 ∷ 1 ∷ []) due ∙ ap (λ (z : List Mark). sign "module" ∷ process 1 ∷ seat 1 ∷ sign ":" ∷ sign "[" ∷ z) (range_marks y v) ∙ ap (opens k y.start.value) e₃ in
    let e : marks (sign_at (mode_word mode) 0 ∷ ms) ≡ sign (mode_word mode) ∷ (shared_marks (shared_in g) ++ opens k y.start.value (fs ++ (gs ++ (sign "endmodule" ∷ copies 2 (length ys))))) =
    ap (λ (z : List Mark). sign (mode_word mode) ∷ z) (shared_marks_law g u ∙ ap (λ (z : List Mark). shared_marks (shared_in g) ++ z) e₄) in
    rw e (card first more)

pub taken_marks : (decimals : Rule) (s : List ℕ) (c : Card) → read_under decimals s ≡ taken c → CardMarks c (marks (marks_of s))
taken_marks decimals s c e = let a = (accepted decimals s c).0 e in rw a.card (card_marks decimals a.shaped.said a.kept)
