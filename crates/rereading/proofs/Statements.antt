-- Written branches and statements are said by the grammar, keep the rules and the limits, and are the branches and statements.
use Prim.Native.Nat.{ℕ, suc, ◌+◌, ◌-◌, ◌^◌, ◌≤◌, ◌<◌}
use mathlib.Core.Path.{◌≡◌, refl, sym, ap, ap₂, ◌∙◌, subst}
use mathlib.Core.Bool.{Bool, true, false, ◌&&◌}
use mathlib.Core.List.{List, [], ◌∷◌, ◌++◌, map}
use mathlib.Core.Option.{Option, none, some}
use native.Mathlib.Nat.{div-le_self, not-suc-le-zero, le_of_suc-le-suc}
use native.Mathlib.Omega.{arith}
use borrow.Author.Tests.{le-leb, eq-eqb, ne_eqb}
use lib.Dec.{eqb, leb}
use lib.ListN.{length}
use Rattle.card.specs.Limits.{number_digits, word_digits, unit, most_statements, most_branches, most_nodes, most_depth}
use Rattle.card.specs.Card.{all, Formula, Guard, Branch, Statement}
use Rattle.card.specs.Valid.{Every, total, size, middle, depth, ValidGuard, ValidSet, ValidBranch, ValidStatement}
use Rattle.card.specs.Weight.{Weight, whole, ratio, units_of, Rule, allowed, weight_refusal}
use Rattle.marks_on_a_card.specs.Bytes.{is_digit, begins}
use Rattle.marks_on_a_card.specs.Digits.{pointed}
use Rattle.marks_on_a_card.specs.Marks.{number, placed, marks}
use Rattle.reading.specs.Reader.{Place, Numbered, Item}
use Rattle.reading.specs.Guard.{is_some}
use Rattle.card.specs.Refusals.{wrong_weight}
use Rattle.reading.specs.Group.{Tested}
use Rattle.reading.specs.Judgements.{unless, units_in, or_zero, total_units}
use Rattle.reading.specs.Shape.{BranchShape, StatementShape, Range}
use Rattle.reading.specs.Checks.{judged_words, judged_set, judged_branch, judged_each, judged_or, judged_statement, weight_in, value_or, branch_in, guard_or as guard_in', statement_in, most_in}
use Rattle.grammar.specs.Grammar.{sign_at, valued, joined_by, LineSaid, ended, fixed, a_seat, statement_run, branch_run, set_run, ManySaid, done, again, RestSaid, nothing, guarded, WeightSaid, a_number, a_ratio, SetSaid, keeps, sets_to, BranchSaid, branch, PlusSaid, plus, StatementSaid, statement}
use Rattle.grammar.specs.Counted.{Within, counted_rest, counted_plus, counted_many, counted_statement}
use Rattle.room.specs.Digits.{decimal, AllDigits}
use Rattle.room.proofs.Decimal.{decimal_digits, decimal_some}
use Rattle.phrases.specs.Phrases.{◌▸◌, num, lowest, spell, divisor, weight_text}
use Rattle.phrases.proofs.Lowest.{lowest_kept}
use Rattle.texts.specs.Shared.{needed, formula_or, more, summed, set_last}
use Rattle.texts.specs.Writing.{group_text, guard_text, branch_text, statement_text, statements}
use Rattle.rereading.proofs.Lexed.{Apart, number_mark}
use Rattle.rereading.proofs.Groups.{values_in, Kept}
use Rattle.rereading.proofs.Guards.{every_append, GuardWritten, guard_written}

cases : {P : Type 0} (b : Bool) → (b ≡ true → P) → (b ≡ false → P) → P
cases true p q = p refl
cases false p q = q refl

-- ---- words that are the ones due

abbrev pub Due : List ℕ → List Numbered → Type 0
Due [] [] = Unit {0}
Due [] (w ∷ ws) = ⊥
Due (d ∷ ds) [] = ⊥
Due (d ∷ ds) (w ∷ ws) = (w.value ≡ d) × Due ds ws

pub record LineWritten (items : List Item) (dues : List ℕ) (ms rest : Place) : Type 0 where
  pub found : List Numbered
  pub said : LineSaid items ms found rest
  pub due : Due dues found

pub line_kept : (n : ℕ) (dues : List ℕ) (ws : List Numbered) → Due dues ws → Every (Kept n) (judged_words dues ws)
line_kept n [] [] h = tt
line_kept n [] (w ∷ ws) h = absurd h
line_kept n (d ∷ ds) [] h = absurd h
line_kept n (d ∷ ds) (w ∷ ws) h = (rw (eq-eqb w.value d h.0), line_kept n ds ws h.1)

-- ---- weights

-- what is written of a weight, in few digits
abbrev Small : Weight → Type 0
Small (whole v) = v < 10 ^ number_digits
Small (Weight.decimal v n f) = ⊥
Small (ratio a b) = (a < 10 ^ number_digits) × (b < 10 ^ number_digits)

lowest_small : (u : ℕ) → u ≤ unit → Small (lowest u)
lowest_small u h = cases (eqb u 0) (λ e. rw e (omega arith)) (λ e. rw e
    (cases (leb unit u) (λ f. rw f (omega arith)) (λ f. rw f
    (omega (arith, div-le_self u (divisor u)), omega (arith, div-le_self unit (divisor u))))))

-- and in a form that every rule allows
lowest_allowed : (decimals : Rule) (u : ℕ) → allowed decimals (lowest u) ≡ true
lowest_allowed decimals u = cases (eqb u 0) (λ e. rw e) (λ e. rw e (cases (leb unit u) (λ f. rw f) (λ f. rw f)))

-- no `/` after `/`
digits_begin : (s r : List ℕ) → AllDigits s → 0 < length s → begins (eqb 47) (s ++ r) ≡ false
digits_begin [] r d h = absurd (omega arith)
digits_begin (b ∷ s) r d h = ne_eqb 47 b (λ z. omega (arith, d.0))

module _ (decimals : Rule) (e : ℕ) where
  abbrev M : List ℕ → Place
  M r = marks e 0 r

  over_mark : (v : ℕ) (r : List ℕ) → M ("/" ▸ num v r) ≡ sign_at "/" (e - length ("/" ▸ num v r)) ∷ M (num v r)
  over_mark v r = rw (digits_begin (decimal v) r (decimal_digits v) (decimal_some v))

  spell_written : (w : Weight) (r : List ℕ) → Small w → Apart r → WeightSaid (M (spell w r)) w (M r)
  spell_written (whole v) r h a = subst (λ (ms : Place). WeightSaid ms (whole v) (M r)) (sym (number_mark e v r h a)) a_number
  spell_written (Weight.decimal v n f) r h a = absurd h
  spell_written (ratio a b) r h p =
      let x = "/" ▸ num b r in
      let marked : M (num a x) ≡ placed (number a) (e - length (num a x)) ∷ sign_at "/" (e - length x) ∷ placed (number b) (e - length (num b r)) ∷ M r
      = number_mark e a x h.0 (record { no_digit = refl; no_point = refl })
      ∙ ap (λ (t : Place). placed (number a) (e - length (num a x)) ∷ t) (over_mark b r ∙ ap (λ (t : Place). sign_at "/" (e - length x) ∷ t) (number_mark e b r h.1 p)) in
      subst (λ (ms : Place). WeightSaid ms (ratio a b) (M r)) (sym marked) a_ratio

  weight_written : (u : ℕ) (r : List ℕ) → u ≤ unit → Apart r → WeightSaid (M (weight_text u r)) (lowest u) (M r)
  unfolding weight_text
  weight_written u r h a = spell_written (lowest u) r (lowest_small u h) a

  -- ---- fixed runs of marks

  abbrev apart : {r : List ℕ} → begins is_digit r ≡ false → pointed r ≡ false → Apart r
  apart d p = record { no_digit = d; no_point = p }

  pub branch_line : (x : List ℕ) → LineWritten branch_run (1 ∷ []) (M (":(s1'=" ▸ x)) (M x)
  branch_line x = record { found = valued 1 _ ∷ []; said = fixed (fixed (a_seat (fixed (fixed ended)))); due = (refl, tt) }

  pub statement_line : (x : List ℕ) → LineWritten statement_run (1 ∷ []) (M ("[] s1=" ▸ x)) (M x)
  statement_line x = record { found = valued 1 _ ∷ []; said = fixed (fixed (a_seat (fixed ended))); due = (refl, tt) }

  pub set_line : (x : List ℕ) → LineWritten set_run [] (M (" & (g'=" ▸ x)) (M x)
  set_line x = record { found = []; said = fixed (fixed (fixed (fixed (fixed ended)))); due = tt }

  -- ---- what a branch sets

  record SetWritten (n : ℕ) (x : Option Range) (o : Option ℕ) (ms rest : Place) : Type 0 where
    found : Option Numbered
    said : SetSaid (is_some x) ms found rest
    means : value_or found ≡ o
    kept : Every (Kept n) (judged_set (most_in x) found)

  set_made : (n : ℕ) (y : Range) (v : ℕ) → v ≤ y.top → (a b : ℕ) (ms rest : Place) → LineWritten set_run [] ms (placed (number v) a ∷ sign_at ")" b ∷ rest) → SetWritten n (some y) (some v) ms rest
  set_made n y v h a b ms rest l = record {
    found = some (valued v (placed (number v) a ∷ sign_at ")" b ∷ rest));
    said = sets_to l.said;
    means = refl;
    kept = (rw (le-leb v y.top h), tt);
  }

  set_written : (n : ℕ) (x : Option Range) → values_in x < 10 ^ number_digits → (o : Option ℕ) (r : List ℕ) → ValidSet (values_in x) o → SetWritten n x o (M (set_last o r)) (M r)
  set_written n x small none r v = record { found = none; said = keeps; means = refl; kept = tt }
  set_written n none small (some v) r h = absurd (not-suc-le-zero h)
  set_written n (some y) small (some v) r h =
      let marked : M (num v (")" ▸ r)) ≡ placed (number v) (e - length (num v (")" ▸ r))) ∷ sign_at ")" (e - length (")" ▸ r)) ∷ M r
      = number_mark e v (")" ▸ r) (omega arith) (apart refl refl) in
      set_made n y v (le_of_suc-le-suc h) _ _ (M (set_last (some v) r)) (M r)
      (subst (λ (z : Place). LineWritten set_run [] (M (set_last (some v) r)) z) marked (set_line (num v (")" ▸ r))))

  -- ---- branches

  pub record BranchWritten (n k : ℕ) (x : Option Range) (b : Branch) (ms rest : Place) : Type 0 where
    pub found : BranchShape
    pub said : BranchSaid (is_some x) ms found rest
    pub means : branch_in found ≡ b
    pub kept : Every (Kept n) (judged_branch decimals k (most_in x) found)
    pub units : units_in found.weight ≡ b.units

  module _ (n k : ℕ) (x : Option Range) (small-k : k < 10 ^ number_digits) (small-x : values_in x < 10 ^ number_digits) where
    branch_made : (b : Branch) → ValidBranch k (values_in x) b → (a c : ℕ) (ms ns os rest : Place) → WeightSaid ms (lowest b.units) ns
        → LineWritten branch_run (1 ∷ []) ns (placed (number b.end) a ∷ sign_at ")" c ∷ os) → SetWritten n x b.sets os rest → BranchWritten n k x b ms rest
    branch_made b v a c ms ns os rest w l t = record {
      found = record { place = ms; weight = lowest b.units; words = l.found; end = valued b.end (placed (number b.end) a ∷ sign_at ")" c ∷ os); sets = t.found };
      said = branch w l.said t.said;
      means = ap₂ (λ (u : ℕ) (o : Option ℕ). record { units = u; end = b.end; sets = o }) (ap or_zero worth) t.means;
      kept = (weighs (allowed decimals (lowest b.units)) (units_of (lowest b.units)) (weight_refusal decimals (lowest b.units)) (lowest_allowed decimals b.units) worth, every_append (Kept n) (judged_words (1 ∷ []) l.found) _ (line_kept n (1 ∷ []) l.found l.due) (rw (le-leb b.end k v.end), t.kept));
      units = ap or_zero worth;
    }
      where
        worth : units_of (lowest b.units) ≡ some b.units
        worth = lowest_kept b.units v.units

        weighs : (a : Bool) (o : Option ℕ) (r : ℕ) → a ≡ true → o ≡ some b.units → unless (a && is_some o) r ≡ none
        weighs a o r g h = rw (g, h)

    pub branch_written : (b : Branch) (r : List ℕ) → ValidBranch k (values_in x) b → BranchWritten n k x b (M (branch_text b r)) (M r)
    branch_written b r v =
        let t = set_last b.sets r in
        let y = ":(s1'=" ▸ num b.end (")" ▸ t) in
        let ends : M (num b.end (")" ▸ t)) ≡ placed (number b.end) (e - length (num b.end (")" ▸ t))) ∷ sign_at ")" (e - length (")" ▸ t)) ∷ M t
        = number_mark e b.end (")" ▸ t) (omega (arith, v.end)) (apart refl refl) in
        branch_made b v _ _ (M (branch_text b r)) (M y) (M t) (M r) (weight_written b.units y v.units (apart refl refl))
        (subst (λ (z : Place). LineWritten branch_run (1 ∷ []) (M y) z) ends (branch_line (num b.end (")" ▸ t))))
        (set_written n x small-x b.sets r v.sets)

    -- all but the first, each behind its sign
    pub record BranchesWritten (bs : List Branch) (ms rest : Place) : Type 0 where
      pub found : List BranchShape
      pub said : ManySaid (PlusSaid (is_some x)) ms found rest
      pub means : map branch_in found ≡ bs
      pub kept : Every (Kept n) (judged_each (judged_branch decimals k (most_in x)) found)
      pub units : total_units (map weight_in found) ≡ total bs
      pub within : (i : ℕ) → i + length bs ≤ suc most_branches → Every Within (counted_many counted_plus i said)

    branches_made : (b : Branch) (bs : List Branch) (a : ℕ) (ms ns rest : Place) → BranchWritten n k x b ms ns → BranchesWritten bs ns rest → BranchesWritten (b ∷ bs) (sign_at "+" a ∷ ms) rest
    branches_made b bs a ms ns rest w u = record {
      found = w.found ∷ u.found;
      said = again (plus w.said) u.said;
      means = ap₂ ◌∷◌ w.means u.means;
      kept = every_append (Kept n) (judged_branch decimals k (most_in x) w.found) (judged_each (judged_branch decimals k (most_in x)) u.found) w.kept u.kept;
      units = ap₂ ◌+◌ w.units u.units;
      within = λ i h. (omega arith, u.within (suc i) (omega arith));
    }

    pub more_branches_written : (bs : List Branch) (r : List ℕ) → Every (ValidBranch k (values_in x)) bs → BranchesWritten bs (M (more branch_text bs r)) (M r)
    more_branches_written [] r v = record { found = []; said = done; means = refl; kept = tt; units = refl; within = λ i h. tt }
    more_branches_written (b ∷ bs) r v =
        branches_made b bs _ (M (branch_text b (more branch_text bs r))) (M (more branch_text bs r)) (M r) (branch_written b (more branch_text bs r) v.0) (more_branches_written bs r v.1)

  -- ---- statements

  module _ (n k : ℕ) (x : Option Range) (small_n : n < 10 ^ word_digits) (small-k : k < 10 ^ number_digits) (small-x : values_in x < 10 ^ number_digits) where
    record RestWritten (g : Option Guard) (ms rest : Place) : Type 0 where
      found : Option (Formula Tested)
      said : RestSaid (is_some x) ms found rest
      means : guard_in' n found ≡ g
      kept : Every (Kept n) (judged_or k (most_in x) found)
      within : Every Within (counted_rest said)

    rest_made : (g : Guard) (a : ℕ) (ms rest : Place) → size g ≤ most_nodes → depth middle g ≤ most_depth → GuardWritten n k x (joined_by all) (depth middle g) g ms rest → RestWritten (some g) (sign_at "&" a ∷ ms) rest
    rest_made g a ms rest h l w = record {
      found = some w.found;
      said = guarded w.said;
      means = ap some w.means;
      kept = w.kept;
      within = w.within 0 0 (omega arith) (omega arith);
    }

    rest_written : (g : Option Guard) (r : List ℕ) → ValidGuard n k (values_in x) g → RestWritten g (M (formula_or needed (group_text n) g r)) (M r)
    rest_written none r v = record { found = none; said = nothing; means = refl; kept = tt; within = tt }
    rest_written (some g) r v = rest_made g _ (M (guard_text n middle g r)) (M r) v.2 v.1 (guard_written e n k x small_n small-k small-x middle g r v.0)

    rest_apart : (g : Option Guard) (r : List ℕ) → Apart (formula_or needed (group_text n) g (" -> " ▸ r))
    rest_apart none r = apart refl refl
    rest_apart (some g) r = apart refl refl

    pub record StatementWritten (y : Statement) (ms rest : Place) : Type 0 where
      pub found : StatementShape
      pub said : StatementSaid (is_some x) ms found rest
      pub means : statement_in n found ≡ y
      pub kept : Every (Kept n) (judged_statement decimals k (most_in x) found)
      pub within : (i : ℕ) → i ≤ most_statements → Every Within (counted_statement ms rest found i said)

    statement_made : (j : ℕ) (g : Option Guard) (b : Branch) (bs : List Branch) (a p c : ℕ) (ms ns os qs rest : Place)
        → j ≤ k → length (b ∷ bs) ≤ most_branches → total (b ∷ bs) ≡ unit
        → LineWritten statement_run (1 ∷ []) ms (placed (number j) a ∷ ns)
        → RestWritten g ns (sign_at "->" p ∷ os)
        → BranchWritten n k x b os qs
        → BranchesWritten n k x small-k small-x bs qs (sign_at ";" c ∷ rest)
        → StatementWritten (record { own = j; guard = g; branches = b ∷ bs }) ms rest
    statement_made j g b bs a p c ms ns os qs rest h few sums l w d ds = record {
      found = record { words = l.found; own = valued j (placed (number j) a ∷ ns); guard = w.found; branches = d.found ∷ ds.found; close = sign_at ";" c ∷ rest };
      said = statement l.said w.said d.said ds.said;
      means = ap₂ (λ (y : Option Guard) (z : List Branch). record { own = j; guard = y; branches = z }) w.means (ap₂ ◌∷◌ d.means ds.means);
      kept = every_append (Kept n) (judged_words (1 ∷ []) l.found) _ (line_kept n (1 ∷ []) l.found l.due) (
        rw (le-leb j k h),
        every_append (Kept n) (judged_or k (most_in x) w.found) _ w.kept
            (every_append (Kept n) (judged_branch decimals k (most_in x) d.found ++ judged_each (judged_branch decimals k (most_in x)) ds.found) _
            (every_append (Kept n) (judged_branch decimals k (most_in x) d.found) (judged_each (judged_branch decimals k (most_in x)) ds.found) d.kept ds.kept)
            (sum_kept, tt)),
      );
      within = λ i m. (m, every_append Within (counted_rest w.said) _ w.within (omega (arith, few), ds.within 2 (omega arith)));
    }
      where
        sum_kept : unless (eqb (total_units (d.found.weight ∷ map weight_in ds.found)) unit) wrong_weight ≡ none
        sum_kept = rw (eq-eqb (total_units (d.found.weight ∷ map weight_in ds.found)) unit (ap₂ ◌+◌ d.units ds.units ∙ sums))

    text_of : (y : Statement) (r : List ℕ) → statement_text n y r ≡ ("[] s1=" ▸ num y.own (formula_or needed (group_text n) y.guard (" -> " ▸ summed branch_text y.branches (";\n" ▸ r))))
    unfolding statement_text
    text_of y r = refl

    parts_written : (j : ℕ) (g : Option Guard) (bs : List Branch) (r : List ℕ) → ValidStatement n k (values_in x) (record { own = j; guard = g; branches = bs })
        → StatementWritten (record { own = j; guard = g; branches = bs }) (M ("[] s1=" ▸ num j (formula_or needed (group_text n) g (" -> " ▸ summed branch_text bs (";\n" ▸ r))))) (M r)
    parts_written j g [] r v = absurd (omega (arith, v.some.0))
    parts_written j g (b ∷ bs) r v =
        let os = summed branch_text (b ∷ bs) (";\n" ▸ r) in
        let ns = formula_or needed (group_text n) g (" -> " ▸ os) in
        let own-mark : M (num j ns) ≡ placed (number j) (e - length (num j ns)) ∷ M ns = number_mark e j ns (omega (arith, v.own)) (rest_apart g os) in
        statement_made j g b bs _ _ _ (M ("[] s1=" ▸ num j ns)) (M ns) (M os) (M (more branch_text bs (";\n" ▸ r))) (M r) v.own v.some.1 v.sum
        (subst (λ (y : Place). LineWritten statement_run (1 ∷ []) (M ("[] s1=" ▸ num j ns)) y) own-mark (statement_line (num j ns)))
        (rest_written g (" -> " ▸ os) v.guard)
        (branch_written n k x small-k small-x b (more branch_text bs (";\n" ▸ r)) v.branches.0)
        (more_branches_written n k x small-k small-x bs (";\n" ▸ r) v.branches.1)

    pub statement_written : (y : Statement) (r : List ℕ) → ValidStatement n k (values_in x) y → StatementWritten y (M (statement_text n y r)) (M r)
    statement_written y r v = subst (λ (t : List ℕ). StatementWritten y (M t) (M r)) (sym (text_of y r)) (parts_written y.own y.guard y.branches r v)

    -- all but the first
    pub record StatementsWritten (xs : List Statement) (ms rest : Place) : Type 0 where
      pub found : List StatementShape
      pub said : ManySaid (StatementSaid (is_some x)) ms found rest
      pub means : map (statement_in n) found ≡ xs
      pub kept : Every (Kept n) (judged_each (judged_statement decimals k (most_in x)) found)
      pub within : (i : ℕ) → i + length xs ≤ suc most_statements → Every Within (counted_many counted_statement i said)

    statements_made : (y : Statement) (ys : List Statement) (ms ns rest : Place) → StatementWritten y ms ns → StatementsWritten ys ns rest → StatementsWritten (y ∷ ys) ms rest
    statements_made y ys ms ns rest w u = record {
      found = w.found ∷ u.found;
      said = again w.said u.said;
      means = ap₂ ◌∷◌ w.means u.means;
      kept = every_append (Kept n) (judged_statement decimals k (most_in x) w.found) (judged_each (judged_statement decimals k (most_in x)) u.found) w.kept u.kept;
      within = λ i h. every_append Within (counted_statement ms ns w.found i w.said) (counted_many counted_statement (suc i) u.said) (w.within i (omega arith)) (u.within (suc i) (omega arith));
    }

    pub statements_written : (xs : List Statement) (r : List ℕ) → Every (ValidStatement n k (values_in x)) xs → StatementsWritten xs (M (statements n xs r)) (M r)
    statements_written [] r v = record { found = []; said = done; means = refl; kept = tt; within = λ i h. tt }
    statements_written (y ∷ ys) r v =
        statements_made y ys (M (statement_text n y (statements n ys r))) (M (statements n ys r)) (M r) (statement_written y (statements n ys r) v.0) (statements_written ys r v.1)
