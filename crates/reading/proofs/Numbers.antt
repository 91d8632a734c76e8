-- A card is refused with a number of document 01's first seven, or 17 where the rule of a weight takes no decimals: each reader of the shape
-- stops with one of them, and each judgement is broken with one of them. One line for each line of a reader. Assumes nothing.
use Prim.Native.Nat.{ℕ, zero, suc, ◌-◌, ◌≤◌}
use Prim.Native.String.{String}
use mathlib.Core.Path.{◌≡◌, refl, subst}
use mathlib.Core.Bool.{Bool, true, false, ◌&&◌}
use mathlib.Core.Logic.{inl, inr}
use mathlib.Core.List.{List, [], ◌∷◌, ◌++◌, map}
use mathlib.Core.Option.{Option, none, some}
use native.Mathlib.Omega.{arith}
use lib.Dec.{eqb, leb}
use lib.ListN.{length}
use Rattle.card.specs.Limits.{card_bytes, most_seats, top_state, top_shared, most_statements, most_branches, most_nodes, most_depth, unit}
use Rattle.card.specs.Refusals.{too_long, outside_rules, past_limit, above_top, not_due, wrong_weight, decimal_weight}
use Rattle.card.specs.Text.{when◌then◌else◌}
use Rattle.card.specs.Card.{Mode, any, all, Formula, atom, neg, and, or, Card}
use Rattle.card.specs.Weight.{Weight, whole, decimal as point, ratio, units_of, Rule, allowed, weight_refusal}
use Rattle.card.specs.Valid.{Every}
use Rattle.marks_on_a_card.specs.Marks.{Mark, Placed, placed, marks_of}
use Rattle.reading.specs.Reader.{Place, State, at, Result, ok, stop, Reader, bind, ◌>>=◌, ◌>>◌, return, refuse, refuse_at, took, the, next_is, if_next, sign, number_of, here, Numbered, numbered, spend, node_at, node, Item, exactly, seat_word, process_word, line}
use Rattle.reading.specs.Guard.{is_some, test_next, if_ahead, Read, chain, conjunction, expression, grouped, unary}
use Rattle.reading.specs.Group.{joint, literal, others, group, Literal, shared_test, Tested, of_seats, of_shared, tested}
use Rattle.reading.specs.Judgements.{Judgement, sum, place_in, symmetric, total_units, unless, broken, Verdict, fine, wrong, or_else, first_broken, first_state, judged_test, judged_guard}
use Rattle.reading.specs.Shape.{BranchShape, StatementShape, Range, mode_of, zero_of, many, weight_of, over, weight, sets, branch, past_branches, guard, may_have, statement, copy, top, range, declaration, ended, the_end, CardShape, modules, body, card}
use Rattle.reading.specs.Checks.{judged_state, judged_words, judged_set, judged_branch, judged_each, judged_or, weight_in, judged_statement, module_dues, judged_modules, judged_shared, most_in, judged_card, seats_in, card_in}
use Rattle.reading.specs.Reading.{Outcome, taken, refused, first_outside, judged, shaped, marked, read_under, Refuses}

-- ---- readers

abbrev Small : {A : Type 0} → Result A → Type 0
Small (ok a s) = Unit {0}
Small (stop r p) = r ≤ wrong_weight

record Modest {A : Type 0} (p : Reader A) : Type 0 where
  stops : (s : State) → Small (p s)

module _ {A B : Type 0} where
  small_bind : (x : Result A) (f : A → Reader B) → Small x → ((a : A) → Modest (f a)) → Small (bind x f)
  small_bind (ok a s) f h m = (m a).stops s
  small_bind (stop r p) f h m = h

  then_each : {p : Reader A} {f : A → Reader B} → Modest p → ((a : A) → Modest (f a)) → Modest (p >>= f)
  then_each {p} {f} h m = record { stops = λ s. small_bind (p s) f (h.stops s) m }

  then_one : {p : Reader A} {q : Reader B} → Modest p → Modest q → Modest (p >> q)
  then_one {p} {q} h m = record { stops = λ s. small_bind (p s) (λ _. q) (h.stops s) (λ a. m) }

module _ {A : Type 0} where
  returns : (a : A) → Modest (return a)
  returns a = record { stops = λ s. tt }

  refuses : (r : ℕ) → r ≤ wrong_weight → Modest {A = A} (refuse r)
  refuses r h = record { stops = λ s. h }

  refuses_at : (r : ℕ) (p : Place) → r ≤ wrong_weight → Modest {A = A} (refuse_at r p)
  refuses_at r p h = record { stops = λ s. h }

  takes : (f : Mark → Option A) → Modest (the f)
  takes f = record { stops = λ s. go s.marks s.nodes }
    where
      one : (o : Option A) (m : Placed) (ms : Place) (n : ℕ) → Small (took o m ms n)
      one none m ms n = omega arith
      one (some a) m ms n = tt

      go : (ms : Place) (n : ℕ) → Small (the f (at ms n))
      go [] n = omega arith
      go (placed m p ∷ ms) n = one (f m) (placed m p) ms n

  either : {p q : Reader A} (b : Bool) (s : State) → Modest p → Modest q → Small ((when b then p else q) s)
  either true s h m = h.stops s
  either false s h m = m.stops s

  if_next_law : (t : String) {p q : Reader A} → Modest p → Modest q → Modest (if_next t p q)
  if_next_law t {p} {q} h m = record { stops = λ s. either (next_is t s.marks) s h m }

  if_ahead_law : (starts : Place → Bool) {p q : Reader A} → Modest p → Modest q → Modest (if_ahead starts p q)
  if_ahead_law starts {p} {q} h m = record { stops = λ s. either (starts s.marks) s h m }

signs : (t : String) → Modest (sign t)
signs t = takes _

places : Modest here
places = record { stops = λ s. tt }

numbers : (f : Mark → Option ℕ) → Modest (numbered f)
numbers f = then_each places (λ p. then_each (takes f) (λ v. returns _))

small_spend : (p ms : Place) (n : ℕ) → Small (spend p ms n)
small_spend p ms zero = omega arith
small_spend p ms (suc n) = tt

nodes_at : (p : Place) → Modest (node_at p)
nodes_at p = record { stops = λ s. small_spend p s.marks s.nodes }

nodes : Modest node
nodes = record { stops = λ s. small_spend s.marks s.marks s.nodes }

lines : (items : List Item) → Modest (line items)
lines [] = returns _
lines (exactly t ∷ items) = then_one (signs t) (lines items)
lines (seat_word ∷ items) = then_each (numbers _) (λ w. then_each (lines items) (λ ws. returns _))
lines (process_word ∷ items) = then_each (numbers _) (λ w. then_each (lines items) (λ ws. returns _))

-- ---- guards

module _ {A : Type 0} where
  chains : (t : String) (join : Formula A → Formula A → Formula A) {operand : Read A} → Modest operand → (most : ℕ) (g : Formula A)
      → Modest (chain t join operand most g)
  chains t join o zero g = if_next_law _ (refuses past_limit (omega arith)) (returns g)
  chains t join o (suc most) g =
      if_next_law _ (then_one nodes (then_one (signs t) (then_each o (λ h. chains t join o most (join g h))))) (returns g)

  conjunctions : {p : Read A} → Modest p → Modest (conjunction p)
  conjunctions h = then_each h (λ g. chains "&" and h most_nodes g)

  expressions : {p : Read A} → Modest p → Modest (expression p)
  expressions h = then_each (conjunctions h) (λ g. chains "|" or (conjunctions h) most_nodes g)

  module _ (one : Place → Reader A) (m : (p : Place) → Modest (one p)) where
    groups : (p : Place) → Modest (grouped one p)
    groups p = then_one (nodes_at p) (then_each (m p) (λ a. returns _))

    unaries : (shared : Bool) (depth : ℕ) → Modest (unary shared one depth)
    unaries shared zero =
        if_next_law "!" (refuses past_limit (omega arith))
        (then_each places (λ p. then_one (signs "(") (if_ahead_law (test_next shared) (groups p) (refuses_at past_limit p (omega arith)))))
    unaries shared (suc depth) =
        if_next_law "!" (then_one nodes (then_one (signs "!") (then_each (unaries shared depth) (λ g. returns _))))
        (then_each places (λ p. then_one (signs "(")
        (if_ahead_law (test_next shared) (groups p) (then_each (expressions (unaries shared depth)) (λ g. then_one (signs ")") (returns g))))))

literals : Modest literal
literals = then_each (takes _) (λ i. then_each (takes _) (λ q. then_each places (λ p. then_each (takes _) (λ d. returns _))))

more_literals : (t : String) (most : ℕ) → Modest (others t most)
more_literals t zero = if_next_law _ (refuses past_limit (omega arith)) (then_one (signs ")") (returns _))
more_literals t (suc most) =
    if_next_law _ (then_one (signs t) (then_each literals (λ l. then_each (more_literals t most) (λ ls. returns _)))) (then_one (signs ")") (returns _))

whole_groups : (p : Place) → Modest (group p)
whole_groups p =
    then_each literals (λ l. then_each places (λ rest. then_each (if_next_law (joint any) (returns any) (returns all))
    (λ s. then_each (more_literals (joint s) (length rest)) (λ ls. returns _))))

shared_tests : Modest shared_test
shared_tests = then_one (signs "g") (then_each (takes _) (λ q. then_each (numbers _) (λ v. then_one (signs ")") (returns _))))

tests : (p : Place) → Modest (tested p)
tests p = if_next_law "g" (then_each shared_tests (λ x. returns _)) (then_each (whole_groups p) (λ x. returns _))

-- ---- the card

counts : {A : Type 0} (most : ℕ) (t : String) {one : Reader A} {past : Reader (List A)} → Modest one → Modest past → Modest (many most t one past)
counts zero t o p = if_next_law _ p (returns [])
counts (suc most) t o p = if_next_law _ (then_each o (λ x. then_each (counts most t o p) (λ xs. returns _))) (returns [])

overs : (w : Weight) → Modest (over w)
overs (whole a) = if_next_law "/" (then_one (signs "/") (then_each (takes number_of) (λ b. returns _))) (returns _)
overs (point v n f) = returns _
overs (ratio a b) = returns _

weights : Modest weight
weights = then_each (takes weight_of) (λ w. overs w)

settings : (shared : Bool) → Modest (sets shared)
settings false = returns none
settings true =
    if_next_law "&" (then_each (lines (exactly "&" ∷ exactly "(" ∷ exactly "g" ∷ exactly "'" ∷ exactly "=" ∷ [])) (λ ws.
    then_each (numbers number_of) (λ v. then_one (signs ")") (returns (some v))))) (returns none)

branches : (shared : Bool) → Modest (branch shared)
branches shared =
    then_each places (λ p. then_each weights (λ w. then_each (lines (exactly ":" ∷ exactly "(" ∷ seat_word ∷ exactly "'" ∷ exactly "=" ∷ []))
    (λ ws. then_each (numbers number_of) (λ t. then_one (signs ")") (then_each (settings shared) (λ v.
    returns (record { place = p; weight = w; words = ws; end = t; sets = v })))))))

past_branches_law : Modest past_branches
past_branches_law = then_one (signs "+") (then_each places (λ p. then_each (takes weight_of) (λ w. refuses_at past_limit p (omega arith))))

guards : (shared : Bool) → Modest (guard shared)
unfolding guard
guards shared = if_next_law "&" (then_one (signs "&") (then_each (conjunctions (unaries tested tests shared most_depth)) (λ g. returns _))) (returns none)

may_have_law : (n : ℕ) → Modest (may_have n)
may_have_law n = record { stops = λ s. tt }

statements : (shared : Bool) → Modest (statement shared)
statements shared =
    then_each (lines (exactly "[" ∷ exactly "]" ∷ seat_word ∷ exactly "=" ∷ [])) (λ ws. then_each (numbers number_of) (λ j.
    then_one (may_have_law most_nodes) (then_each (guards shared) (λ g. then_one (signs "->") (then_each (branches shared) (λ b.
    then_each (counts (most_branches - 1) "+" (then_one (signs "+") (branches shared)) past_branches_law) (λ bs.
    then_each places (λ p. then_one (signs ";") (returns (record { words = ws; own = j; guard = g; branches = b ∷ bs; close = p }))))))))))

copies : Modest copy
copies =
    lines
    (exactly "module" ∷ process_word ∷ exactly "=" ∷ process_word
    ∷ exactly "[" ∷ seat_word ∷ exactly "=" ∷ seat_word ∷ exactly "," ∷ seat_word ∷ exactly "=" ∷ seat_word ∷ exactly "]"
    ∷ exactly "endmodule" ∷ [])

tops : (most : ℕ) → Modest (top most)
tops most = then_each places (λ p. then_each (takes _) (λ k. record { stops = λ s. either (leb k most) s (returns k) (refuses_at past_limit p (omega arith)) }))

ranges : (most : ℕ) → Modest (range most)
ranges most =
    then_each (takes zero_of) (λ z. then_one (signs "..") (then_each (tops most) (λ k. then_one (signs "]") (then_one (signs "init")
    (then_each (numbers number_of) (λ l. then_one (signs ";") (returns (record { top = k; start = l }))))))))

declarations : Modest declaration
declarations = then_each (lines (exactly "global" ∷ exactly "g" ∷ exactly ":" ∷ exactly "[" ∷ [])) (λ ws. ranges top_shared)

ends : Modest the_end
ends = record { stops = λ s. go s.marks s.nodes }
  where
    go : (ms : Place) (n : ℕ) → Small (ended ms n)
    go [] n = tt
    go (m ∷ ms) n = omega arith

all_modules : (mode : Mode) (g : Option Range) → Modest (modules mode g)
all_modules mode g =
    then_each (lines (exactly "module" ∷ process_word ∷ seat_word ∷ exactly ":" ∷ exactly "[" ∷ [])) (λ ws. then_each (ranges top_state) (λ r.
    then_each (statements (is_some g)) (λ x. then_each (counts (most_statements - 1) "[" (statements (is_some g)) (refuses past_limit (omega arith))) (λ xs.
    then_one (signs "endmodule") (then_each (counts (most_seats - 1) "module" copies (refuses past_limit (omega arith))) (λ ms.
    returns (record { mode = mode; shared = g; words = ws; k = r.top; l = r.start; statements = x ∷ xs; modules = ms })))))))

bodies : Modest body
bodies = then_each (takes mode_of) (λ mode. if_next_law "global" (then_each declarations (λ g. all_modules mode (some g))) (all_modules mode none))

cards : Modest card
cards = then_each bodies (λ c. then_one ends (returns c))

-- ---- judgements, by a rule of a weight

module _ (decimals : Rule) where
  abbrev SmallOr : Option ℕ → Type 0
  SmallOr none = Unit {0}
  SmallOr (some r) = Refuses decimals r

  abbrev SmallBroken : Judgement → Type 0
  SmallBroken j = (n : ℕ) → SmallOr (broken n j)

  small_unless : (b : Bool) (r : ℕ) → Refuses decimals r → SmallOr (unless b r)
  small_unless true r h = tt
  small_unless false r h = h

  seven : (r : ℕ) → r ≤ wrong_weight → Refuses decimals r
  seven r h = go decimals
    where
      go : (b : Bool) → Refuses b r
      go true = h
      go false = inl h

  small_weight : (w : Weight) → Refuses decimals (weight_refusal decimals w)
  small_weight (whole v) = seven wrong_weight (omega arith)
  small_weight (point v n f) = go decimals
    where
      go : (b : Bool) → Refuses b (when b then wrong_weight else decimal_weight)
      go true = omega arith
      go false = inr refl
  small_weight (ratio a b) = seven wrong_weight (omega arith)

  every_join : (xs ys : List Judgement) → Every SmallBroken xs → Every SmallBroken ys → Every SmallBroken (xs ++ ys)
  every_join [] ys h k = k
  every_join (x ∷ xs) ys h k = (h.0, every_join xs ys h.1 k)

  small_state : (k : ℕ) (x : Numbered) → SmallBroken (judged_state k x)
  small_state k x n = small_unless (leb x.value k) above_top (seven above_top (omega arith))

  small_words : (dues : List ℕ) (ws : List Numbered) → Every SmallBroken (judged_words dues ws)
  small_words [] [] = tt
  small_words [] (w ∷ ws) = ((λ n. small_unless (eqb w.value (suc w.value)) not_due (seven not_due (omega arith))), small_words [] ws)
  small_words (due ∷ dues) [] = tt
  small_words (due ∷ dues) (w ∷ ws) = ((λ n. small_unless (eqb w.value due) not_due (seven not_due (omega arith))), small_words dues ws)

  small_first_state : (k : ℕ) (ls : List Literal) → Every SmallBroken (first_state k ls)
  small_first_state k [] = tt
  small_first_state k (l ∷ ls) = ((λ n. small_unless (leb l.d k) above_top (seven above_top (omega arith))), tt)

  small_test : (k m : ℕ) (x : Tested) → Every SmallBroken (judged_test k m x)
  small_test k m (of_seats g) = ((λ n. small_unless (symmetric n g.literals) not_due (seven not_due (omega arith))), small_first_state k g.literals)
  small_test k m (of_shared x) = (small_state m x.value, tt)

  small_guard : (k m : ℕ) (g : Formula Tested) → Every SmallBroken (judged_guard k m g)
  small_guard k m (atom x) = small_test k m x
  small_guard k m (neg g) = small_guard k m g
  small_guard k m (and g h) = every_join (judged_guard k m g) (judged_guard k m h) (small_guard k m g) (small_guard k m h)
  small_guard k m (or g h) = every_join (judged_guard k m g) (judged_guard k m h) (small_guard k m g) (small_guard k m h)

  small_or : (k m : ℕ) (o : Option (Formula Tested)) → Every SmallBroken (judged_or k m o)
  small_or k m none = tt
  small_or k m (some g) = small_guard k m g

  small_each : {A : Type 0} (f : A → List Judgement) → ((x : A) → Every SmallBroken (f x)) → (xs : List A) → Every SmallBroken (judged_each f xs)
  small_each f h [] = tt
  small_each f h (x ∷ xs) = every_join (f x) (judged_each f xs) (h x) (small_each f h xs)

  small_set : (m : ℕ) (o : Option Numbered) → Every SmallBroken (judged_set m o)
  small_set m none = tt
  small_set m (some v) = (small_state m v, tt)

  small_branch : (k m : ℕ) (b : BranchShape) → Every SmallBroken (judged_branch decimals k m b)
  small_branch k m b = (
    (λ n. small_unless (allowed decimals b.weight && is_some (units_of b.weight)) (weight_refusal decimals b.weight) (small_weight b.weight)),
    every_join (judged_words (1 ∷ []) b.words) (judged_state k b.end ∷ judged_set m b.sets) (small_words (1 ∷ []) b.words) (small_state k b.end, small_set m b.sets),
  )

  small_statement : (k m : ℕ) (x : StatementShape) → Every SmallBroken (judged_statement decimals k m x)
  small_statement k m x =
      let total : List Judgement = sum (map weight_in x.branches) x.close ∷ [] in
      let moves = judged_each (judged_branch decimals k m) x.branches in
      every_join (judged_words (1 ∷ []) x.words) _ (small_words (1 ∷ []) x.words) (
        small_state k x.own,
        every_join (judged_or k m x.guard) (moves ++ total) (small_or k m x.guard)
            (every_join moves total (small_each (judged_branch decimals k m) (small_branch k m) x.branches)
            ((λ n. small_unless (eqb (total_units (map weight_in x.branches)) unit) wrong_weight (seven wrong_weight (omega arith))), tt)),
      )

  small_modules : (i : ℕ) (ms : List (List Numbered)) → Every SmallBroken (judged_modules i ms)
  small_modules i [] = tt
  small_modules i (m ∷ ms) = every_join (judged_words (module_dues i) m) (judged_modules (suc i) ms) (small_words (module_dues i) m) (small_modules (suc i) ms)

  small_shared : (g : Option Range) → Every SmallBroken (judged_shared g)
  small_shared none = tt
  small_shared (some r) = (small_state r.top r.start, tt)

  small_card : (c : CardShape) → Every SmallBroken (judged_card decimals c)
  small_card c =
      let m = most_in c.shared in
      every_join (judged_shared c.shared) _ (small_shared c.shared)
      (every_join (judged_words (1 ∷ 1 ∷ []) c.words) _ (small_words (1 ∷ 1 ∷ []) c.words) (
        small_state c.k c.l,
        every_join (judged_each (judged_statement decimals c.k m) c.statements) (judged_modules 2 c.modules)
            (small_each (judged_statement decimals c.k m) (small_statement c.k m) c.statements) (small_modules 2 c.modules),
      ))

  abbrev SmallVerdict : Verdict → Type 0
  SmallVerdict fine = Unit {0}
  SmallVerdict (wrong r p) = Refuses decimals r

  small_else : (o : Option ℕ) (p : Place) (v : Verdict) → SmallOr o → SmallVerdict v → SmallVerdict (or_else o p v)
  small_else none p v h k = k
  small_else (some r) p v h k = h

  small_first : (n : ℕ) (js : List Judgement) → Every SmallBroken js → SmallVerdict (first_broken n js)
  small_first n [] h = tt
  small_first n (j ∷ js) h = small_else (broken n j) (place_in j) (first_broken n js) (h.0 n) (small_first n js h.1)

  -- ---- reading

  abbrev SmallOutcome : Outcome → Type 0
  SmallOutcome (taken c) = Unit {0}
  SmallOutcome (refused r p) = Refuses decimals r

  small_judged : (e : ℕ) (c : Card) (v : Verdict) → SmallVerdict v → SmallOutcome (judged e c v)
  small_judged e c fine h = tt
  small_judged e c (wrong r p) h = h

  small_shaped : (e : ℕ) (x : Result CardShape) → Small x → SmallOutcome (shaped decimals e x)
  small_shaped e (ok c s) h = small_judged e (card_in c) (first_broken (seats_in c) (judged_card decimals c)) (small_first (seats_in c) (judged_card decimals c) (small_card c))
  small_shaped e (stop r p) h = seven r h

  small_marked : (e : ℕ) (ms : List Placed) (o : Option ℕ) → SmallOutcome (marked decimals e ms o)
  small_marked e ms none = small_shaped e (card (at ms zero)) (cards.stops (at ms zero))
  small_marked e ms (some p) = seven outside_rules (omega arith)

  small_read : (s : List ℕ) → SmallOutcome (read_under decimals s)
  unfolding read_under
  small_read s = go (leb (length s) card_bytes)
    where
      go : (b : Bool) → SmallOutcome (when b then marked decimals (length s) (marks_of s) (first_outside (marks_of s)) else refused too_long 0)
      go true = small_marked (length s) (marks_of s) (first_outside (marks_of s))
      go false = seven too_long (omega arith)

  pub read_number : (s : List ℕ) {r p : ℕ} → read_under decimals s ≡ refused r p → Refuses decimals r
  read_number s e = subst SmallOutcome e (small_read s)
