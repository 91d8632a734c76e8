-- Each reader of the shape is steady, and its language is the grammar's. One line for each line of a reader. Assumes nothing.
use Prim.Native.Nat.{ℕ, zero, suc, ◌+◌, ◌-◌, ◌≤◌}
use Prim.Native.String.{String}
use mathlib.Core.Path.{◌≡◌, refl, sym, ap, ◌∙◌, subst}
use mathlib.Core.Logic.{◌⊎◌, inl, inr}
use mathlib.Core.Bool.{Bool, true, false, false≢true}
use mathlib.Core.List.{List, [], ◌∷◌, ◌++◌, append_cancel_right, head?, tail-eq_of_cons-eq}
use mathlib.Core.Option.{Option, none, some}
use native.Mathlib.Omega.{arith}
use lib.Dec.{eqb, leb}
use borrow.Author.Tests.{eqb-true}
use lib.ListN.{length, length-append}
use Rattle.card.specs.Limits.{most_seats, top_state, top_shared, most_statements, most_branches, most_nodes, most_depth}
use Rattle.card.specs.Refusals.{out_of_shape, past_limit}
use Rattle.card.specs.Text.{bytes, when◌then◌else◌}
use Rattle.card.specs.Card.{Mode, nondeterministic, probabilistic, Sign, all, any, Relation, is as eq, isnt as ne, Formula, atom, neg, and, or}
use Rattle.card.specs.Weight.{Weight, whole, decimal as point, ratio}
use Rattle.marks_on_a_card.specs.Marks.{Mark, text, seat, process, number, decimal, outside, Placed, placed}
use Rattle.reading.specs.Reader.{Place, State, at, Result, ok, stop, Reader, bind, ◌>>=◌, return, refuse, refuse_at, the, is, next_is, if_next, given, sign, seat_of, process_of, number_of, here, numbered, Item, exactly, seat_word, process_word, line}
use Rattle.reading.specs.Guard.{is_some, seat_next, test_next, if_ahead, Read, unary_by, chain, conjunction, expression, grouped as read_grouped, unary as read_unary}
use Rattle.reading.specs.Group.{joint, relation, Literal, literal_of, Literals, literals_of, relation_of, literal as read_literal, joined, others, group, of_seats, of_shared, shared_test as read_shared_test, tested}
use Rattle.reading.specs.Shape.{BranchShape, Range, CardShape, many, weight_of, over, weight, sets as read_sets, branch as read_branch, next_branch, past_branches, more_branches, guard, may_have, statement as read_statement, more_statements, copy, more_modules, mode_of, only_zero, zero_of, top, range as read_range, declaration, ended as read_end, the_end, modules, body, card as read_card}
use Rattle.grammar.specs.Grammar.{Said, sign_at, valued, LineSaid, ended, fixed, a_seat, a_process, shared_run, card_run, statement_run, branch_run, set_run, module_run, ManySaid, done, again, LiteralSaid, literal, JoinedSaid, OthersSaid, close, next, GroupSaid, conjoined, disjoined, SharedTestSaid, shared_test, TestedSaid, test_seats, test_shared, Part, unary, joined_by, operand, joining, FormulaSaid, Anything, grouped, negated, bracketed, single, further}
use Rattle.grammar.specs.Grammar.{RestSaid, nothing, guarded, WeightSaid, a_number, a_ratio, a_decimal, SetSaid, keeps, sets_to, BranchSaid, branch, PlusSaid, plus, StatementSaid, statement, mode_word, RangeSaid, range, SharedSaid, unshared, sharing, CardSaid, card}
use Rattle.grammar.specs.Verdicts.{CompletableIn, shares}
use Rattle.grammar.proofs.Follows.{and_false, guard_no_test}
use Rattle.reading.proofs.Through.{same_refl, none≢some, is→eq, given_true, stop≢ok, ok_state, through, chose, the_took, sign_took}
use Rattle.grammar.proofs.Steady.{Lang, Nil, ◌then◌, ◌either◌, One, Mark₁, OneThen, Saying, Word, SameHead, SameBracket, Alike, head_append, seat_head, test_head, free, Passed, Cause, unfit, excess, Stopped, Steady, Always, Next, At, Refused, Behind, ok≢stop, stop_number, stop_place, the_stopped, stopped, chose_stop}
use Rattle.grammar.proofs.Steady.{cause_as, steady_as, steady_on, steady_free, steady_into, steady_bind, steady_the, steady_sign, steady_return, steady_here, steady_next, steady_taken, steady_left, steady_limit, steady_node, steady_behind, behind_steady, steady_silent, steady_last, steady_like}

-- ---- what a mark is that fits

seat→eq : (m : Mark) (i : ℕ) → seat_of m ≡ some i → m ≡ seat i
seat→eq (text s) i e = none≢some e
seat→eq (seat j) i e = cc
seat→eq (process j) i e = none≢some e
seat→eq (number v) i e = none≢some e
seat→eq (decimal v n f) i e = none≢some e
seat→eq outside i e = none≢some e

process→eq : (m : Mark) (i : ℕ) → process_of m ≡ some i → m ≡ process i
process→eq (text s) i e = none≢some e
process→eq (seat j) i e = none≢some e
process→eq (process j) i e = cc
process→eq (number v) i e = none≢some e
process→eq (decimal v n f) i e = none≢some e
process→eq outside i e = none≢some e

number→eq : (m : Mark) (i : ℕ) → number_of m ≡ some i → m ≡ number i
number→eq (text s) i e = none≢some e
number→eq (seat j) i e = none≢some e
number→eq (process j) i e = none≢some e
number→eq (number v) i e = cc
number→eq (decimal v n f) i e = none≢some e
number→eq outside i e = none≢some e

relation→eq : (m : Mark) (q : Relation) → relation_of m ≡ some q → m ≡ text (bytes (relation q))
relation→eq m q e = go (is "=" m) (is "!=" m) refl refl e
  where
    go : (a b : Bool) → is "=" m ≡ a → is "!=" m ≡ b → (when a then some eq else (when b then some ne else none)) ≡ some q → m ≡ text (bytes (relation q))
    go true b p _ e = let z : eq ≡ q = cc in rw (← z) (is→eq "=" m p)
    go false true _ p e = let z : ne ≡ q = cc in rw (← z) (is→eq "!=" m p)
    go false false _ _ e = none≢some e

mode→eq : (m : Mark) (d : Mode) → mode_of m ≡ some d → m ≡ text (bytes (mode_word d))
mode→eq m d e = go (is "nondeterministic" m) (is "probabilistic" m) refl refl e
  where
    go : (a b : Bool) → is "nondeterministic" m ≡ a → is "probabilistic" m ≡ b
        → (when a then some nondeterministic else (when b then some probabilistic else none)) ≡ some d → m ≡ text (bytes (mode_word d))
    go true b p _ e = let z : nondeterministic ≡ d = cc in rw (← z) (is→eq "nondeterministic" m p)
    go false true _ p e = let z : probabilistic ≡ d = cc in rw (← z) (is→eq "probabilistic" m p)
    go false false _ _ e = none≢some e

-- one mark of a kind, as it stands in the grammar
pub one_seat : (ms r : Place) → One seat_of ms r → (i p : ℕ) × (ms ≡ placed (seat i) p ∷ r)
one_seat ms r (m, p, i, e, s) = (i, p, e ∙ ap (λ x. placed x p ∷ r) (seat→eq m i s))

one_process : (ms r : Place) → One process_of ms r → (i p : ℕ) × (ms ≡ placed (process i) p ∷ r)
one_process ms r (m, p, i, e, s) = (i, p, e ∙ ap (λ x. placed x p ∷ r) (process→eq m i s))

one_number : (ms r : Place) → One number_of ms r → (i p : ℕ) × (ms ≡ placed (number i) p ∷ r)
one_number ms r (m, p, i, e, s) = (i, p, e ∙ ap (λ x. placed x p ∷ r) (number→eq m i s))

pub one_sign : (t : String) (ms r : Place) → Mark₁ t ms r → (p : ℕ) × (ms ≡ sign_at t p ∷ r)
one_sign t ms r (m, p, u, e, s) = (p, e ∙ ap (λ x. placed x p ∷ r) (is→eq t m (given_true (is t m) u s)))

pub a_sign : (t : String) (p : ℕ) (r : Place) → Mark₁ t (sign_at t p ∷ r) r
a_sign t p r = (text (bytes t), p, tt, refl, rw (same_refl (bytes t)))

line_fixed : (t : String) (items : List Item) (ms r : Place) → (Mark₁ t then Saying (LineSaid items)) ms r → Saying (LineSaid (exactly t ∷ items)) ms r
line_fixed t items ms r (q, m, (ws, d)) = let (p, e) = one_sign t ms q m in rw e (ws, fixed d)

line_seat : (items : List Item) (ms r : Place) → (One seat_of then Saying (LineSaid items)) ms r → Saying (LineSaid (seat_word ∷ items)) ms r
line_seat items ms r (q, m, (ws, d)) = let (i, p, e) = one_seat ms q m in rw e (_, a_seat d)

line_process : (items : List Item) (ms r : Place) → (One process_of then Saying (LineSaid items)) ms r → Saying (LineSaid (process_word ∷ items)) ms r
line_process items ms r (q, m, (ws, d)) = let (i, p, e) = one_process ms q m in rw e (_, a_process d)

literal_said : (ms r : Place) → (One seat_of then One relation_of then One number_of) ms r → Saying LiteralSaid ms r
literal_said ms r (q, s, (q₁, (m, p, k, e, i), n)) =
    let (a, b, z) = one_seat ms q s in
    let (d, c, y) = one_number q₁ r n in
    let w : ms ≡ placed (seat a) b ∷ sign_at (relation k) p ∷ placed (number d) c ∷ r = cc (relation→eq m k i) in
    rw w (_, literal {i = a} {d = d} {a = b} {b = p} {c = c} {q = k} {r = r})

module _ {Look : Type 0} {look : Place → Look} where
  -- ---- runs

  seat_t : Steady look Always free (One seat_of) (the seat_of) (the seat_of)
  seat_t = steady_free (steady_the seat_of (seat 1) 1 refl)

  process_t : Steady look Always free (One process_of) (the process_of) (the process_of)
  process_t = steady_free (steady_the process_of (process 1) 1 refl)

  number_t : Steady look Always free (One number_of) (the number_of) (the number_of)
  number_t = steady_free (steady_the number_of (number 0) 0 refl)

  numbered_t : {f : Mark → Option ℕ} → Steady look Always free (One f) (the f) (the f) → Steady look Always free (One f) (numbered f) (numbered f)
  numbered_t x = steady_silent steady_here λ p p₁ _. steady_last x λ v v₁ _. steady_return (valued v p) (valued v₁ p₁)

  line_t : (items : List Item) → Steady look Always free (Saying (LineSaid items)) (line items) (line items)
  line_t [] = steady_as (λ ms r e. rw e ([], ended)) (steady_return [] [])
  line_t (exactly t ∷ items) = steady_as (line_fixed t items) (steady_bind (steady_sign t) λ _ _ _. line_t items)
  line_t (seat_word ∷ items) = steady_as (line_seat items) (steady_bind (numbered_t seat_t) λ w w₁ _. steady_last (line_t items) λ ws ws₁ _. steady_return (w ∷ ws) (w₁ ∷ ws₁))
  line_t (process_word ∷ items) = steady_as (line_process items) (steady_bind (numbered_t process_t) λ w w₁ _. steady_last (line_t items) λ ws ws₁ _. steady_return (w ∷ ws) (w₁ ∷ ws₁))

  -- ---- groups

  pub literal_t : Steady look Always free (Saying LiteralSaid) read_literal read_literal
  literal_t = steady_as literal_said
      (steady_bind seat_t λ i i₁ _. steady_bind (steady_free (steady_the relation_of (text (bytes "=")) eq refl)) λ q q₁ _. steady_silent steady_here λ p p₁ _.
      steady_last number_t λ d d₁ _. steady_return (literal_of i q d p) (literal_of i₁ q₁ d₁ p₁))

-- ---- things of one kind, joined by a sign and closed by a bracket, over a steady reader of one

module _ {A : Type 0} (S : Said A) where
  abbrev MoreL : Sign → Lang
  MoreL s = Mark₁ (joint s) then Saying S then Saying (JoinedSaid S s)

  joined_items : (s : Sign) (ms r : Place) → (MoreL s either Mark₁ ")") ms r → Saying (JoinedSaid S s) ms r
  joined_items s ms r (inl (q, m, (q₁, (l, d), (ls, o)))) = let (p, e) = one_sign (joint s) ms q m in rw e (l ∷ ls, next d o)
  joined_items s ms r (inr m) = let (p, e) = one_sign ")" ms r m in rw e ([], close)

joint_no_bracket : (s : Sign) → is "(" (text (bytes (joint s))) ≡ false
joint_no_bracket all = refl
joint_no_bracket any = refl

bind_same : {A B : Type 0} (x : Result A) (f g : A → Reader B) → ((a : A) (s : State) → x ≡ ok a s → f a s ≡ g a s) → bind x f ≡ bind x g
bind_same (ok a s) f g h = h a s refl
bind_same (stop n r) f g h = refl

if_same : {A : Type 0} (b : Bool) (p q r : Reader A) (s : State) → p s ≡ q s → (when b then p else r) s ≡ (when b then q else r) s
if_same true p q r s e = e
if_same false p q r s e = refl

sign_shorter : (t : String) (s s₁ : State) (u : Unit {0}) → sign t s ≡ ok u s₁ → length s.marks ≡ suc (length s₁.marks)
sign_shorter t s s₁ u = sign_took t s s₁ u _ λ p e n. ap length e

none_left : {A : Type 0} (one : Reader A) (t : String) (g : ℕ) (ms : Place) (n : ℕ) → length ms ≤ 0 → joined one t zero (at ms n) ≡ joined one t (suc g) (at ms n)
none_left one t g [] n h = refl
none_left one t g (m ∷ ms) n h = absurd (omega arith)

abbrev pub joined_here : {A : Type 0} → Reader A → Sign → Reader (List A)
joined_here one s = λ st. joined one (joint s) (length st.marks) st

module _ {A Look : Type 0} {look : Place → Look} (S : Said A) (one : Reader A) (x : Steady look Always free (Saying S) one one) where
  item_shorter : (s s₁ : State) (l : A) → one s ≡ ok l s₁ → length s₁.marks ≤ length s.marks
  item_shorter s s₁ l e = let w = x.passes s s₁ l tt e in omega (arith, ap length w.split ∙ length-append w.pre s₁.marks)

  -- as many as there are marks left are enough
  enough : (t : String) (f g : ℕ) (s : State) → length s.marks ≤ f → length s.marks ≤ g → joined one t f s ≡ joined one t g s
  enough t zero zero s h k = refl
  enough t zero (suc g) s h k = none_left one t g s.marks s.nodes h
  enough t (suc f) zero s h k = sym (none_left one t f s.marks s.nodes k)
  enough t (suc f) (suc g) s h k = if_same (next_is t s.marks) _ _ _ s
      (bind_same (sign t s) _ _ λ u s₂ e. bind_same (one s₂) _ _ λ l s₃ e₁.
      let y = sign_shorter t s s₂ u e in
      let z = item_shorter s₂ s₃ l e₁ in
      ap (λ x. bind x (λ ls. return (l ∷ ls))) (enough t f g s₃ (omega arith) (omega arith)))

  joined_t : (s : Sign) (f : ℕ) → Steady look Always free (Saying (JoinedSaid S s)) (joined one (joint s) f) (joined one (joint s) f)
  joined_t s zero = steady_as (joined_items S s)
      (steady_next (joint s) (steady_limit (joint s) (joint_no_bracket s) (steady_bind x (λ l l₁ _. steady_as (λ ms r m. joined_items S s ms r (inr m)) (steady_sign ")"))).word [])
      (steady_last (steady_sign ")") λ _ _ _. steady_return [] []))
  joined_t s (suc f) = steady_as (joined_items S s)
      (steady_next (joint s)
      (steady_on (Next (joint s)) (steady_bind (steady_sign (joint s)) λ _ _ _. steady_bind x λ l l₁ _. steady_last (joined_t s f) λ ls ls₁ _. steady_return (l ∷ ls) (l₁ ∷ ls₁)))
      (steady_last (steady_sign ")") λ _ _ _. steady_return [] []))

  pub joined_here_t : (s : Sign) → Steady look Always free (Saying (JoinedSaid S s)) (joined_here one s) (joined_here one s)
  joined_here_t s = record {
    passes = λ st st₁ a _ e. let w = (joined_t s (length st.marks)).passes st st₁ a tt e in
        record { pre = w.pre; split = w.split; said = w.said; same = λ y h. passes st st₁ a e w.pre w.split y h };
    stops = λ st n r _ e. let w = (joined_t s (length st.marks)).stops st n r tt e in
        record { pre = w.pre; split = w.split; cause = w.cause; same = λ y h. stops st n r e w.pre w.split y h };
    word = (joined_t s 0).word;
    sample = [];
  }
    where
      passes : (st st₁ : State) (a : List A) → joined_here one s st ≡ ok a st₁ → (pre : Place) → st.marks ≡ pre ++ st₁.marks → (y : Place) → SameHead st₁.marks y
          → (a₁ : List A) × (joined_here one s (at (pre ++ y) st.nodes) ≡ ok a₁ (at y st₁.nodes)) × Unit {0}
      passes st st₁ a e pre q y h =
          let f = length st.marks + length (pre ++ y) in
          let w = (joined_t s f).passes st st₁ a tt (enough (joint s) f (length st.marks) st (omega arith) (omega arith) ∙ e) in
          let z : w.pre ≡ pre = append_cancel_right w.pre pre st₁.marks (sym w.split ∙ q) in
          let (a₁, e₁, _) = w.same y h in
          (a₁, enough (joint s) (length (pre ++ y)) f (at (pre ++ y) st.nodes) (omega arith) (omega arith) ∙ (rw z at e₁), tt)

      stops : (st : State) (n : ℕ) (r : Place) → joined_here one s st ≡ stop n r → (pre : Place) → st.marks ≡ pre ++ r → (y : Place) → Alike look n r y
          → joined_here one s (at (pre ++ y) st.nodes) ≡ stop n y
      stops st n r e pre q y h =
          let f = length st.marks + length (pre ++ y) in
          let w = (joined_t s f).stops st n r tt (enough (joint s) f (length st.marks) st (omega arith) (omega arith) ∙ e) in
          let z : w.pre ≡ pre = append_cancel_right w.pre pre r (sym w.split ∙ q) in
          let e₁ = w.same y h in
          enough (joint s) (length (pre ++ y)) f (at (pre ++ y) st.nodes) (omega arith) (omega arith) ∙ (rw z at e₁)

-- ---- groups

-- behind any bracket
abbrev pub GroupL : Lang
GroupL ms r = (p : Place) → Saying (GroupSaid p) ms r

group_said : (ms r : Place) → (Saying LiteralSaid then (Saying (OthersSaid any) either Saying (OthersSaid all))) ms r → GroupL ms r
group_said ms r (q, (l, d), inl (ls, close)) p = (_, conjoined d close)
group_said ms r (q, (l, d), inl (ls, next k o)) p = (_, disjoined d (next k o))
group_said ms r (q, (l, d), inr (ls, o)) p = (_, conjoined d o)

-- the sign is told by the mark behind the first literal
abbrev signed : Place → Literal → Reader Literals
signed p l =
    if_next (joint any) (joined_here read_literal any >>= λ ls. return (literals_of p any (l ∷ ls))) (joined_here read_literal all >>= λ ls. return (literals_of p all (l ∷ ls)))

abbrev told : Place → Literal → Reader Literals
told p l = do
  ahead ← here
  s ← if_next (joint any) (return any) (return all)
  ls ← others (joint s) (length ahead)
  return (literals_of p s (l ∷ ls))

told_signed : (p : Place) (l : Literal) (s : State) → told p l s ≡ signed p l s
told_signed p l s = go (next_is (joint any) s.marks)
  where
    go : (b : Bool) → bind ((when b then return any else return all) s) (λ j. others (joint j) (length s.marks) >>= λ ls. return (literals_of p j (l ∷ ls)))
        ≡ (when b then joined_here read_literal any >>= (λ ls. return (literals_of p any (l ∷ ls))) else (joined_here read_literal all >>= λ ls. return (literals_of p all (l ∷ ls)))) s
    go true = refl
    go false = refl

module _ {Look : Type 0} {look : Place → Look} where
  pub group_t : (p p₁ : Place) → Steady look Always free GroupL (group p) (group p₁)
  group_t p p₁ = steady_as group_said
      (steady_bind literal_t λ l l₁ _. steady_like (told p l) (told p₁ l₁) (told_signed p l) (told_signed p₁ l₁)
      (steady_next (joint any)
      (steady_on (Next (joint any)) (steady_last (joined_here_t LiteralSaid read_literal literal_t any) λ ls ls₁ _. steady_return (literals_of p any (l ∷ ls)) (literals_of p₁ any (l₁ ∷ ls₁))))
      (steady_last (joined_here_t LiteralSaid read_literal literal_t all) λ ls ls₁ _. steady_return (literals_of p all (l ∷ ls)) (literals_of p₁ all (l₁ ∷ ls₁)))))

-- ---- formulas, over a steady reader of what a group is

pub data ManyL (L : Lang) : Place → Place → Type 0 where
  none_l : {r : Place} → ManyL L r r
  one_l : {ms q r : Place} → L ms q → ManyL L q r → ManyL L ms r

many_said : (L M : Lang) (ms r : Place) → ((L then M then ManyL (L then M)) either Nil) ms r → ManyL (L then M) ms r
many_said L M ms r (inl (q, l, (q₁, m, o))) = one_l (q, l, m) o
many_said L M ms r (inr e) = rw e none_l

module _ {A Look : Type 0} {look : Place → Look} (s : Sign) (join : Formula A → Formula A → Formula A) (L : Lang) (p : Read A) (x : Steady look Always free L p p) where
  pub chain_t : (f : ℕ) (g g₁ : Formula A) → Steady look Always free (ManyL (Mark₁ (joint s) then L)) (chain (joint s) join p f g) (chain (joint s) join p f g₁)
  chain_t zero g g₁ = steady_as (many_said (Mark₁ (joint s)) L)
      (steady_next (joint s) (steady_limit (joint s) (joint_no_bracket s) (x.word.0, λ t. (t, x.word.1 t, none_l)) g) (steady_return g g₁))
  chain_t (suc f) g g₁ = steady_as (many_said (Mark₁ (joint s)) L)
      (steady_next (joint s) (steady_node (joint s) (joint_no_bracket s) (steady_bind x λ h h₁ _. chain_t f (join g h) (join g₁ h₁))) (steady_return g g₁))

module _ {A : Type 0} (Free : Place → Type 0) (Group : Place → Said A) where
  abbrev pub GuardL : Part → Lang
  GuardL v = Saying (FormulaSaid Free Group v)

  joins : (s : Sign) (ms q r : Place) (g : Formula A) → FormulaSaid Free Group (joined_by s) ms g q → ManyL (Mark₁ (joint s) then GuardL (operand s)) q r
      → GuardL (joined_by s) ms r
  joins s ms q r g d none_l = (g, d)
  joins s ms q r g d (one_l {q = z} (y, m, (h, e)) o) = let (a, w) = one_sign (joint s) q y m in joins s ms z r (joining s g h) (further {a = a} (rw w at d) e) o

  joined_said : (s : Sign) (ms r : Place) → (GuardL (operand s) then ManyL (Mark₁ (joint s) then GuardL (operand s))) ms r → GuardL (joined_by s) ms r
  joined_said s ms r (q, (g, d), m) = joins s ms q r g (single d) m

  -- a group, behind any bracket
  abbrev pub GroupsL : Lang
  GroupsL ms r = (o : Place) → Saying (Group o) ms r

  -- a bracketed expression, behind its opening bracket; and where it may stand
  abbrev pub ClosedL : Lang
  ClosedL = GuardL (joined_by any) then Mark₁ ")"

  abbrev pub FreeL : Lang
  FreeL ms r = Free ms × ClosedL ms r

module _ {A Look : Type 0} {look : Place → Look} (Free : Place → Type 0) (Group : Place → Said A) where
  pub conjunction_t : (u : Read A) → Steady look Always free (GuardL Free Group unary) u u → Steady look Always free (GuardL Free Group (joined_by all)) (conjunction u) (conjunction u)
  conjunction_t u x = steady_as (joined_said Free Group all) (steady_bind x λ g g₁ _. chain_t all and (GuardL Free Group unary) u x most_nodes g g₁)

  pub expression_t : (u : Read A) → Steady look Always free (GuardL Free Group unary) u u → Steady look Always free (GuardL Free Group (joined_by any)) (expression u) (expression u)
  expression_t u x =
      let y = conjunction_t u x in
      steady_as (joined_said Free Group any) (steady_bind y λ g g₁ _. chain_t any or (GuardL Free Group (joined_by all)) (conjunction u) y most_nodes g g₁)

-- an expression and its closing bracket
abbrev pub closing : {A : Type 0} → Read A → Read A
closing u = expression u >>= λ g. sign ")" >>= λ _. return g

-- What a language of formulas must keep. `starts` tells from the marks behind a bracket whether it starts a group, which p reads and Group
-- says, or else an expression, which stands only before Free marks. All that is looked at behind a bracket is `look`: what this bracket
-- starts and what the one before it starts
pub record Leaves {A Look : Type 0} (look : Place → Look) (starts : Place → Bool) (Free : Place → Type 0) (Group : Place → Said A) (p : Place → Reader A) : Type 0 where
  pub decided : (x y : Place) → look x ≡ look y → starts x ≡ starts y
  pub allows : (ms : Place) → starts ms ≡ false → Free ms
  -- groups, behind the bracket m
  pub steady : (m : Placed) → Steady look (λ ms. starts ms ≡ true) free (GroupsL Free Group) (λ s. p (m ∷ s.marks) s) (λ s. p (m ∷ s.marks) s)
  -- a group that began stays one, whatever follows where it ended or stopped
  pub group_ends : (m : Placed) (s s₁ : State) (a : A) → starts s.marks ≡ true → p (m ∷ s.marks) s ≡ ok a s₁ → (pre : Place) → s.marks ≡ pre ++ s₁.marks
      → (y : Place) → SameHead s₁.marks y → starts (pre ++ y) ≡ true
  pub group_halts : (m : Placed) (s : State) (n : ℕ) (r : Place) → starts s.marks ≡ true → p (m ∷ s.marks) s ≡ stop n r → (pre : Place) → s.marks ≡ pre ++ r
      → (y : Place) → Alike look n r y → starts (pre ++ y) ≡ true
  -- for each thing seen that starts a group there is a group that is seen so
  pub word : (ms : Place) → starts ms ≡ true → (w : Place) × ((t : Place) → look ms ≡ look (w ++ t)) × ((t : Place) → GroupsL Free Group (w ++ t) t)
  pub sample : Place
  pub sampled : starts sample ≡ true
  -- and an expression that is seen like any other
  pub closed : Place
  pub closes : (t : Place) → ClosedL Free Group (closed ++ t) t
  pub shut : (t : Place) → starts (closed ++ t) ≡ false
  pub alike : (ms : Place) → starts ms ≡ false → (t : Place) → look ms ≡ look (closed ++ t)
  -- an expression that ended stays one, whatever follows
  pub settled : (pre r : Place) → starts (pre ++ r) ≡ false → ((t : Place) → ClosedL Free Group (pre ++ t) t) → (t : Place) → starts (pre ++ t) ≡ false
  -- one that stopped stays one, whatever follows the mark there
  pub halts : (d : ℕ) → Steady look Always free (GuardL Free Group unary) (unary_by starts p d) (unary_by starts p d) → (s : State) (n : ℕ) (r : Place) → starts s.marks ≡ false
      → closing (unary_by starts p d) s ≡ stop n r → (pre : Place) → s.marks ≡ pre ++ r → (y : Place) → Alike look n r y → starts (pre ++ y) ≡ false
  -- and if it can be completed, it can be completed to an expression where it may stand, or to a group
  pub completes : (pre r post : Place) → starts (pre ++ r) ≡ false → ((t : Place) → ClosedL Free Group (pre ++ (post ++ t)) t)
      → (last : Place) × ((t : Place) → (GroupsL Free Group either FreeL Free Group) (pre ++ (last ++ t)) t)

abbrev paren : Mark → Option (Unit {0})
paren m = given (is "(" m)

module _ {A Look : Type 0} {look : Place → Look} (starts : Place → Bool) (Free : Place → Type 0) (Group : Place → Said A) (p : Place → Reader A) (G : Leaves look starts Free Group p) where
  abbrev BracketL : Lang
  BracketL = GroupsL Free Group either FreeL Free Group

  abbrev opened : (Place → Read A) → Place → Unit {0} → Read A
  opened k q _ = if_ahead starts (read_grouped p q) (k q)

  in_group_t : (m : Placed) → Steady look (λ ms. starts ms ≡ true) free (GroupsL Free Group) (λ s. bind (p (m ∷ s.marks) s) (λ x. return (atom x))) (λ s. bind (p (m ∷ s.marks) s) (λ x. return (atom x)))
  in_group_t m = steady_last (G.steady m) λ x x₁ _. steady_return (atom x) (atom x₁)

  abbrev word_of : Place
  word_of = (G.word G.sample G.sampled).0

  module _ (k : Place → Read A) where
    group_passes : (m : Mark) (a : ℕ) (ms : Place) (n : ℕ) (s₁ : State) (d : Formula A) → starts ms ≡ true → read_grouped p (placed m a ∷ ms) (at ms n) ≡ ok d s₁
        → Passed free BracketL (At (opened k) m a tt) (at ms n) d s₁
    group_passes m a ms zero s₁ d y e = stop≢ok e
    group_passes m a ms (suc n) s₁ d y e = let w = (in_group_t (placed m a)).passes (at ms n) s₁ d y e in record {
      pre = w.pre;
      split = w.split;
      said = λ t. inl (w.said t);
      same = λ u h.
          let v = w.same u h in
          let z : starts (w.pre ++ u) ≡ true = through (p (placed m a ∷ ms) (at ms n)) (λ x. return (atom x)) d s₁ _ (λ x s₂ e₁ e₂.
          let q : s₂ ≡ s₁ = ok_state e₂ in
          G.group_ends (placed m a) (at ms n) s₁ x y (rw q at e₁) w.pre w.split u h) e in
          (v.0, rw z v.1, tt);
    }

    group_stops : (m : Mark) (a : ℕ) → is "(" m ≡ true → (ms : Place) (n i : ℕ) (r : Place) → starts ms ≡ true
        → read_grouped p (placed m a ∷ ms) (at ms n) ≡ stop i r
        → Stopped look BracketL (At (opened k) m a tt) (at ms n) i r ⊎ Refused look BracketL (At (opened k) m a tt) (placed m a) ms n i r
    group_stops m a c ms zero i r y e = let w = G.word ms y in inr (record {
      number = sym (stop_number {A = Formula A} e);
      place = sym (stop_place {A = Formula A} e);
      post = w.0;
      bracket = λ t _. w.1 t;
      said = λ t. inl (w.2 t);
      same = λ u h. rw (sym (G.decided ms u (h c)) ∙ y);
    })
    group_stops m a c ms (suc n) i r y e = let w = (in_group_t (placed m a)).stops (at ms n) i r y e in inl (record {
      pre = w.pre;
      split = w.split;
      cause = cause_as (λ ms r l. inl l) w.cause;
      same = λ u h.
          let z : starts (w.pre ++ u) ≡ true = stopped (p (placed m a ∷ ms) (at ms n)) (λ x. return (atom x)) i r _
          (λ e₁. G.group_halts (placed m a) (at ms n) i r y e₁ w.pre w.split u h) (λ x s₂ e₁ e₂. ok≢stop e₂) e in
          rw z (w.same u h);
    })

  a_group : Word (GuardL Free Group unary)
  a_group = (sign_at "(" 0 ∷ word_of, λ t. let (x, d) = (G.word G.sample G.sampled).2 t (sign_at "(" 0 ∷ (word_of ++ t)) in (atom x, grouped d))

  a_formula : Formula A
  a_formula = atom ((G.word G.sample G.sampled).2 [] []).0

  closed_free : (t : Place) → FreeL Free Group (G.closed ++ t) t
  closed_free t = (G.allows (G.closed ++ t) (G.shut t), G.closes t)

  -- no bracket may be open any more
  limit_behind : Behind look free paren (λ _. BracketL) (opened (refuse_at past_limit)) (opened (refuse_at past_limit))
  limit_behind = record {
    passes = λ m a v i s s₁ d. chose (starts s.marks) _ _ s s₁ d _ (group_passes (refuse_at past_limit) m a s.marks s.nodes s₁ d) (λ y e. stop≢ok e);
    stops = λ m a v i s n r. chose_stop (starts s.marks) _ _ s n r _
        (group_stops (refuse_at past_limit) m a (given_true (is "(" m) v i) s.marks s.nodes n r)
        (λ y e. inr (record {
          number = sym (stop_number {A = Formula A} e);
          place = sym (stop_place {A = Formula A} e);
          post = G.closed;
          bracket = λ t _. G.alike s.marks y t;
          said = λ t. inr (closed_free t);
          same = λ u h. rw (sym (G.decided s.marks u (h (given_true (is "(" m) v i))) ∙ y);
        }));
    word = λ _. (G.closed, λ t. inr (closed_free t));
    sample = a_formula;
  }

  freed : (pre : Place) (n : ℕ) (r : Place) → starts (pre ++ r) ≡ false → ((y : Place) → Alike look n r y → starts (pre ++ y) ≡ false)
      → Cause look (ClosedL Free Group) pre n r → Cause look BracketL pre n r
  freed pre n r y see (unfit e post f) = let w = G.completes pre r post y f in unfit e w.0 w.1
  freed pre n r y see (excess e m x post z k f) =
      excess e m x post z k (λ t. inr (G.allows (pre ++ (m ∷ (post ++ t))) (see (m ∷ (post ++ t)) (ap head? z, λ _. rw z (k t))), f t))

  steady_behind_bracket : (d : ℕ) → Steady look Always free (GuardL Free Group unary) (unary_by starts p d) (unary_by starts p d)
      → Behind look free paren (λ _. BracketL) (opened (λ _. closing (unary_by starts p d))) (opened (λ _. closing (unary_by starts p d)))
  steady_behind_bracket d x = record {
    passes = λ m a v i s s₁ g. chose (starts s.marks) _ _ s s₁ g _ (group_passes (λ _. closing (unary_by starts p d)) m a s.marks s.nodes s₁ g)
        (λ y e.
        let w = closing_t.passes s s₁ g tt e in
        let z = G.settled w.pre s₁.marks (rw w.split at y) w.said in
        record {
          pre = w.pre;
          split = w.split;
          said = λ t. inr (G.allows (w.pre ++ t) (z t), w.said t);
          same = λ o h. let l = w.same o h in (l.0, rw (z o) l.1, tt);
        });
    stops = λ m a v i s n r. chose_stop (starts s.marks) _ _ s n r _
        (group_stops (λ _. closing (unary_by starts p d)) m a (given_true (is "(" m) v i) s.marks s.nodes n r)
        (λ y e.
        let w = closing_t.stops s n r tt e in
        let see = G.halts d x s n r y e w.pre w.split in
        inl (record {
          pre = w.pre;
          split = w.split;
          cause = freed w.pre n r (rw w.split at y) see w.cause;
          same = λ o h. rw (see o h) (w.same o h);
        }));
    word = λ _. (G.closed, λ t. inr (closed_free t));
    sample = a_formula;
  }
    where
      closing_t : Steady look Always free (ClosedL Free Group) (closing (unary_by starts p d)) (closing (unary_by starts p d))
      closing_t = steady_bind (expression_t Free Group (unary_by starts p d) x) λ g g₁ _. steady_last (steady_sign ")") λ _ _ _. steady_return g g₁

  unary_said : (ms r : Place) → ((Mark₁ "!" then GuardL Free Group unary) either OneThen paren (λ _. BracketL)) ms r → GuardL Free Group unary ms r
  unary_said ms r (inl (q, m, (g, d))) = let (a, e) = one_sign "!" ms q m in rw e (neg g, negated d)
  unary_said ms r (inr (m, a, v, q, e, i, inl g)) =
      let z : ms ≡ sign_at "(" a ∷ q = e ∙ ap (λ x. placed x a ∷ q) (is→eq "(" m (given_true (is "(" m) v i)) in
      let (x, d) = g (sign_at "(" a ∷ q) in
      rw z (atom x, grouped d)
  unary_said ms r (inr (m, a, v, q, e, i, inr (f, (o, (g, d), c)))) =
      let z : ms ≡ sign_at "(" a ∷ q = e ∙ ap (λ x. placed x a ∷ q) (is→eq "(" m (given_true (is "(" m) v i)) in
      let (b, y) = one_sign ")" o r c in
      rw z (g, bracketed {b = b} f (rw y at d))

  pub unary_t : (d : ℕ) → Steady look Always free (GuardL Free Group unary) (unary_by starts p d) (unary_by starts p d)
  unary_t zero = steady_as unary_said
      (steady_next "!" (steady_limit "!" refl a_group a_formula) (steady_behind (text (bytes "(")) tt refl limit_behind))
  unary_t (suc d) = steady_as unary_said
      (steady_next "!" (steady_node "!" refl (steady_last (unary_t d) λ g g₁ _. steady_return (neg g) (neg g₁)))
      (steady_behind (text (bytes "(")) tt refl (steady_behind_bracket d (unary_t d))))

-- ---- a card's tests: one mark behind a bracket decides

pub seat_still : (b : Bool) (ms pre r y : Place) → seat_next ms ≡ b → ms ≡ pre ++ r → SameHead r y → seat_next (pre ++ y) ≡ b
seat_still b ms pre r y e z h = sym (seat_head ms (pre ++ y) (ap head? z ∙ head_append pre r y h)) ∙ e

pub test_still : (shared b : Bool) (ms pre r y : Place) → test_next shared ms ≡ b → ms ≡ pre ++ r → SameHead r y → test_next shared (pre ++ y) ≡ b
test_still shared b ms pre r y e z h = sym (test_head shared ms (pre ++ y) (ap head? z ∙ head_append pre r y h)) ∙ e

shared_test_said : (ms r : Place) → (Mark₁ "g" then One relation_of then One number_of then Mark₁ ")") ms r → Saying SharedTestSaid ms r
shared_test_said ms r (q, s, (q₁, (m, p, k, e, i), (q₂, n, c))) =
    let (a, z) = one_sign "g" ms q s in
    let (d, o, y) = one_number q₁ q₂ n in
    let (b, x) = one_sign ")" q₂ r c in
    let w : ms ≡ sign_at "g" a ∷ sign_at (relation k) p ∷ placed (number d) o ∷ sign_at ")" b ∷ r = cc (relation→eq m k i) in
    rw w (_, shared_test {v = d} {a = a} {b = p} {c = o} {d = b} {q = k} {r = r})

abbrev TestsL : Bool → Lang
TestsL shared = GroupsL Anything (TestedSaid shared)

either_tests : (shared : Bool) (ms r : Place) → (TestsL shared either TestsL shared) ms r → TestsL shared ms r
either_tests shared ms r (inl l) = l
either_tests shared ms r (inr l) = l

module _ {Look : Type 0} {look : Place → Look} where
  pub shared_test_t : Steady look Always free (Saying SharedTestSaid) read_shared_test read_shared_test
  shared_test_t = steady_as shared_test_said
      (steady_bind (steady_sign "g") λ _ _ _. steady_bind (steady_free (steady_the relation_of (text (bytes "=")) eq refl)) λ q q₁ _. steady_bind (numbered_t number_t) λ v v₁ _.
      steady_last (steady_sign ")") λ _ _ _. steady_return (record { relation = q; value = v }) (record { relation = q₁; value = v₁ }))

  seats_t : (shared : Bool) (p p₁ : Place) → Steady look Always free (TestsL shared) (group p >>= λ x. return (of_seats x)) (group p₁ >>= λ x. return (of_seats x))
  seats_t shared p p₁ = steady_as (λ ms r g o. let (x, d) = g o in (of_seats x, test_seats d)) (steady_last (group_t p p₁) λ x x₁ _. steady_return (of_seats x) (of_seats x₁))

  number_test_t : Steady look Always free (TestsL true) (read_shared_test >>= λ x. return (of_shared x)) (read_shared_test >>= λ x. return (of_shared x))
  number_test_t = steady_as (λ ms r (x, d) o. (of_shared x, test_shared d)) (steady_last shared_test_t λ x x₁ _. steady_return (of_shared x) (of_shared x₁))

  -- without a shared number no `g` is read
  test_t : (shared : Bool) (p p₁ : Place) → Steady look (λ ms. test_next shared ms ≡ true) free (TestsL shared) (tested p) (tested p₁)
  test_t true p p₁ = steady_on _ (steady_as (either_tests true) (steady_next "g" (steady_on (Next "g") number_test_t) (seats_t true p p₁)))
  test_t false p p₁ = steady_left "g" no_number (steady_on _ (seats_t false p p₁))
    where
      no_number : (ms : Place) → test_next false ms ≡ true → next_is "g" ms ≡ false
      no_number [] h = absurd (false≢true h)
      no_number (placed (text s) p ∷ ms) h = absurd (false≢true h)
      no_number (placed (seat i) p ∷ ms) h = refl
      no_number (placed (process i) p ∷ ms) h = refl
      no_number (placed (number v) p ∷ ms) h = refl
      no_number (placed (decimal v n f) p ∷ ms) h = refl
      no_number (placed outside p ∷ ms) h = refl

here_stays : (P : Place → Type 0) (s s₁ : State) (a : Place) → P s.marks → here s ≡ ok a s₁ → P s₁.marks
here_stays P s s₁ a h e = subst (λ (x : State). P x.marks) (ok_state e) h

card_leaves : (shared : Bool) → Leaves (test_next shared) (test_next shared) Anything (TestedSaid shared) tested
card_leaves shared = record {
  decided = λ x y e. e;
  allows = λ ms e. tt;
  steady = λ m. steady_as (λ ms r (q, e, l). rw e l) (steady_into (here_stays (λ ms. test_next shared ms ≡ true)) (steady_on _ steady_here) λ q q₁ _. test_t shared (m ∷ q) (m ∷ q₁));
  group_ends = λ m s s₁ a y e pre z u h. test_still shared true s.marks pre s₁.marks u y z h;
  group_halts = λ m s n r y e pre z u h. test_still shared true s.marks pre r u y z h.0;
  word = λ ms y. (a_literal, (λ t. y), (λ t o. (_, test_seats (conjoined (literal {q = eq}) close))));
  sample = a_literal;
  sampled = refl;
  closed = sign_at "(" 0 ∷ (a_literal ++ (sign_at ")" 0 ∷ []));
  closes = λ t. (sign_at ")" 0 ∷ t, (_, single {s = any} (single {s = all} (grouped (test_seats (conjoined (literal {q = eq}) close))))), a_sign ")" 0 t);
  shut = λ t. and_false shared;
  alike = λ ms y t. y ∙ sym (and_false shared);
  settled = λ pre r y f t. guard_no_test (f t).1.1;
  halts = λ d x s n r y e pre z u h. test_still shared false s.marks pre r u y z h.0;
  completes = λ pre r post y f. (post, λ t. inr (tt, f t));
}
  where
    a_literal : Place
    a_literal = placed (seat 1) 0 ∷ sign_at "=" 0 ∷ placed (number 0) 0 ∷ sign_at ")" 0 ∷ []

-- ---- branches

abbrev OverL : Weight → Lang
OverL (whole a) = (Mark₁ "/" then One number_of) either Nil
OverL (point v n f) = Nil
OverL (ratio a b) = Nil

weight_said : (ms r : Place) → OneThen weight_of OverL ms r → Saying WeightSaid ms r
weight_said ms r (m, p, w, q, e, i, l) = rw e (go m w i l)
  where
    over_said : (v : ℕ) → OverL (whole v) q r → Saying WeightSaid (placed (number v) p ∷ q) r
    over_said v (inl (o, s, n)) =
        let (a, x) = one_sign "/" q o s in
        let (b, c, y) = one_number o r n in
        let z : q ≡ sign_at "/" a ∷ placed (number b) c ∷ r = cc in
        rw z (_, a_ratio)
    over_said v (inr e) = rw e (_, a_number)

    go : (m : Mark) (w : Weight) → weight_of m ≡ some w → OverL w q r → Saying WeightSaid (placed m p ∷ q) r
    go (text s) w i l = none≢some i
    go (seat j) w i l = none≢some i
    go (process j) w i l = none≢some i
    go (number v) w i l = let z : whole v ≡ w = cc in over_said v (rw (← z) at l)
    go (decimal v n f) w i l = let z : point v n f ≡ w = cc in let e : q ≡ r = rw (← z) at l in rw e (_, a_decimal)
    go outside w i l = none≢some i

-- behind its weight
abbrev TargetL : Bool → Lang
TargetL shared = Saying (LineSaid branch_run) then One number_of then Mark₁ ")" then Saying (SetSaid shared)

branch_said : (shared : Bool) (ms r : Place) → (Saying WeightSaid then TargetL shared) ms r → Saying (BranchSaid shared) ms r
branch_said shared ms r (q, (w, d), (q₁, (ws, l), (q₂, n, (q₃, c, (v, s))))) =
    let (t, a, y) = one_number q₁ q₂ n in
    let (b, z) = one_sign ")" q₂ q₃ c in
    let e : q₁ ≡ placed (number t) a ∷ sign_at ")" b ∷ q₃ = cc in
    (_, branch d (rw e at l) s)

set_said : (ms r : Place) → ((Saying (LineSaid set_run) then One number_of then Mark₁ ")") either Nil) ms r → Saying (SetSaid true) ms r
set_said ms r (inl (q, (ws, l), (q₁, n, c))) =
    let (v, a, y) = one_number q q₁ n in
    let (b, z) = one_sign ")" q₁ r c in
    let e : q ≡ placed (number v) a ∷ sign_at ")" b ∷ r = cc in
    (_, sets_to (rw e at l))
set_said ms r (inr e) = rw e (none, keeps)

plus_said : (shared : Bool) (ms r : Place) → (Mark₁ "+" then Saying (BranchSaid shared)) ms r → Saying (PlusSaid shared) ms r
plus_said shared ms r (q, m, (x, d)) = let (a, e) = one_sign "+" ms q m in rw e (x, plus d)

-- one too many begins with the mark t
none_or : {A : Type 0} (S : Said A) (L : Lang) → ((ms r : Place) → L ms r → Saying (ManySaid S) ms r) → (ms r : Place) → (L either Nil) ms r
    → Saying (ManySaid S) ms r
none_or S L h ms r (inl l) = h ms r l
none_or S L h ms r (inr e) = rw e ([], done)

first_weight : (m : Mark) (w : Weight) → weight_of m ≡ some w → (a : ℕ) (r : Place) → Saying WeightSaid (placed m a ∷ r) r
first_weight (text s) w i a r = none≢some i
first_weight (seat j) w i a r = none≢some i
first_weight (process j) w i a r = none≢some i
first_weight (number v) w i a r = (_, a_number)
first_weight (decimal v n f) w i a r = (_, a_decimal)
first_weight outside w i a r = none≢some i

no_weight_bracket : {Look : Type 0} (look : Place → Look) (m : Mark) (w : Weight) → weight_of m ≡ some w → (a : ℕ) (x y : Place) → SameBracket look (placed m a ∷ x) y
no_weight_bracket look (text s) w i a x y e = none≢some i
no_weight_bracket look (seat j) w i a x y e = absurd (false≢true e)
no_weight_bracket look (process j) w i a x y e = absurd (false≢true e)
no_weight_bracket look (number v) w i a x y e = absurd (false≢true e)
no_weight_bracket look (decimal v n f) w i a x y e = absurd (false≢true e)
no_weight_bracket look outside w i a x y e = absurd (false≢true e)

past_said : (shared : Bool) (ms r : Place) → (Mark₁ "+" then OneThen weight_of (λ _. TargetL shared)) ms r → Saying (ManySaid (PlusSaid shared)) ms r
past_said shared ms r (q, p, (m, a, w, o, e, i, l)) =
    let (x, d) = plus_said shared ms r (q, p, rw e (branch_said shared (placed m a ∷ o) r (o, first_weight m w i a o, l))) in
    (x ∷ [], again d done)

module _ {Look : Type 0} {look : Place → Look} where
  over_t : (w : Weight) → Steady look Always free (OverL w) (over w) (over w)
  over_t (whole a) = steady_next "/"
      (steady_on (Next "/") (steady_bind (steady_sign "/") λ _ _ _. steady_last number_t λ b b₁ _. steady_return (ratio a b) (ratio a b₁))) (steady_return (whole a) (whole a))
  over_t (point v n f) = steady_return (point v n f) (point v n f)
  over_t (ratio a b) = steady_return (ratio a b) (ratio a b)

  weight_t : Steady look Always free (Saying WeightSaid) weight weight
  weight_t = steady_as weight_said (steady_behind (number 0) (whole 0) refl (behind_steady (whole 0) over_t))

  sets_t : (shared : Bool) → Steady look Always free (Saying (SetSaid shared)) (read_sets shared) (read_sets shared)
  sets_t false = steady_as (λ ms r e. rw e (none, keeps)) (steady_return none none)
  sets_t true = steady_as set_said
      (steady_next "&"
      (steady_on (Next "&") (steady_bind (line_t set_run) λ _ _ _. steady_bind (numbered_t number_t) λ v v₁ _. steady_last (steady_sign ")") λ _ _ _. steady_return (some v) (some v₁)))
      (steady_return none none))

  branch_t : (shared : Bool) → Steady look Always free (Saying (BranchSaid shared)) (read_branch shared) (read_branch shared)
  branch_t shared = steady_as (branch_said shared)
      (steady_silent steady_here λ p p₁ _. steady_bind weight_t λ w w₁ _. steady_bind (line_t branch_run) λ ws ws₁ _. steady_bind (numbered_t number_t) λ t t₁ _.
      steady_bind (steady_sign ")") λ _ _ _. steady_last (sets_t shared) λ v v₁ _.
      steady_return (record { place = p; weight = w; words = ws; end = t; sets = v }) (record { place = p₁; weight = w₁; words = ws₁; end = t₁; sets = v₁ }))

  plus_t : (shared : Bool) → Steady look Always free (Saying (PlusSaid shared)) (next_branch shared) (next_branch shared)
  plus_t shared = steady_as (plus_said shared) (steady_bind (steady_sign "+") λ _ _ _. branch_t shared)

  -- ---- any number of things

  module _ {A : Type 0} (S : Said A) (t : String) (one : Reader A) (over : Reader (List A)) (x : Steady look Always free (Saying S) one one)
      (z : Steady look Always free (Saying (ManySaid S)) (many zero t one over) (many zero t one over)) where
    again_said : (ms r : Place) → ((Saying S then Saying (ManySaid S)) either Nil) ms r → Saying (ManySaid S) ms r
    again_said ms r (inl (q, (a, d), (l, o))) = (a ∷ l, again d o)
    again_said ms r (inr e) = rw e ([], done)

    many_t : (f : ℕ) → Steady look Always free (Saying (ManySaid S)) (many f t one over) (many f t one over)
    many_t zero = z
    many_t (suc f) = steady_as again_said
        (steady_next t (steady_on (Next t) (steady_bind x λ a a₁ _. steady_last (many_t f) λ l l₁ _. steady_return (a ∷ l) (a₁ ∷ l₁))) (steady_return [] []))

  -- ---- too many branches

  target_t : (shared : Bool)
      → Steady look Always free (TargetL shared) (line branch_run >>= λ ws. the number_of >>= λ t. sign ")" >>= λ _. read_sets shared) (line branch_run >>= λ ws. the number_of >>= λ t. sign ")" >>= λ _. read_sets shared)
  target_t shared = steady_bind (line_t branch_run) λ ws ws₁ _. steady_bind number_t λ t t₁ _. steady_bind (steady_sign ")") λ _ _ _. sets_t shared

  limit_weight : (shared : Bool)
      → Behind look free weight_of (λ _. TargetL shared) (λ p w. refuse_at {A = List BranchShape} past_limit p) (λ p w. refuse_at {A = List BranchShape} past_limit p)
  limit_weight shared = record {
    passes = λ m a w i s s₁ d e. stop≢ok e;
    stops = λ m a w i s n r e. inr (record {
      number = sym (stop_number {A = List BranchShape} e);
      place = sym (stop_place {A = List BranchShape} e);
      post = (target_t shared).word.0;
      bracket = λ t. no_weight_bracket look m w i a s.marks (placed m a ∷ ((target_t shared).word.0 ++ t));
      said = (target_t shared).word.1;
      same = λ u h. refl;
    });
    word = λ _. (target_t shared).word;
    sample = [];
  }

  -- the first mark of a weight alone is one

  past_t : (shared : Bool) → Steady look Always free (Saying (ManySaid (PlusSaid shared))) past_branches past_branches
  past_t shared = steady_as (past_said shared) (steady_bind (steady_sign "+") λ _ _ _. steady_behind (number 0) (whole 0) refl (limit_weight shared))

  more_branches_t : (shared : Bool) (f : ℕ) → Steady look Always free (Saying (ManySaid (PlusSaid shared))) (more_branches shared f) (more_branches shared f)
  more_branches_t shared = many_t (PlusSaid shared) "+" (next_branch shared) past_branches (plus_t shared)
      (steady_as (none_or (PlusSaid shared) (Saying (ManySaid (PlusSaid shared))) (λ ms r l. l)) (steady_next "+" (steady_on (Next "+") (past_t shared)) (steady_return [] [])))

-- ---- statements

rest_said : (shared : Bool) (ms r : Place) → ((Mark₁ "&" then GuardL Anything (TestedSaid shared) (joined_by all)) either Nil) ms r → Saying (RestSaid shared) ms r
rest_said shared ms r (inl (q, m, (g, d))) = let (a, e) = one_sign "&" ms q m in rw e (some g, guarded d)
rest_said shared ms r (inr e) = rw e (none, nothing)

guard_t : (shared : Bool) → Steady (test_next shared) Always free (Saying (RestSaid shared)) (guard shared) (guard shared)
unfolding guard
guard_t shared = steady_as (rest_said shared)
    (steady_next "&"
    (steady_on (Next "&") (steady_bind (steady_sign "&") λ _ _ _.
    steady_last (conjunction_t Anything (TestedSaid shared) (read_unary shared tested most_depth) (unary_t (test_next shared) Anything (TestedSaid shared) tested (card_leaves shared) most_depth)) λ g g₁ _.
    steady_return (some g) (some g₁)))
    (steady_return none none))

pub may_have_t : {Look : Type 0} {look : Place → Look} (n : ℕ) → Steady look Always free Nil (may_have n) (may_have n)
may_have_t n = record {
  passes = λ s s₁ d _ e. record { pre = []; split = ap (λ (x : State). x.marks) (ok_state e); said = λ t. refl; same = λ y h. (tt, ap (λ (x : State). ok tt (at y x.nodes)) (ok_state e), tt) };
  stops = λ s n r _ e. ok≢stop e;
  word = ([], λ t. refl);
  sample = tt;
}

statement_said : (shared : Bool) (ms r : Place)
    → (Saying (LineSaid statement_run) then One number_of then Saying (RestSaid shared) then Mark₁ "->" then Saying (BranchSaid shared) then Saying (ManySaid (PlusSaid shared)) then Mark₁ ";") ms r
    → Saying (StatementSaid shared) ms r
statement_said shared ms r (q, (ws, l), (q₁, n, (q₂, (g, d), (q₃, m, (q₄, (b, e), (q₅, (bs, f), c)))))) =
    let (j, a, w) = one_number q q₁ n in
    let (i, x) = one_sign "->" q₂ q₃ m in
    let (o, y) = one_sign ";" q₅ r c in
    (_, statement {a = a} {b = i} {c = o} (rw w at l) (rw x at d) e (rw y at f))

statement_t : (shared : Bool) → Steady (test_next shared) Always free (Saying (StatementSaid shared)) (read_statement shared) (read_statement shared)
statement_t shared = steady_as (statement_said shared)
    (steady_bind (line_t statement_run) λ ws ws₁ _. steady_bind (numbered_t number_t) λ j j₁ _. steady_silent (may_have_t most_nodes) λ _ _ _. steady_bind (guard_t shared) λ g g₁ _.
    steady_bind (steady_sign "->") λ _ _ _. steady_bind (branch_t shared) λ b b₁ _. steady_bind (more_branches_t shared (most_branches - 1)) λ bs bs₁ _. steady_silent steady_here λ p p₁ _.
    steady_last (steady_sign ";") λ _ _ _.
    steady_return (record { words = ws; own = j; guard = g; branches = b ∷ bs; close = p }) (record { words = ws₁; own = j₁; guard = g₁; branches = b₁ ∷ bs₁; close = p₁ }))

-- a thing that begins with a mark, behind that mark
abbrev BehindL : {A : Type 0} → String → Said A → Lang
BehindL t S ms r = (p : ℕ) → Saying S (sign_at t p ∷ ms) r

behind_said : {A : Type 0} (t : String) (S : Said A) (ms r : Place) → (Mark₁ t then BehindL t S) ms r → Saying (ManySaid S) ms r
behind_said t S ms r (q, m, k) =
    let (p, e) = one_sign t ms q m in
    let (x, d) = k p in
    rw e (x ∷ [], again d done)

module _ {A Look : Type 0} {look : Place → Look} (S : Said A) (t : String) (miss : is "(" (text (bytes t)) ≡ false) (one : Reader A) (x : Steady look Always free (Saying S) one one) (w : Word (BehindL t S)) where
  limited_t : (f : ℕ) → Steady look Always free (Saying (ManySaid S)) (many f t one (refuse past_limit)) (many f t one (refuse past_limit))
  limited_t = many_t S t one (refuse past_limit) x
      (steady_as (none_or S (Mark₁ t then BehindL t S) (behind_said t S)) (steady_next t (steady_limit t miss w []) (steady_return [] [])))

a_statement : (shared : Bool) → Word (BehindL "[" (StatementSaid shared))
a_statement shared = (
  sign_at "]" 0 ∷ placed (seat 1) 0 ∷ sign_at "=" 0 ∷ placed (number 0) 0 ∷ sign_at "->" 0 ∷ placed (number 1) 0 ∷ sign_at ":" 0 ∷ sign_at "(" 0 ∷ placed (seat 1) 0 ∷ sign_at "'" 0 ∷ sign_at "=" 0
      ∷ placed (number 0) 0 ∷ sign_at ")" 0 ∷ sign_at ";" 0 ∷ [],
  λ t p. (_, statement (fixed (fixed (a_seat (fixed ended)))) nothing (branch a_number (fixed (fixed (a_seat (fixed (fixed ended))))) keeps) done),
)

more_statements_t : (shared : Bool) (f : ℕ) → Steady (test_next shared) Always free (Saying (ManySaid (StatementSaid shared))) (more_statements shared f) (more_statements shared f)
more_statements_t shared = limited_t (StatementSaid shared) "[" refl (read_statement shared) (statement_t shared) (a_statement shared)

-- ---- the further modules

a_module : Word (BehindL "module" (LineSaid module_run))
a_module = (
  placed (process 2) 0 ∷ sign_at "=" 0 ∷ placed (process 1) 0 ∷ sign_at "[" 0 ∷ placed (seat 1) 0 ∷ sign_at "=" 0 ∷ placed (seat 2) 0 ∷ sign_at "," 0
      ∷ placed (seat 2) 0 ∷ sign_at "=" 0 ∷ placed (seat 1) 0 ∷ sign_at "]" 0 ∷ sign_at "endmodule" 0 ∷ [],
  λ t p. (_, fixed (a_process (fixed (a_process (fixed (a_seat (fixed (a_seat (fixed (a_seat (fixed (a_seat (fixed (fixed ended)))))))))))))),
)

more_modules_t : {Look : Type 0} {look : Place → Look} (f : ℕ) → Steady look Always free (Saying (ManySaid (LineSaid module_run))) (more_modules f) (more_modules f)
more_modules_t = limited_t (LineSaid module_run) "module" refl copy (line_t module_run) a_module

-- ---- ranges

abbrev limited : ℕ → Place → ℕ → Reader ℕ
limited most p k = when leb k most then return k else refuse_at past_limit p

zero→eq : (m : Mark) (v : ℕ) → zero_of m ≡ some v → m ≡ number 0
zero→eq m v e = go (number_of m) refl e
  where
    only : (w : ℕ) (b : Bool) → eqb w 0 ≡ b → (when b then some w else none) ≡ some v → number_of m ≡ some w → m ≡ number 0
    only w true y e i = number→eq m 0 (i ∙ ap some (eqb-true w 0 y))
    only w false y e i = none≢some e

    go : (o : Option ℕ) → number_of m ≡ o → only_zero o ≡ some v → m ≡ number 0
    go none i e = none≢some e
    go (some w) i e = only w (eqb w 0) refl e i

range_said : (ms r : Place) → (One zero_of then Mark₁ ".." then One number_of then Mark₁ "]" then Mark₁ "init" then One number_of then Mark₁ ";") ms r → Saying RangeSaid ms r
range_said ms r (q₁, (m, a, v, e, i), (q₂, s₂, (q₃, n₃, (q₄, s₄, (q₅, s₅, (q₆, n₆, s₇)))))) =
    let (b, w₂) = one_sign ".." q₁ q₂ s₂ in
    let (k, c, w₃) = one_number q₂ q₃ n₃ in
    let (d, w₄) = one_sign "]" q₃ q₄ s₄ in
    let (f, w₅) = one_sign "init" q₄ q₅ s₅ in
    let (j, g, w₆) = one_number q₅ q₆ n₆ in
    let (h, w₇) = one_sign ";" q₆ r s₇ in
    let line = placed (number 0) a ∷ sign_at ".." b ∷ placed (number k) c ∷ sign_at "]" d ∷ sign_at "init" f ∷ placed (number j) g ∷ sign_at ";" h ∷ r in
    let z : ms ≡ line = cc (zero→eq m v i) in
    rw z (_, range)

no_number_bracket : {Look : Type 0} (look : Place → Look) (m : Mark) (k : ℕ) → number_of m ≡ some k → (a : ℕ) (x y : Place) → SameBracket look (placed m a ∷ x) y
no_number_bracket look (text s) k i a x y e = none≢some i
no_number_bracket look (seat j) k i a x y e = absurd (false≢true e)
no_number_bracket look (process j) k i a x y e = absurd (false≢true e)
no_number_bracket look (number v) k i a x y e = absurd (false≢true e)
no_number_bracket look (decimal v n f) k i a x y e = absurd (false≢true e)
no_number_bracket look outside k i a x y e = absurd (false≢true e)

module _ {Look : Type 0} {look : Place → Look} where
  top_behind : (most : ℕ) → Behind look free number_of (λ _. Nil) (limited most) (limited most)
  top_behind most = record {
    passes = λ m a k i s s₁ d. passes m a k (leb k most) s s₁ d refl;
    stops = λ m a k i s n r. stops m a k i (leb k most) s n r refl;
    word = λ _. ([], λ t. refl);
    sample = 0;
  }
    where
      passes : (m : Mark) (a k : ℕ) (b : Bool) (s s₁ : State) (d : ℕ) → leb k most ≡ b
          → (when b then return k else refuse_at past_limit (placed m a ∷ s.marks)) s ≡ ok d s₁
          → Passed free Nil (λ s. limited most (placed m a ∷ s.marks) k s) s d s₁
      passes m a k true s s₁ d y e = record {
        pre = [];
        split = ap (λ (x : State). x.marks) (ok_state e);
        said = λ t. refl;
        same = λ u h. (k, rw y (ap (λ (x : State). ok k (at u x.nodes)) (ok_state e)), tt);
      }
      passes m a k false s s₁ d y e = stop≢ok e

      stops : (m : Mark) (a k : ℕ) → number_of m ≡ some k → (b : Bool) (s : State) (n : ℕ) (r : Place) → leb k most ≡ b
          → (when b then return k else refuse_at past_limit (placed m a ∷ s.marks)) s ≡ stop n r
          → Stopped look Nil (λ s. limited most (placed m a ∷ s.marks) k s) s n r
          ⊎ Refused look Nil (λ s. limited most (placed m a ∷ s.marks) k s) (placed m a) s.marks s.nodes n r
      stops m a k i true s n r y e = ok≢stop e
      stops m a k i false s n r y e = inr (record {
        number = sym (stop_number {A = ℕ} e);
        place = sym (stop_place {A = ℕ} e);
        post = [];
        bracket = λ t. no_number_bracket look m k i a s.marks (placed m a ∷ t);
        said = λ t. refl;
        same = λ u h. rw y;
      })

  top_t : (most : ℕ) → Steady look Always free (One number_of) (top most) (top most)
  top_t most = steady_as (λ ms r (m, p, v, q, e, i, z). (m, p, v, e ∙ ap (λ x. placed m p ∷ x) z, i)) (steady_behind (number 0) 0 refl (top_behind most))

  range_t : (most : ℕ) → Steady look Always free (Saying RangeSaid) (read_range most) (read_range most)
  range_t most = steady_as range_said
      (steady_bind (steady_free (steady_the zero_of (number 0) 0 refl)) λ z z₁ _. steady_bind (steady_sign "..") λ _ _ _. steady_bind (top_t most) λ k k₁ _. steady_bind (steady_sign "]") λ _ _ _.
      steady_bind (steady_sign "init") λ _ _ _. steady_bind (numbered_t number_t) λ l l₁ _. steady_last (steady_sign ";") λ _ _ _.
      steady_return (record { top = k; start = l }) (record { top = k₁; start = l₁ }))

  declaration_t : Steady look Always free (Saying (LineSaid shared_run) then Saying RangeSaid) declaration declaration
  declaration_t = steady_bind (line_t shared_run) λ _ _ _. range_t top_shared

-- ---- the card: whether it shares a number is told by its second mark

abbrev ModulesL : Bool → Lang
ModulesL shared =
    Saying (LineSaid card_run) then Saying RangeSaid then Saying (StatementSaid shared) then Saying (ManySaid (StatementSaid shared)) then Mark₁ "endmodule"
    then Saying (ManySaid (LineSaid module_run))

abbrev BodyL : Bool → Lang
BodyL false = One mode_of then ModulesL false
BodyL true = One mode_of then (Saying (LineSaid shared_run) then Saying RangeSaid) then ModulesL true

module _ (mode : Mode) (a : ℕ) {ms ns : Place} (g : Option Range) (d : SharedSaid ms g ns) where
  modules_said : ModulesL (is_some g) ns [] → (c : CardShape) × CardSaid (sign_at (mode_word mode) a ∷ ms) c
  modules_said (q₁, (ws, l), (q₂, (y, dy), (q₃, (x, dx), (q₄, (xs, ds), (q₅, s, (ys, dm)))))) =
      let (b, w) = one_sign "endmodule" q₄ q₅ s in
      (_, card {mode = mode} {a = a} {b = b} d l dy dx (rw w at ds) dm)

mode_said : (ms q : Place) (m : Mark) (p : ℕ) (d : Mode) → ms ≡ placed m p ∷ q → mode_of m ≡ some d → ms ≡ sign_at (mode_word d) p ∷ q
mode_said ms q m p d e i = e ∙ ap (λ o. placed o p ∷ q) (mode→eq m d i)

body_said : (shared : Bool) (ms : Place) → BodyL shared ms [] → (c : CardShape) × CardSaid ms c
body_said false ms (q, (m, p, d, e, i), l) = rw (mode_said ms q m p d e i) (modules_said d p none unshared l)
body_said true ms (q, (m, p, d, e, i), (q₁, (q₂, (ws, w), (x, y)), l)) =
    rw (mode_said ms q m p d e i) (modules_said d p (some x) (sharing w y) l)

-- `modules` of a number that is shared, or not
abbrev modules_by : Bool → Mode → Option Range → Reader CardShape
modules_by shared mode g =
    line card_run >>= λ ws. read_range top_state >>= λ r. read_statement shared >>= λ x. more_statements shared (most_statements - 1) >>= λ xs. sign "endmodule" >>= λ _.
    more_modules (most_seats - 1) >>= λ ms. return (record { mode = mode; shared = g; words = ws; k = r.top; l = r.start; statements = x ∷ xs; modules = ms })

modules_t : (shared : Bool) (m m₁ : Mode) (g g₁ : Option Range) → Steady (test_next shared) Always free (ModulesL shared) (modules_by shared m g) (modules_by shared m₁ g₁)
modules_t shared m m₁ g g₁ =
    steady_bind (line_t card_run) λ ws ws₁ _. steady_bind (range_t top_state) λ r r₁ _. steady_bind (statement_t shared) λ x x₁ _. steady_bind (more_statements_t shared (most_statements - 1)) λ xs xs₁ _.
    steady_bind (steady_sign "endmodule") λ _ _ _. steady_last (more_modules_t (most_seats - 1)) λ ms ms₁ _.
    steady_return (record { mode = m; shared = g; words = ws; k = r.top; l = r.start; statements = x ∷ xs; modules = ms })
    (record { mode = m₁; shared = g₁; words = ws₁; k = r₁.top; l = r₁.start; statements = x₁ ∷ xs₁; modules = ms₁ })

mode_t : {Look : Type 0} {look : Place → Look} → Steady look Always free (One mode_of) (the mode_of) (the mode_of)
mode_t = steady_free (steady_the mode_of (text (bytes "probabilistic")) probabilistic refl)

-- behind the mode
shares_next : (b : Bool) (s s₁ : State) (m : Mode) → shares s.marks ≡ b → the mode_of s ≡ ok m s₁ → next_is "global" s₁.marks ≡ b
shares_next b s s₁ m h = the_took mode_of s s₁ m _ λ k p q i n. rw q at h

declared_t : (m m₁ : Mode)
    → Steady (test_next true) Always free ((Saying (LineSaid shared_run) then Saying RangeSaid) then ModulesL true) (declaration >>= λ g. modules m (some g)) (declaration >>= λ g. modules m₁ (some g))
declared_t m m₁ = steady_bind declaration_t λ g g₁ _. modules_t true m m₁ (some g) (some g₁)

body_t : (shared : Bool) → Steady (test_next shared) (λ ms. shares ms ≡ shared) free (BodyL shared) body body
body_t false = steady_into (shares_next false) (steady_on _ mode_t) λ m m₁ _.
    steady_left "global" (λ ms h. h) (steady_on _ (modules_t false m m₁ none none))
body_t true = steady_into (shares_next true) (steady_on _ mode_t) λ m m₁ _. steady_taken "global" (λ ms h. h) (steady_on _ (declared_t m m₁))

-- ---- a whole: a thing and then the end

-- where reading stops, the marks before can be completed; with the mark there too, if it passes a limit
pub data CauseIn {C Look : Type 0} (look : Place → Look) (Said : Place → C → Type 0) (pre : Place) (n : ℕ) (r : Place) : Type 0 where
  unfits : n ≡ out_of_shape → CompletableIn Said pre → CauseIn look Said pre n r
  exceeds : n ≡ past_limit → (m : Placed) (x post : Place) → r ≡ m ∷ x → SameBracket look (m ∷ x) (m ∷ post) → (c : C) → Said (pre ++ (m ∷ post)) c
      → CauseIn look Said pre n r

pub record HaltedIn {C Look : Type 0} (look : Place → Look) (Said : Place → C → Type 0) (read : Reader C) (ms : Place) (i n : ℕ) (r : Place) : Type 0 where
  pub pre : Place
  pub split : ms ≡ pre ++ r
  pub cause : CauseIn look Said pre n r
  pub same : (y : Place) → Alike look n r y → read (at (pre ++ y) i) ≡ stop n y

abbrev pub to_end : {C : Type 0} → Reader C → Reader C
to_end read = read >>= λ c. the_end >>= λ _. return c

module _ {C Look : Type 0} {look : Place → Look} {P : Place → Type 0} (Said : Place → C → Type 0) (L : Lang) (said : (ms : Place) → L ms [] → (c : C) × Said ms c) (read : Reader C)
    (x : Steady look P free L read read) where
  -- what is read has the shape
  pub whole_passes : (ms : Place) (n : ℕ) → P ms → (c : C) (s : State) → to_end read (at ms n) ≡ ok c s → (d : C) × Said ms d
  whole_passes ms n h c s = through (read (at ms n)) _ c s _ λ b s₁ e. through (the_end s₁) _ c s _ λ u s₂ e₁ _.
      let w = x.passes (at ms n) s₁ b h e in
      let z : ms ≡ w.pre ++ [] = w.split ∙ ap (λ x. w.pre ++ x) (nothing_left s₁.marks s₁.nodes u s₂ e₁) in
      rw z (said (w.pre ++ []) (w.said []))
    where
      nothing_left : (l : Place) (k : ℕ) (u : Unit {0}) (s : State) → read_end l k ≡ ok u s → l ≡ []
      nothing_left [] k u s e = refl
      nothing_left (x ∷ l) k u s e = stop≢ok e

  whole_cause : (pre : Place) (n : ℕ) (r : Place) → Cause look L pre n r → CauseIn look Said pre n r
  whole_cause pre n r (unfit e post f) = let (c, d) = said (pre ++ (post ++ [])) (f []) in unfits e (post ++ [], c, d)
  whole_cause pre n r (excess e m x post z k f) = let (c, d) = said (pre ++ (m ∷ (post ++ []))) (f []) in exceeds e m x (post ++ []) z (k []) c d

  pub whole_stops : (ms : Place) (i : ℕ) → P ms → (n : ℕ) (r : Place) → to_end read (at ms i) ≡ stop n r → HaltedIn look Said (to_end read) ms i n r
  whole_stops ms i o n r = stopped (read (at ms i)) _ n r _
      (λ e. let w = x.stops (at ms i) n r o e in
      record { pre = w.pre; split = w.split; cause = whole_cause w.pre n r w.cause; same = λ y h. rw (w.same y h) })
      (λ b s e. stopped (the_end s) _ n r _
      (λ e₁.
      let w = x.passes (at ms i) s b o e in
      let (k, z, f) = something_left s.marks s.nodes e₁ in
      record {
        pre = w.pre;
        split = w.split ∙ ap (λ x. w.pre ++ x) z;
        cause = let (c, d) = said (w.pre ++ []) (w.said []) in unfits k ([], c, d);
        same = λ y h. let v = w.same y (ap head? z ∙ h.0) in rw v.1 (rw (f y s.nodes h.0));
      })
      (λ u s₁ e₁ e₂. ok≢stop e₂))
    where
      stays : (m : Placed) (l : Place) → out_of_shape ≡ n → m ∷ l ≡ r → (y : Place) (j : ℕ) → SameHead r y → read_end y j ≡ stop n y
      stays m l k z [] j h = none≢some (sym h ∙ ap head? (sym z))
      stays m l k z (o ∷ y) j h = rw (← k)

      something_left : (l : Place) (k : ℕ) → read_end l k ≡ stop n r → (n ≡ out_of_shape) × (l ≡ r) × ((y : Place) (j : ℕ) → SameHead r y → read_end y j ≡ stop n y)
      something_left [] k e = ok≢stop e
      something_left (m ∷ l) k e =
          let z = stop_number {A = Unit {0}} e in
          let w = stop_place {A = Unit {0}} e in
          (sym z, w, stays m l z w)

-- no limit is passed at the mode
pub mode_within : (m : Placed) (y : Place) → read_card (at (m ∷ y) zero) ≡ stop past_limit (m ∷ y) → ⊥
mode_within (placed m p) y = stopped (body (at (placed m p ∷ y) zero)) _ past_limit (placed m p ∷ y) ⊥
    (stopped (the mode_of (at (placed m p ∷ y) zero)) _ past_limit (placed m p ∷ y) ⊥
    (the_stopped mode_of (at (placed m p ∷ y) zero) past_limit (placed m p ∷ y) ⊥ (λ z _ _. omega arith))
    (λ d s e. the_took mode_of (at (placed m p ∷ y) zero) s d _ (λ k q c i n. later d s (tail-eq_of_cons-eq c)) e))
    (λ c s e. stopped (the_end s) _ past_limit (placed m p ∷ y) ⊥ (λ e₁. no_end s.marks s.nodes e₁) (λ u s₁ e₁ e₂. ok≢stop e₂))
  where
    no_end : (l : Place) (k : ℕ) → read_end l k ≡ stop past_limit (placed m p ∷ y) → ⊥
    no_end [] k e = ok≢stop e
    no_end (o ∷ l) k e = let z : out_of_shape ≡ past_limit = stop_number {A = Unit {0}} e in omega arith

    longer : (pre : Place) → y ≡ pre ++ (placed m p ∷ y) → ⊥
    longer pre e = let z : length y ≡ length (pre ++ (placed m p ∷ y)) = ap length e in omega (arith, length-append pre (placed m p ∷ y))

    later : (d : Mode) (s : State) → y ≡ s.marks → if_next "global" (declaration >>= λ g. modules d (some g)) (modules d none) s ≡ stop past_limit (placed m p ∷ y) → ⊥
    later d s c = chose_stop (next_is "global" s.marks) _ _ s past_limit (placed m p ∷ y) ⊥
        (λ _ e. let w = (declared_t d d).stops s past_limit (placed m p ∷ y) tt e in longer w.pre (c ∙ w.split))
        (λ _ e. let w = (modules_t false d d none none).stops s past_limit (placed m p ∷ y) tt e in longer w.pre (c ∙ w.split))

abbrev pub CardCause : Place → Place → ℕ → Place → Type 0
CardCause ms pre n r = CauseIn (test_next (shares ms)) CardSaid pre n r

-- what is read has a card's shape
pub card_passes : (ms : Place) (n : ℕ) (c : CardShape) (s : State) → read_card (at ms n) ≡ ok c s → (d : CardShape) × CardSaid ms d
card_passes ms n = whole_passes CardSaid (BodyL (shares ms)) (body_said (shares ms)) body (body_t (shares ms)) ms n refl

pub card_stops : (ms : Place) (i n : ℕ) (r : Place) → read_card (at ms i) ≡ stop n r → HaltedIn (test_next (shares ms)) CardSaid read_card ms i n r
card_stops ms i = whole_stops CardSaid (BodyL (shares ms)) (body_said (shares ms)) body (body_t (shares ms)) ms i refl
