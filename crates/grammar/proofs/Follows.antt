-- Reading follows the grammar: on marks that have a shape the reader comes to its end and hands back what the shape says, unless
-- something counted passes its limit; then it stops at the first that does. By induction over what is said. Assumes nothing.
use Prim.Native.Nat.{ℕ, zero, suc, ◌+◌, ◌-◌, ◌≤◌, ◌<◌}
use Prim.Native.String.{String}
use mathlib.Core.Path.{◌≡◌, refl, sym, ◌∙◌, subst}
use mathlib.Core.Bool.{Bool, true, false, ◌&&◌}
use mathlib.Core.List.{List, [], ◌∷◌, ◌++◌, append_assoc}
use mathlib.Core.Option.{Option, none, some}
use native.Mathlib.Omega.{arith}
use native.Mathlib.Decide.{dec_le}
use borrow.Author.Tests.{le-leb, lt-leb}
use lib.ListN.{length}
use Rattle.card.specs.Limits.{most_seats, top_state, top_shared, most_statements, most_branches, most_nodes, most_depth}
use Rattle.card.specs.Refusals.{past_limit}
use Rattle.card.specs.Text.{bytes, same}
use Rattle.card.specs.Card.{Mode, nondeterministic, probabilistic, Sign, all, any, is as eq, isnt as ne, Formula, atom, neg}
use Rattle.card.specs.Weight.{Weight}
use Rattle.card.specs.Valid.{size, Every}
use Rattle.marks_on_a_card.specs.Marks.{number, placed}
use Rattle.reading.specs.Reader.{Place, State, at, Result, ok, stop, Reader, bind, ◌>>=◌, ◌>>◌, return, refuse, the, next_is, if_next, sign, here, Numbered, Item, exactly, line}
use Rattle.reading.specs.Guard.{is_some, seat_next, test_next, Read, chain, conjunction, expression, unary_by}
use Rattle.reading.specs.Guard.{grouped as read_grouped}
use Rattle.reading.specs.Group.{joint, Literal, Literals, literal as read_literal, others, group, Tested, tested}
use Rattle.reading.specs.Shape.{BranchShape, StatementShape, Range, CardShape, many, weight, sets, branch as read_branch, next_branch, past_branches, more_branches, guard, statement as read_statement, more_statements, copy, more_modules, mode_of, range as read_range, modules, body, card as read_card, the_end}
use Rattle.grammar.specs.Grammar.{Said, sign_at, valued, LineSaid, ended, fixed, a_seat, a_process, card_run, module_run, ManySaid, done, again, LiteralSaid, literal, OthersSaid, close, next, GroupSaid, conjoined, disjoined, shared_test, TestedSaid, test_seats, test_shared, Part, unary, joined_by, operand, joining, GuardSaid, FormulaSaid, Anything, grouped, negated, bracketed, single, further}
use Rattle.grammar.specs.Grammar.{RestSaid, nothing, guarded, WeightSaid, a_number, a_ratio, a_decimal, SetSaid, keeps, sets_to, BranchSaid, branch, PlusSaid, plus, StatementSaid, statement, mode_word, RangeSaid, range, unshared, sharing, CardSaid, card}
use Rattle.grammar.specs.Counted.{Counted, counted, Within, Past, FirstPast, counted_guard, counted_rest, counted_many, counted_plus, counted_statement, counted_module, counted_range, counted_card}
use Rattle.reading.proofs.Through.{same_refl}

-- ---- what is counted

every_join : {A : Type 0} (P : A → Type 0) (xs ys : List A) → Every P xs → Every P ys → Every P (xs ++ ys)
every_join P [] ys h k = k
every_join P (x ∷ xs) ys h k = (h.0, every_join P xs ys h.1 k)

pub past_left : (cs ds : List Counted) (q : Place) → FirstPast cs q → FirstPast (cs ++ ds) q
past_left cs ds q f = record {
  before = f.before;
  first = f.first;
  after = f.after ++ ds;
  split = rw (f.split, append_assoc f.before (f.first ∷ f.after) ds);
  within = f.within;
  past = f.past;
  place = f.place;
}

pub past_right : (cs ds : List Counted) (q : Place) → Every Within cs → FirstPast ds q → FirstPast (cs ++ ds) q
past_right cs ds q w f = record {
  before = cs ++ f.before;
  first = f.first;
  after = f.after;
  split = rw (f.split, append_assoc cs f.before (f.first ∷ f.after));
  within = every_join Within cs f.before w f.within;
  past = f.past;
  place = f.place;
}

past_here : (c : Counted) (ds : List Counted) → Past c → FirstPast (c ∷ ds) c.place
past_here c ds h = record { before = []; first = c; after = ds; split = refl; within = tt; past = h; place = refl }

-- ---- what reading came to

-- to its end, with so many nodes left that P holds
abbrev pub Came : {A : Type 0} → (ℕ → Type 0) → A → Place → Result A → Type 0
Came P a r x = (n : ℕ) × (x ≡ ok a (at r n)) × P n

abbrev pub Anyway : ℕ → Type 0
Anyway n = Unit {0}

-- nothing passed its limit, and it came to K; or it stopped at the first that did
pub data Ran {A : Type 0} (cs : List Counted) (K : Result A → Type 0) (x : Result A) : Type 0 where
  came : Every Within cs → K x → Ran cs K x
  fell : (q : Place) → FirstPast cs q → x ≡ stop past_limit q → Ran cs K x

module _ {A : Type 0} {cs : List Counted} {J K : Result A → Type 0} {x : Result A} where
  pub ran_as : (J x → K x) → Ran cs J x → Ran cs K x
  ran_as h (came w j) = came w (h j)
  ran_as h (fell q f e) = fell q f e

behind : {A : Type 0} (cs : List Counted) {ds : List Counted} {K : Result A → Type 0} {x : Result A} → Every Within cs → Ran ds K x → Ran (cs ++ ds) K x
behind cs {ds} w (came v k) = came (every_join Within cs ds w v) k
behind cs {ds} w (fell q f e) = fell q (past_right cs ds q w f) e

module _ {A : Type 0} {cs : List Counted} (ds : List Counted) {J K : Result A → Type 0} {x : Result A} where
  ran_on : Ran cs J x → (J x → Ran ds K x) → Ran (cs ++ ds) K x
  ran_on (came w j) h = behind cs w (h j)
  ran_on (fell q f e) h = fell q (past_left cs ds q f) e

module _ {A : Type 0} {c : Counted} {ds : List Counted} {K : Result A → Type 0} {x : Result A} where
  ran_one : (Within c → Ran ds K x) → (Past c → x ≡ stop past_limit c.place) → Ran (c ∷ ds) K x
  ran_one h k = go (dec_le c.number c.most)
    where
      go : Dec (Within c) → Ran (c ∷ ds) K x
      go (yes w) = behind (c ∷ []) (w, tt) (h w)
      go (no w) = let p : Past c = omega arith in fell c.place (past_here c ds p) (k p)

module _ {A B : Type 0} {cs : List Counted} (ds : List Counted) {P : ℕ → Type 0} {a : A} {q : Place} {K : Result B → Type 0} (f : A → Reader B) {x : Result A} where
  ran_bind : Ran cs (Came P a q) x → ((n : ℕ) → P n → Ran ds K (f a (at q n))) → Ran (cs ++ ds) K (bind x f)
  ran_bind (came w (n, e, p)) h = rw e (behind cs w (h n p))
  ran_bind (fell z g e) h = rw e (fell z (past_left cs ds z g) refl)

module _ {A B : Type 0} {cs : List Counted} {P : ℕ → Type 0} {a : A} {q : Place} {K : Result B → Type 0} (f : A → Reader B) {x : Result A} where
  pub ran_last : Ran cs (Came P a q) x → ((n : ℕ) → P n → K (f a (at q n))) → Ran cs K (bind x f)
  ran_last (came w (n, e, p)) h = rw e (came w (h n p))
  ran_last (fell z g e) h = rw e (fell z g refl)

-- ---- runs and groups

pub line_reads : {items : List Item} {ms r : Place} {ws : List Numbered} → LineSaid items ms ws r → (n : ℕ) → line items (at ms n) ≡ ok ws (at r n)
line_reads ended n = refl
line_reads (fixed {t} d) n = rw (same_refl (bytes t)) (line_reads d n)
line_reads (a_seat d) n = rw (line_reads d n)
line_reads (a_process d) n = rw (line_reads d n)

pub literal_reads : {ms r : Place} {l : Literal} → LiteralSaid ms l r → (n : ℕ) → read_literal (at ms n) ≡ ok l (at r n)
literal_reads (literal {q = eq}) n = refl
literal_reads (literal {q = ne}) n = refl

pub literal_shrinks : {ms r : Place} {l : Literal} → LiteralSaid ms l r → length r ≤ length ms
literal_shrinks literal = omega arith

pub joint_next : (s : Sign) → same (bytes (joint s)) (bytes (joint s)) ≡ true
joint_next s = same_refl (bytes (joint s))

pub close_not : (s : Sign) → same (bytes ")") (bytes (joint s)) ≡ false
close_not all = refl
close_not any = refl

-- with as many marks left as there are
pub others_reads : {s : Sign} {ms r : Place} {ls : List Literal} → OthersSaid s ms ls r → (f : ℕ) → length ms ≤ f → (n : ℕ)
    → others (joint s) f (at ms n) ≡ ok ls (at r n)
others_reads (close {a} {r}) zero h n = absurd (omega arith)
others_reads {s} close (suc f) h n = rw (close_not s)
others_reads (next l o) zero h n = absurd (omega arith)
others_reads {s} (next l o) (suc f) h n = rw (joint_next s, joint_next s, literal_reads l n, others_reads o f (omega (arith, literal_shrinks l)) n)

and_next : {ms r : Place} {ls : List Literal} → OthersSaid all ms ls r → next_is "|" ms ≡ false
and_next close = refl
and_next (next l o) = refl

or_next : {ms r : Place} {k : Literal} {ls : List Literal} → OthersSaid any ms (k ∷ ls) r → next_is "|" ms ≡ true
or_next (next l o) = refl

pub group_reads : {p ms r : Place} {x : Literals} → GroupSaid p ms x r → (n : ℕ) → group p (at ms n) ≡ ok x (at r n)
group_reads (conjoined {ns = ns} l o) n = rw (literal_reads l n, and_next o, others_reads o (length ns) (omega arith) n)
group_reads (disjoined {ns = ns} l o) n = rw (literal_reads l n, or_next o, others_reads o (length ns) (omega arith) n)

pub group_opens : {p ms r : Place} {x : Literals} → GroupSaid p ms x r → seat_next ms ≡ true
group_opens (conjoined literal o) = refl
group_opens (disjoined literal o) = refl

pub group_no_number : {p ms r : Place} {x : Literals} → GroupSaid p ms x r → next_is "g" ms ≡ false
group_no_number (conjoined literal o) = refl
group_no_number (disjoined literal o) = refl

-- ---- tests

pub test_reads : {shared : Bool} {p ms r : Place} {x : Tested} → TestedSaid shared p ms x r → (n : ℕ) → tested p (at ms n) ≡ ok x (at r n)
test_reads (test_seats d) n = rw (group_no_number d, group_reads d n)
test_reads (test_shared (shared_test {q = eq})) n = refl
test_reads (test_shared (shared_test {q = ne})) n = refl

test_opens : {shared : Bool} {p ms r : Place} {x : Tested} → TestedSaid shared p ms x r → test_next shared ms ≡ true
test_opens (test_seats d) = rw (group_opens d)
test_opens (test_shared shared_test) = refl

-- ---- guards, over a reader of what a group is

pub and_false : (b : Bool) → b && false ≡ false
and_false true = refl
and_false false = refl

pub guard_no_test : {shared : Bool} {v : Part} {ms r : Place} {g : Formula Tested} → GuardSaid (TestedSaid shared) v ms g r → test_next shared ms ≡ false
guard_no_test {shared} (grouped x) = and_false shared
guard_no_test {shared} (negated u) = and_false shared
guard_no_test {shared} (bracketed f u) = and_false shared
guard_no_test (single u) = guard_no_test u
guard_no_test (further us u) = guard_no_test us

-- `starts` holds behind each group's bracket, and behind no expression's
module _ {A : Type 0} (starts : Place → Bool) (Free : Place → Type 0) (Group : Place → Said A) (p : Place → Reader A)
    (opens : (q ms r : Place) (x : A) → Group q ms x r → starts ms ≡ true)
    (shuts : (ms r : Place) (g : Formula A) → Free ms → FormulaSaid Free Group (joined_by any) ms g r → starts ms ≡ false)
    (reads : (q ms r : Place) (x : A) → Group q ms x r → (n : ℕ) → p q (at ms n) ≡ ok x (at r n)) where
  read_operand : ℕ → Sign → Read A
  read_operand d all = unary_by starts p d
  read_operand d any = conjunction (unary_by starts p d)

  abbrev read_joined : ℕ → Sign → Read A
  read_joined d s = λ st. bind (read_operand d s st) (chain (joint s) (joining s) (read_operand d s) most_nodes)

  -- what may follow an operand
  abbrev Quiet : Sign → Place → Type 0
  Quiet all r = Unit {0}
  Quiet any r = next_is "&" r ≡ false

  quiet_sign : (s : Sign) (a : ℕ) (ns : Place) → Quiet s (sign_at (joint s) a ∷ ns)
  quiet_sign all a ns = tt
  quiet_sign any a ns = refl

  size_joined : (s : Sign) (g h : Formula A) → size (joining s g h) ≡ suc (size g + size h)
  size_joined all g h = refl
  size_joined any g h = refl

  abbrev Ends : ℕ → Formula A → Place → Result (Formula A) → Type 0
  Ends n g r = Came (λ left. n ≡ size g + left) g r

  -- it has read an operand more, and may go on
  abbrev Chained : Sign → ℕ → ℕ → Formula A → Place → Result (Formula A) → Type 0
  Chained s d n g r x =
      (f left : ℕ) × (x ≡ chain (joint s) (joining s) (read_operand d s) f g (at r left)) × (n ≡ size g + left) × (left ≤ f)

  chain_ends : (s : Sign) (d f : ℕ) (g : Formula A) (r : Place) (n : ℕ) → next_is (joint s) r ≡ false
      → chain (joint s) (joining s) (read_operand d s) f g (at r n) ≡ ok g (at r n)
  chain_ends s d zero g r n e = rw e
  chain_ends s d (suc f) g r n e = rw e

  chained_ends : (s : Sign) (d n : ℕ) (g : Formula A) (r : Place) (x : Result (Formula A)) → next_is (joint s) r ≡ false → Chained s d n g r x → Ends n g r x
  chained_ends s d n g r x q (f, left, e, m, l) = (left, e ∙ chain_ends s d f g r left q, m)

  -- so many brackets and `!`, and nodes, are left
  abbrev Aim : (v : Part) (ms r : Place) (g : Formula A) → FormulaSaid Free Group v ms g r → Type 0
  Aim unary ms r g u = (d n around nodes : ℕ) → around + d ≡ most_depth → nodes + n ≡ most_nodes
      → Ran (counted_guard nodes around u) (Ends n g r) (unary_by starts p d (at ms n))
  Aim (joined_by s) ms r g u = (d n around nodes : ℕ) → around + d ≡ most_depth → nodes + n ≡ most_nodes → Quiet s r
      → Ran (counted_guard nodes around u) (Chained s d n g r) (read_joined d s (at ms n))

  as_operand : (s : Sign) (ms r : Place) (g : Formula A) (u : FormulaSaid Free Group (operand s) ms g r) → Aim (operand s) ms r g u
      → (d n around nodes : ℕ) → around + d ≡ most_depth → nodes + n ≡ most_nodes → Quiet s r
      → Ran (counted_guard nodes around u) (Ends n g r) (read_operand d s (at ms n))
  unfolding read_operand
  as_operand all ms r g u h d n around nodes e e₁ q = h d n around nodes e e₁
  as_operand any ms r g u h d n around nodes e e₁ q = ran_as (chained_ends all d n g r _ q) (h d n around nodes e e₁ tt)

  -- behind its bracket
  behind_bracket : (d a : ℕ) (ms : Place) (n : ℕ) → starts ms ≡ true → unary_by starts p d (at (sign_at "(" a ∷ ms) n) ≡ read_grouped p (sign_at "(" a ∷ ms) (at ms n)
  behind_bracket zero a ms n e = rw e
  behind_bracket (suc d) a ms n e = rw e

  group_runs : (a : ℕ) (ms r : Place) (x : A) → Group (sign_at "(" a ∷ ms) ms x r → (d n nodes : ℕ) → nodes + n ≡ most_nodes
      → Ran (counted (suc nodes) most_nodes (sign_at "(" a ∷ ms) ∷ []) (Ends n (atom x) r) (unary_by starts p d (at (sign_at "(" a ∷ ms) n))
  group_runs a ms r x s d n nodes e = rw (behind_bracket d a ms n (opens _ ms r x s)) (go n e)
    where
      go : (n : ℕ) → nodes + n ≡ most_nodes
          → Ran (counted (suc nodes) most_nodes (sign_at "(" a ∷ ms) ∷ []) (Ends n (atom x) r) (read_grouped p (sign_at "(" a ∷ ms) (at ms n))
      go zero e = ran_one (λ w. absurd (omega arith)) (λ _. refl)
      go (suc n) e = ran_one (λ w. came tt (n, rw (reads _ ms r x s n), omega arith)) (λ w. absurd (omega arith))

  -- a group adds a node, and no depth
  grouped_runs : (a : ℕ) (ms r : Place) (x : A) (s : Group (sign_at "(" a ∷ ms) ms x r) → Aim unary (sign_at "(" a ∷ ms) r (atom x) (grouped s)
  grouped_runs a ms r x s d n around nodes e e₁ = group_runs a ms r x s d n nodes e₁

  neg_runs : (a : ℕ) (ms r : Place) (g : Formula A) (u : FormulaSaid Free Group unary ms g r) → Aim unary ms r g u → Aim unary (sign_at "!" a ∷ ms) r (neg g) (negated u)
  neg_runs a ms r g u h zero zero around nodes e e₁ = ran_one (λ w. absurd (omega arith)) (λ _. refl)
  neg_runs a ms r g u h zero (suc n) around nodes e e₁ = ran_one (λ w. ran_one (λ v. absurd (omega arith)) (λ _. refl)) (λ _. refl)
  neg_runs a ms r g u h (suc d) zero around nodes e e₁ = ran_one (λ w. absurd (omega arith)) (λ _. refl)
  neg_runs a ms r g u h (suc d) (suc n) around nodes e e₁ = ran_one (λ w. ran_one (λ v. on) (λ v. absurd (omega arith))) (λ w. absurd (omega arith))
    where
      on : Ran (counted_guard (suc nodes) (suc around) u) (Ends (suc n) (neg g) r) (unary_by starts p (suc d) (at (sign_at "!" a ∷ ms) (suc n)))
      on = ran_last (λ k. return (neg k)) (h d n (suc around) (suc nodes) (omega arith) (omega arith)) λ left q. (left, refl, omega arith)

  bracket_runs : (a b : ℕ) (ms r : Place) (g : Formula A) (f : Free ms) (u : FormulaSaid Free Group (joined_by any) ms g (sign_at ")" b ∷ r)) → Aim (joined_by any) ms (sign_at ")" b ∷ r) g u
      → Aim unary (sign_at "(" a ∷ ms) r g (bracketed f u)
  unfolding read_operand
  bracket_runs a b ms r g f u h zero n around nodes e e₁ = ran_one (λ w. absurd (omega arith)) (λ _. rw (shuts ms (sign_at ")" b ∷ r) g f u))
  bracket_runs a b ms r g f u h (suc d) n around nodes e e₁ = ran_one (λ w. on) (λ w. absurd (omega arith))
    where
      inner : Ran (counted_guard nodes (suc around) u) (Ends n g (sign_at ")" b ∷ r)) (expression (unary_by starts p d) (at ms n))
      inner = ran_as (chained_ends any d n g (sign_at ")" b ∷ r) _ refl) (h d n (suc around) nodes (omega arith) e₁ refl)

      on : Ran (counted_guard nodes (suc around) u) (Ends n g r) (unary_by starts p (suc d) (at (sign_at "(" a ∷ ms) n))
      on = rw (shuts ms (sign_at ")" b ∷ r) g f u) (ran_last (λ k. sign ")" >> return k) inner λ left q. (left, refl, omega arith))

  single_runs : (s : Sign) (ms r : Place) (g : Formula A) (u : FormulaSaid Free Group (operand s) ms g r) → Aim (operand s) ms r g u → Aim (joined_by s) ms r g (single u)
  single_runs s ms r g u h d n around nodes e e₁ q =
      ran_last (chain (joint s) (joining s) (read_operand d s) most_nodes) (as_operand s ms r g u h d n around nodes e e₁ q) λ left m. (most_nodes, left, refl, m, omega arith)

  further_runs : (s : Sign) (a : ℕ) (ms ns r : Place) (g h : Formula A) (us : FormulaSaid Free Group (joined_by s) ms g (sign_at (joint s) a ∷ ns)) (u : FormulaSaid Free Group (operand s) ns h r)
      → Aim (joined_by s) ms (sign_at (joint s) a ∷ ns) g us → Aim (operand s) ns r h u → Aim (joined_by s) ms r (joining s g h) (further us u)
  further_runs s a ms ns r g h us u k₁ k₂ d n around nodes e e₁ q =
      ran_on _ (k₁ d n around nodes e e₁ (quiet_sign s a ns)) λ (f, left, y, m, l). on f left y m l
    where
      goes : (f : ℕ) → Formula A → Read A
      goes f k = chain (joint s) (joining s) (read_operand d s) f (joining s g k)

      last : (f left : ℕ) → n ≡ size g + suc left → suc left ≤ suc f
          → Ran (counted_guard (suc (nodes + size g)) around u) (Chained s d n (joining s g h) r) (bind (read_operand d s (at ns left)) (goes f))
      last f left m l =
          ran_last (goes f) (as_operand s ns r h u k₂ d left around (suc (nodes + size g)) e (omega arith) q) λ rest i.
          (f, rest, refl, omega (arith, size_joined s g h), omega arith)

      on : (f left : ℕ) → read_joined d s (at ms n) ≡ chain (joint s) (joining s) (read_operand d s) f g (at (sign_at (joint s) a ∷ ns) left) → n ≡ size g + left
          → left ≤ f
          → Ran (counted (suc (nodes + size g)) most_nodes (sign_at (joint s) a ∷ ns) ∷ counted_guard (suc (nodes + size g)) around u) (Chained s d n (joining s g h) r) (read_joined d s (at ms n))
      on zero zero y m l = ran_one (λ w. absurd (omega arith)) (λ _. y ∙ rw (same_refl (bytes (joint s))))
      on zero (suc left) y m l = absurd (omega arith)
      on (suc f) zero y m l = ran_one (λ w. absurd (omega arith)) (λ _. y ∙ rw (same_refl (bytes (joint s))))
      on (suc f) (suc left) y m l =
          let z : read_joined d s (at ms n) ≡ bind (read_operand d s (at ns left)) (goes f) = y ∙ rw (same_refl (bytes (joint s)), same_refl (bytes (joint s))) in
          ran_one (λ w. subst (λ x. Ran (counted_guard (suc (nodes + size g)) around u) (Chained s d n (joining s g h) r) x) (sym z) (last f left m l))
          (λ w. absurd (omega arith))

  runs : {v : Part} {ms r : Place} {g : Formula A} (u : FormulaSaid Free Group v ms g r) → Aim v ms r g u
  runs (grouped {a} {ms} {r} {x} s) = grouped_runs a ms r x s
  runs (negated {a} {ms} {r} {g} u) = neg_runs a ms r g u (runs u)
  runs (bracketed {a} {b} {ms} {r} {g} f u) = bracket_runs a b ms r g f u (runs u)
  runs (single {s} {ms} {r} {g} u) = single_runs s ms r g u (runs u)
  runs (further {s} {a} {ms} {ns} {r} {g} {h} us u) = further_runs s a ms ns r g h us u (runs us) (runs u)

  pub expression_runs : {ms r : Place} {g : Formula A} (u : FormulaSaid Free Group (joined_by any) ms g r) → next_is "&" r ≡ false → next_is "|" r ≡ false
      → Ran (counted_guard 0 0 u) (Came Anyway g r) (expression (unary_by starts p most_depth) (at ms most_nodes))
  unfolding read_operand
  expression_runs {r = r} {g} u q q₁ = ran_as (λ h. let k = chained_ends any most_depth most_nodes g r _ q₁ h in (k.0, k.1, tt)) (runs u most_depth most_nodes 0 0 refl refl q)

  conjunction_runs : {ms r : Place} {g : Formula A} (u : FormulaSaid Free Group (joined_by all) ms g r) → next_is "&" r ≡ false
      → Ran (counted_guard 0 0 u) (Came Anyway g r) (conjunction (unary_by starts p most_depth) (at ms most_nodes))
  unfolding read_operand
  conjunction_runs {r = r} {g} u q = ran_as (λ h. let k = chained_ends all most_depth most_nodes g r _ q h in (k.0, k.1, tt)) (runs u most_depth most_nodes 0 0 refl refl tt)

if_not : {A : Type 0} (t : String) (p q : Reader A) (s : State) → next_is t s.marks ≡ false → if_next t p q s ≡ q s
if_not t p q s e = rw e

-- behind the test of the own state unaries are joined by `&` alone
abbrev joined_by_and : {shared : Bool} {a : ℕ} {ms r : Place} {g : Formula Tested} → RestSaid shared (sign_at "&" a ∷ ms) (some g) r → GuardSaid (TestedSaid shared) (joined_by all) ms g r
joined_by_and (guarded u) = u

rest_runs : {shared : Bool} {ms r : Place} {g : Option (Formula Tested)} (u : RestSaid shared ms g r) → next_is "&" r ≡ false
    → Ran (counted_rest u) (Came Anyway g r) (guard shared (at ms most_nodes))
unfolding guard
rest_runs (nothing {r}) q = came tt (most_nodes, if_not "&" _ (return none) (at r most_nodes) q, tt)
rest_runs {shared} (guarded {a} u) q =
    ran_last (λ k. return (some k))
    (conjunction_runs (test_next shared) Anything (TestedSaid shared) tested (λ q ms r x s. test_opens s) (λ ms r g f s. guard_no_test s) (λ q ms r x s. test_reads s) (joined_by_and {a = a} (guarded u)) q) λ left m.
    (left, refl, tt)

-- ---- branches

weight_reads : {ms r : Place} {w : Weight} → WeightSaid ms w r → next_is "/" r ≡ false → (n : ℕ) → weight (at ms n) ≡ ok w (at r n)
weight_reads a_number q n = rw q
weight_reads a_ratio q n = refl
weight_reads a_decimal q n = refl

colon_next : {items : List Item} {ms r : Place} {ws : List Numbered} → LineSaid (exactly ":" ∷ items) ms ws r → next_is "/" ms ≡ false
colon_next (fixed d) = refl

-- before anything but `&`
set_reads : {shared : Bool} {ms r : Place} {v : Option Numbered} → SetSaid shared ms v r → next_is "&" r ≡ false → (n : ℕ) → sets shared (at ms n) ≡ ok v (at r n)
set_reads (keeps {shared} {r}) q n = go shared
  where
    go : (b : Bool) → sets b (at r n) ≡ ok none (at r n)
    go false = refl
    go true = rw q
set_reads (sets_to (fixed d)) q n = rw (line_reads d n)

branch_reads : {shared : Bool} {ms r : Place} {x : BranchShape} → BranchSaid shared ms x r → next_is "&" r ≡ false → (n : ℕ)
    → read_branch shared (at ms n) ≡ ok x (at r n)
branch_reads (branch w d s) q n = rw (weight_reads w (colon_next d) n, line_reads d n, set_reads s q n)

-- ---- any number of things, each before what may follow it

module _ {A : Type 0} {One : Said A} (t : String) (one : Reader A) (past : Reader (List A)) (most : ℕ)
    (each : (ms r : Place) (x : A) → ℕ → One ms x r → List Counted)
    (May : Place → Type 0)
    (starts : (ms r : Place) (x : A) → One ms x r → next_is t ms ≡ true)
    (may : (ms r : Place) (x : A) → One ms x r → May ms)
    (few : (ms r : Place) (x : A) (d : One ms x r) (i n : ℕ) → i ≤ most → May r → Ran (each ms r x i d) (Came Anyway x r) (one (at ms n)))
    (over : (ms r : Place) (x : A) (d : One ms x r) (i n : ℕ) → most < i → (q : Place) × FirstPast (each ms r x i d) q × (past (at ms n) ≡ stop past_limit q)) where
  before_many : {ms r : Place} {xs : List A} → ManySaid One ms xs r → May r → May ms
  before_many done m = m
  before_many (again {ms} {ns} {x = x} d ds) m = may ms ns x d

  many_runs : {ms r : Place} {xs : List A} (ds : ManySaid One ms xs r) (f i n : ℕ) → i + f ≡ suc most → next_is t r ≡ false → May r
      → Ran (counted_many each i ds) (Came Anyway xs r) (many f t one past (at ms n))
  many_runs done zero i n e q m = rw q (came tt (n, refl, tt))
  many_runs done (suc f) i n e q m = rw q (came tt (n, refl, tt))
  many_runs (again {ms} {ns} {x = x} d ds) zero i n e q m =
      let (z, g, y) = over ms ns x d i n (omega arith) in
      rw (starts ms ns x d) (fell z (past_left (each ms ns x i d) (counted_many each (suc i) ds) z g) y)
  many_runs (again {ms} {ns} {r} {x} d ds) (suc f) i n e q m =
      rw (starts ms ns x d)
      (ran_bind (counted_many each (suc i) ds) (λ y. many f t one past >>= λ ys. return (y ∷ ys)) (few ms ns x d i n (omega arith) (before_many ds m)) λ left _.
      ran_last (λ ys. return (x ∷ ys)) (many_runs ds f (suc i) left (omega arith) q m) λ rest _. (rest, refl, tt))

-- before anything
abbrev Whatever : Place → Type 0
Whatever ms = Unit {0}

-- ---- statements

plus_next : {shared : Bool} (ms r : Place) (x : BranchShape) → PlusSaid shared ms x r → next_is "+" ms ≡ true
plus_next ms r x (plus d) = refl

plus_no_and : {shared : Bool} (ms r : Place) (x : BranchShape) → PlusSaid shared ms x r → next_is "&" ms ≡ false
plus_no_and ms r x (plus d) = refl

-- behind a branch
branch_ends : {shared : Bool} {ms r : Place} {c : ℕ} {xs : List BranchShape} → ManySaid (PlusSaid shared) ms xs (sign_at ";" c ∷ r) → next_is "&" ms ≡ false
branch_ends done = refl
branch_ends (again {ms} {ns} {x = x} d ds) = plus_no_and ms ns x d

weight_next : {shared : Bool} {ms r : Place} {x : BranchShape} → BranchSaid shared ms x r → (n : ℕ) → past_branches (at (sign_at "+" 0 ∷ ms) n) ≡ stop past_limit ms
weight_next (branch a_number d s) n = refl
weight_next (branch a_ratio d s) n = refl
weight_next (branch a_decimal d s) n = refl

branches_run : {shared : Bool} {ms r : Place} {xs : List BranchShape} (ds : ManySaid (PlusSaid shared) ms xs r) (n : ℕ) → next_is "+" r ≡ false → next_is "&" r ≡ false
    → Ran (counted_many counted_plus 2 ds) (Came Anyway xs r) (more_branches shared (most_branches - 1) (at ms n))
branches_run {shared} ds n q m =
    many_runs "+" (next_branch shared) past_branches most_branches counted_plus (λ ms. next_is "&" ms ≡ false) plus_next plus_no_and few over ds (most_branches - 1) 2 n refl q m
  where
    few : (ms r : Place) (x : BranchShape) (d : PlusSaid shared ms x r) (i n : ℕ) → i ≤ most_branches → next_is "&" r ≡ false
        → Ran (counted_plus ms r x i d) (Came Anyway x r) (next_branch shared (at ms n))
    few ms r x (plus d) i n h m = ran_one (λ _. came tt (n, branch_reads d m n, tt)) (λ p. absurd (omega arith))

    over : (ms r : Place) (x : BranchShape) (d : PlusSaid shared ms x r) (i n : ℕ) → most_branches < i
        → (q : Place) × FirstPast (counted_plus ms r x i d) q × (past_branches (at ms n) ≡ stop past_limit q)
    over ms r x (plus {ms = ns} d) i n h = (ns, past_here (counted i most_branches ns) [] h, weight_next d n)

abbrev finished : List Numbered → Numbered → Option (Formula Tested) → BranchShape → List BranchShape → Reader StatementShape
finished ws j g b bs = do
  p ← here
  sign ";"
  return (record { words = ws; own = j; guard = g; branches = b ∷ bs; close = p })

abbrev moves : Bool → List Numbered → Numbered → Option (Formula Tested) → Reader StatementShape
moves shared ws j g = do
  sign "->"
  b ← read_branch shared
  bs ← more_branches shared (most_branches - 1)
  finished ws j g b bs

statement_runs : {shared : Bool} (ms r : Place) (x : StatementShape) (d : StatementSaid shared ms x r) (i n : ℕ) → i ≤ most_statements
    → Ran (counted_statement ms r x i d) (Came Anyway x r) (read_statement shared (at ms n))
statement_runs {shared} ms r x (statement {j} {a} {b} {c} {ns = ns} {os} {qs} {ws = ws} {g} {x = y} front rest d ds) i n h =
    let own = valued j (placed (number j) a ∷ ns) in
    ran_one (λ _. rw (line_reads front n)
    (ran_bind (counted 1 most_branches os ∷ counted_many counted_plus 2 ds) (moves shared ws own) (rest_runs rest refl) λ left _.
    ran_one (λ _. rw (branch_reads d (branch_ends ds) left) (ran_last (finished ws own g y) (branches_run ds left refl refl) λ left _. (left, refl, tt)))
    (λ p. absurd (omega arith))))
    (λ p. absurd (omega arith))

statement_next : {shared : Bool} (ms r : Place) (x : StatementShape) → StatementSaid shared ms x r → next_is "[" ms ≡ true
statement_next ms r x (statement (fixed front) rest d ds) = refl

statement_first : {shared : Bool} (ms r : Place) (x : StatementShape) (d : StatementSaid shared ms x r) (i : ℕ) → most_statements < i → FirstPast (counted_statement ms r x i d) ms
statement_first ms r x (statement front rest d ds) i h = past_here (counted i most_statements ms) _ h

statements_run : {shared : Bool} {ms r : Place} {xs : List StatementShape} (ds : ManySaid (StatementSaid shared) ms xs r) (n : ℕ) → next_is "[" r ≡ false
    → Ran (counted_many counted_statement 2 ds) (Came Anyway xs r) (more_statements shared (most_statements - 1) (at ms n))
statements_run {shared} ds n q =
    many_runs "[" (read_statement shared) (refuse past_limit) most_statements counted_statement Whatever statement_next (λ ms r x d. tt)
    (λ ms r x d i n h m. statement_runs ms r x d i n h)
    (λ ms r x d i n h. (ms, statement_first ms r x d i h, refl)) ds (most_statements - 1) 2 n refl q tt

-- ---- the further modules

module_next : (ms r : Place) (ws : List Numbered) → LineSaid module_run ms ws r → next_is "module" ms ≡ true
module_next ms r ws (fixed d) = refl

modules_run : {ms r : Place} {ys : List (List Numbered)} (ds : ManySaid (LineSaid module_run) ms ys r) (n : ℕ) → next_is "module" r ≡ false
    → Ran (counted_many counted_module 2 ds) (Came Anyway ys r) (more_modules (most_seats - 1) (at ms n))
modules_run ds n q =
    many_runs "module" copy (refuse past_limit) most_seats counted_module Whatever module_next (λ ms r ws d. tt)
    (λ ms r ws d i n h m. ran_one (λ _. came tt (n, line_reads d n, tt)) (λ p. absurd (omega arith)))
    (λ ms r ws d i n h. (ms, past_here (counted i most_seats ms) [] h, refl)) ds (most_seats - 1) 2 n refl q tt

-- ---- the card

mode_reads : (mode : Mode) (a : ℕ) (ms : Place) (n : ℕ) → the mode_of (at (sign_at (mode_word mode) a ∷ ms) n) ≡ ok mode (at ms n)
mode_reads nondeterministic a ms n = refl
mode_reads probabilistic a ms n = refl

range_runs : {ms r : Place} {x : Range} (d : RangeSaid ms x r) (most n : ℕ) → Ran (counted_range most d) (Came Anyway x r) (read_range most (at ms n))
range_runs (range {k = k}) most n = ran_one (λ w. rw (le-leb k most w) (came tt (n, refl, tt))) (λ p. rw (lt-leb k most p))

abbrev modules_then : Mode → Option Range → List Numbered → Range → StatementShape → List StatementShape → Reader CardShape
modules_then mode g ws y x xs = do
  sign "endmodule"
  ms ← more_modules (most_seats - 1)
  return (record { mode = mode; shared = g; words = ws; k = y.top; l = y.start; statements = x ∷ xs; modules = ms })

abbrev statements_then : Mode → Option Range → List Numbered → Range → StatementShape → Reader CardShape
statements_then mode g ws y x = do
  xs ← more_statements (is_some g) (most_statements - 1)
  modules_then mode g ws y x xs

abbrev range_then : Mode → Option Range → List Numbered → Range → Reader CardShape
range_then mode g ws y = do
  x ← read_statement (is_some g)
  statements_then mode g ws y x

module _ (mode : Mode) (g : Option Range) {b : ℕ} {ms os ps qs rs : Place} {ws : List Numbered} {y : Range} {x : StatementShape} {xs : List StatementShape} {ys : List (List Numbered)}
    (front : LineSaid card_run ms ws os) (d : RangeSaid os y ps) (s : StatementSaid (is_some g) ps x qs) (ss : ManySaid (StatementSaid (is_some g)) qs xs (sign_at "endmodule" b ∷ rs))
    (ds : ManySaid (LineSaid module_run) rs ys []) where
  all_modules_run : (n : ℕ)
      → Ran (counted_range top_state d ++ (counted_statement ps qs x 1 s ++ (counted_many counted_statement 2 ss ++ counted_many counted_module 2 ds)))
      (Came Anyway (record { mode = mode; shared = g; words = ws; k = y.top; l = y.start; statements = x ∷ xs; modules = ys }) []) (modules mode g (at ms n))
  all_modules_run n =
      rw (line_reads front n)
      (ran_bind _ (range_then mode g ws) (range_runs d top_state n) λ left _.
      ran_bind _ (statements_then mode g ws y) (statement_runs ps qs x s 1 left (omega arith)) λ left _.
      ran_bind _ (modules_then mode g ws y x) (statements_run ss left refl) λ left _.
      ran_last (λ ms. return (record { mode = mode; shared = g; words = ws; k = y.top; l = y.start; statements = x ∷ xs; modules = ms })) (modules_run ds left refl) λ left _.
      (left, refl, tt))

module_first : {ms r : Place} {ws : List Numbered} → LineSaid card_run ms ws r → next_is "global" ms ≡ false
module_first (fixed d) = refl

body_runs : {ms : Place} {c : CardShape} (d : CardSaid ms c) (n : ℕ) → Ran (counted_card d) (Came Anyway c []) (body (at ms n))
body_runs (card {mode} {a} {ms = ms} unshared front y s ss ys) n =
    rw (mode_reads mode a ms n, module_first front) (all_modules_run mode none front y s ss ys n)
body_runs (card {mode} {a} {ms = ms} (sharing (fixed l) x) front y s ss ys) n =
    rw (mode_reads mode a ms n, line_reads l n)
    (ran_bind _ (λ g. modules mode (some g)) (range_runs x top_shared n) λ left _. all_modules_run mode (some _) front y s ss ys left)

-- a card of the right shape is read, or stopped at the first thing past its limit
pub card_runs : {ms : Place} {c : CardShape} (d : CardSaid ms c) (n : ℕ) → Ran (counted_card d) (Came Anyway c []) (read_card (at ms n))
card_runs d n = ran_last (λ c. the_end >> return c) (body_runs d n) λ left _. (left, refl, tt)
