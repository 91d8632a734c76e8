-- Judgements stand in the order of the text: each at a mark behind the one before it. By induction over what is said. So the first that is
-- broken in the list is the one at the earliest place. Assumes nothing.
use Prim.Native.Nat.{ℕ, suc, ◌≤◌, ◌<◌}
use mathlib.Core.Path.{◌≡◌, refl, sym, ap, ◌∙◌, subst}
use mathlib.Core.Bool.{Bool}
use mathlib.Core.List.{List, [], ◌∷◌, ◌++◌, append_assoc, map}
use mathlib.Core.Option.{Option}
use native.Mathlib.Omega.{arith}
use Rattle.card.specs.Card.{Sign, all, any, Formula}
use Rattle.card.specs.Weight.{Weight, Rule}
use Rattle.card.specs.Valid.{Every}
use Rattle.marks_on_a_card.specs.Marks.{seat, process, number, decimal, Placed, placed, place_of}
use Rattle.reading.specs.Reader.{Place, Numbered, Item}
use Rattle.reading.specs.Group.{joint, relation, Literal, Literals, literals_of, SharedTest, Tested}
use Rattle.reading.specs.Judgements.{Judgement, state, word, one_group, weight, sum, place_in, fine, wrong, first_broken, judged_group, judged_test, judged_guard}
use Rattle.reading.specs.Shape.{BranchShape, StatementShape, Range, CardShape}
use Rattle.reading.specs.Checks.{judged_state, judged_words, judged_set, judged_branch, judged_each, judged_or, weight_in, judged_statement, module_dues, judged_modules, judged_shared, most_in, judged_card}
use Rattle.grammar.specs.Grammar.{Said, sign_at, LineSaid, ended, fixed, a_seat, a_process, module_run, ManySaid, done, again, LiteralSaid, literal, OthersSaid, close, next, GroupSaid, conjoined, disjoined, SharedTestSaid, shared_test, TestedSaid, test_seats, test_shared, Part, joining, GuardSaid, grouped, negated, bracketed, single, further}
use Rattle.grammar.specs.Grammar.{RestSaid, nothing, guarded, WeightSaid, a_number, a_ratio, a_decimal, SetSaid, keeps, sets_to, BranchSaid, branch, PlusSaid, plus, StatementSaid, statement, mode_word, RangeSaid, range, SharedSaid, unshared, sharing, CardSaid, card}
use Rattle.grammar.specs.Rules.{Kept}
use Rattle.grammar.specs.Verdicts.{In, first, later}
use Rattle.reading.proofs.Rising.{Rises, rises_part, later_place}
use Rattle.grammar.proofs.Ruling.{refusal_of, Ruled, kept, failed, ruled}

-- may the next stand at the same mark?
pub data Gap : Type 0 where
  strictly weakly : Gap

abbrev from : Gap → Placed → Place → Place
from strictly m q = q
from weakly m q = m ∷ q

-- from ms to r, each at a mark not before the last
abbrev pub Along : {A : Type 0} → Gap → (A → Place) → Place → List A → Place → Type 0
Along g f ms [] r = (u : Place) × (ms ≡ u ++ r)
Along g f ms (x ∷ xs) r = (u : Place) × (m : Placed) × (q : Place) × (ms ≡ u ++ (m ∷ q)) × (f x ≡ m ∷ q) × Along g f (from g m q) xs r

pub along_none : {A : Type 0} (g : Gap) (f : A → Place) (r : Place) → Along g f r [] r
along_none g f r = ([], refl)

module _ {A : Type 0} (g : Gap) (f : A → Place) where
  pub along_from : (u ms r : Place) (xs : List A) → Along g f ms xs r → Along g f (u ++ ms) xs r
  along_from u ms r [] (v, e) = (u ++ v, ap (λ y. u ++ y) e ∙ sym (append_assoc u v r))
  along_from u ms r (x ∷ xs) (v, m, q, e, i, k) = (u ++ v, m, q, ap (λ y. u ++ y) e ∙ sym (append_assoc u v (m ∷ q)), i, k)

  pub along_then : (ms q r : Place) (xs ys : List A) → Along g f ms xs q → Along g f q ys r → Along g f ms (xs ++ ys) r
  along_then ms q r [] ys (u, e) k = rw e (along_from u q r ys k)
  along_then ms q r (x ∷ xs) ys (u, m, o, e, i, l) k = (u, m, o, e, i, along_then (from g m o) q r xs ys l k)

  -- behind a mark
  pub along_behind : (m : Placed) (ms r : Place) (xs : List A) → Along g f ms xs r → Along g f (m ∷ ms) xs r
  along_behind m ms r xs k = along_from (m ∷ []) ms r xs k

  -- before further marks
  pub along_before : (ms q r : Place) (xs : List A) → Along g f ms xs q → (u : Place) → q ≡ u ++ r → Along g f ms xs r
  along_before ms q r [] (v, e) u z = (v ++ u, e ∙ ap (λ y. v ++ y) z ∙ sym (append_assoc v u r))
  along_before ms q r (x ∷ xs) (v, m, o, e, i, k) u z = (v, m, o, e, i, along_before (from g m o) q r xs k u z)

  pub along_whole : (ms r : Place) (xs : List A) → Along g f ms xs r → (u : Place) × (ms ≡ u ++ r)
  along_whole ms r [] k = k
  along_whole ms r (x ∷ xs) (u, m, q, e, i, k) = let (v, z) = along_whole (from g m q) r xs k in rw e (whole g v z)
    where
      whole : (g : Gap) (v : Place) → from g m q ≡ v ++ r → (w : Place) × (u ++ (m ∷ q) ≡ w ++ r)
      whole strictly v z = (u ++ (m ∷ v), ap (λ y. u ++ (m ∷ y)) z ∙ sym (append_assoc u (m ∷ v) r))
      whole weakly v z = (u ++ v, ap (λ y. u ++ y) z ∙ sym (append_assoc u v r))

-- ---- in numbers: places that rise, below e

abbrev after : Gap → ℕ → ℕ
after strictly p = suc p
after weakly p = p

abbrev pub Ascending : Gap → ℕ → ℕ → List ℕ → Type 0
Ascending g a e [] = Unit {0}
Ascending g a e (p ∷ ps) = (a ≤ p) × (p < e) × Ascending g (after g p) e ps

pub ascending : {A : Type 0} (g : Gap) (f : A → Place) (ms r : Place) (a e : ℕ) (xs : List A) → Along g f ms xs r → Rises a e ms
    → Ascending g a e (map (λ x. place_of e (f x)) xs)
ascending g f ms r a e [] k h = tt
ascending g f ms r a e (x ∷ xs) (u, placed m p, q, y, o, k) h =
    let (b, l, h₁) = rises_part a e u (placed m p ∷ q) (rw y at h) in
    rw o (omega (arith, h₁.0), h₁.1, ascending g f (from g (placed m p) q) r (after g p) e xs k (next g h₁))
  where
    next : {b : ℕ} (g : Gap) → Rises b e (placed m p ∷ q) → Rises (after g p) e (from g (placed m p) q)
    next strictly h = h.2
    next weakly h = (omega arith, h.1, h.2)

-- at the mark, and behind it
along_at : {A : Type 0} (f : A → Place) (m : Placed) (ms r : Place) (x : A) (xs : List A) → f x ≡ m ∷ ms → Along strictly f ms xs r
    → Along strictly f (m ∷ ms) (x ∷ xs) r
along_at f m ms r x xs e k = ([], m, ms, refl, e, k)

-- ---- judgements, each at a mark of its own

abbrev pub Judging : Place → List Judgement → Place → Type 0
Judging = Along strictly place_in

-- ---- words

pub line_along : {items : List Item} {ms r : Place} {ws : List Numbered} → LineSaid items ms ws r → (dues : List ℕ) → Judging ms (judged_words dues ws) r
line_along (ended {r}) [] = along_none strictly place_in r
line_along (ended {r}) (due ∷ dues) = along_none strictly place_in r
line_along (fixed {t} {p} {ms = ms} {r} {ws} d) dues = along_behind strictly place_in (sign_at t p) ms r (judged_words dues ws) (line_along d dues)
line_along (a_seat {i} {p} {ms = ms} {r} {ws} d) [] =
    along_at place_in (placed (seat i) p) ms r (word (suc i) i (placed (seat i) p ∷ ms)) (judged_words [] ws) refl (line_along d [])
line_along (a_seat {i} {p} {ms = ms} {r} {ws} d) (due ∷ dues) =
    along_at place_in (placed (seat i) p) ms r (word due i (placed (seat i) p ∷ ms)) (judged_words dues ws) refl (line_along d dues)
line_along (a_process {i} {p} {ms = ms} {r} {ws} d) [] =
    along_at place_in (placed (process i) p) ms r (word (suc i) i (placed (process i) p ∷ ms)) (judged_words [] ws) refl (line_along d [])
line_along (a_process {i} {p} {ms = ms} {r} {ws} d) (due ∷ dues) =
    along_at place_in (placed (process i) p) ms r (word due i (placed (process i) p ∷ ms)) (judged_words dues ws) refl (line_along d dues)

-- ---- guards

literal_along : (most : ℕ) {ms r : Place} {l : Literal} → LiteralSaid ms l r → Judging ms (state most l.d l.place ∷ []) r
literal_along most (literal {i} {d} {a} {b} {c} {q} {r}) = (placed (seat i) a ∷ sign_at (relation q) b ∷ [], placed (number d) c, r, refl, refl, along_none strictly place_in r)

others_along : {s : Sign} {ms r : Place} {ls : List Literal} → OthersSaid s ms ls r → Judging ms [] r
others_along (close {a} {r}) = along_behind strictly place_in (sign_at ")" a) r r [] (along_none strictly place_in r)
others_along {s} (next {a} {ms} {ns} {r} {l} d o) =
    along_behind strictly place_in (sign_at (joint s) a) ms r []
    (along_then strictly place_in ms ns r [] [] (along_whole strictly place_in ms ns (state 0 l.d l.place ∷ []) (literal_along 0 d)) (others_along o))

pub group_along : (most : ℕ) {a : ℕ} {ms r : Place} {x : Literals} → GroupSaid (sign_at "(" a ∷ ms) ms x r → Judging (sign_at "(" a ∷ ms) (judged_group most x) r
group_along most {a} (conjoined {ms} {ns} {r} {l} {ls} d o) =
    along_at place_in (sign_at "(" a) ms r (one_group (literals_of (sign_at "(" a ∷ ms) all (l ∷ ls))) (state most l.d l.place ∷ []) refl
    (along_then strictly place_in ms ns r (state most l.d l.place ∷ []) [] (literal_along most d) (others_along o))
group_along most {a} (disjoined {ms} {ns} {r} {l} {k} {ls} d o) =
    along_at place_in (sign_at "(" a) ms r (one_group (literals_of (sign_at "(" a ∷ ms) any (l ∷ k ∷ ls))) (state most l.d l.place ∷ []) refl
    (along_then strictly place_in ms ns r (state most l.d l.place ∷ []) [] (literal_along most d) (others_along o))

shared_test_along : (m : ℕ) {ms r : Place} {x : SharedTest} → SharedTestSaid ms x r → Judging ms (judged_state m x.value ∷ []) r
shared_test_along m (shared_test {v} {a} {b} {c} {d} {q} {r}) =
    (sign_at "g" a ∷ sign_at (relation q) b ∷ [], placed (number v) c, sign_at ")" d ∷ r, refl, refl, (sign_at ")" d ∷ [], refl))

pub test_along : (k m : ℕ) {shared : Bool} {a : ℕ} {ms r : Place} {x : Tested} → TestedSaid shared (sign_at "(" a ∷ ms) ms x r
    → Judging (sign_at "(" a ∷ ms) (judged_test k m x) r
test_along k m (test_seats d) = group_along k d
test_along k m {a = a} {ms} {r} (test_shared {x = x} d) = along_behind strictly place_in (sign_at "(" a) ms r (judged_state m x.value ∷ []) (shared_test_along m d)

joined_along : (k m : ℕ) (s : Sign) (ms r : Place) (g h : Formula Tested) → Judging ms (judged_guard k m g ++ judged_guard k m h) r
    → Judging ms (judged_guard k m (joining s g h)) r
joined_along k m all ms r g h j = j
joined_along k m any ms r g h j = j

pub guard_along : (k m : ℕ) {shared : Bool} {v : Part} {ms r : Place} {g : Formula Tested} → GuardSaid (TestedSaid shared) v ms g r → Judging ms (judged_guard k m g) r
guard_along k m (grouped d) = test_along k m d
guard_along k m (negated {a} {ms} {r} {g} u) = along_behind strictly place_in (sign_at "!" a) ms r (judged_guard k m g) (guard_along k m u)
guard_along k m (bracketed {a} {b} {ms} {r} {g} f u) =
    along_behind strictly place_in (sign_at "(" a) ms r (judged_guard k m g)
    (along_before strictly place_in ms (sign_at ")" b ∷ r) r (judged_guard k m g) (guard_along k m u) (sign_at ")" b ∷ []) refl)
guard_along k m (single u) = guard_along k m u
guard_along k m (further {s} {a} {ms} {ns} {r} {g} {h} us u) =
    joined_along k m s ms r g h
    (along_then strictly place_in ms (sign_at (joint s) a ∷ ns) r (judged_guard k m g) (judged_guard k m h) (guard_along k m us)
    (along_behind strictly place_in (sign_at (joint s) a) ns r (judged_guard k m h) (guard_along k m u)))

rest_along : (k m : ℕ) {shared : Bool} {ms r : Place} {g : Option (Formula Tested)} → RestSaid shared ms g r → Judging ms (judged_or k m g) r
rest_along k m (nothing {r}) = along_none strictly place_in r
rest_along k m (guarded {a} {ms} {r} {g} u) = along_behind strictly place_in (sign_at "&" a) ms r (judged_guard k m g) (guard_along k m u)

-- ---- branches

weight_along : (decimals : Rule) {ms r : Place} {w : Weight} → WeightSaid ms w r → Judging ms (weight decimals w ms ∷ []) r
weight_along decimals (a_number {v} {a} {r}) = ([], placed (number v) a, r, refl, refl, along_none strictly place_in r)
weight_along decimals (a_ratio {v} {w} {a} {b} {c} {r}) = ([], placed (number v) a, sign_at "/" b ∷ placed (number w) c ∷ r, refl, refl, (sign_at "/" b ∷ placed (number w) c ∷ [], refl))
weight_along decimals (a_decimal {v} {n} {f} {a} {r}) = ([], placed (decimal v n f) a, r, refl, refl, along_none strictly place_in r)

set_along : (m : ℕ) {shared : Bool} {ms r : Place} {v : Option Numbered} → SetSaid shared ms v r → Judging ms (judged_set m v) r
set_along m (keeps {r = r}) = along_none strictly place_in r
set_along m (sets_to {v} {a} {b} {ms} {r} {ws} l) =
    let value = placed (number v) a ∷ sign_at ")" b ∷ r in
    let (u, e) = along_whole strictly place_in ms value (judged_words [] ws) (line_along l []) in
    rw e (along_from strictly place_in u value r (state m v value ∷ [])
    (along_at place_in (placed (number v) a) (sign_at ")" b ∷ r) r (state m v value) [] refl (along_behind strictly place_in (sign_at ")" b) r r [] (along_none strictly place_in r))))

pub branch_along : (decimals : Rule) (k m : ℕ) {shared : Bool} {ms r : Place} {x : BranchShape} → BranchSaid shared ms x r → Judging ms (judged_branch decimals k m x) r
branch_along decimals k m (branch {t} {a} {b} {ms} {ns} {os} {r} {w} {ws} {v} d l s) =
    let end = placed (number t) a ∷ sign_at ")" b ∷ os in
    let sets = judged_set m v in
    along_then strictly place_in ms ns r (weight decimals w ms ∷ []) (judged_words (1 ∷ []) ws ++ (state k t end ∷ sets)) (weight_along decimals d)
    (along_then strictly place_in ns end r (judged_words (1 ∷ []) ws) (state k t end ∷ sets) (line_along l (1 ∷ []))
    (along_at place_in (placed (number t) a) (sign_at ")" b ∷ os) r (state k t end) sets refl (along_behind strictly place_in (sign_at ")" b) os r sets (set_along m s))))

plus_along : (decimals : Rule) (k m : ℕ) {shared : Bool} (ms r : Place) (x : BranchShape) → PlusSaid shared ms x r → Judging ms (judged_branch decimals k m x) r
plus_along decimals k m ms r x (plus {a} {ms = ns} d) = along_behind strictly place_in (sign_at "+" a) ns r (judged_branch decimals k m x) (branch_along decimals k m d)

many_along : {A : Type 0} {One : Said A} (f : A → List Judgement) → ((ms r : Place) (x : A) → One ms x r → Judging ms (f x) r)
    → {ms r : Place} {xs : List A} → ManySaid One ms xs r → Judging ms (judged_each f xs) r
many_along f h (done {r}) = along_none strictly place_in r
many_along f h (again {ms} {ns} {r} {x} {xs} d ds) = along_then strictly place_in ms ns r (f x) (judged_each f xs) (h ms ns x d) (many_along f h ds)

-- ---- statements and the card

statement_along : (decimals : Rule) (k m : ℕ) {shared : Bool} (ms r : Place) (x : StatementShape) → StatementSaid shared ms x r → Judging ms (judged_statement decimals k m x) r
statement_along decimals k m ms r x (statement {j} {a} {b} {c} {ns = ns} {os} {qs} {ws = ws} {g} {x = y} {xs = ys} l u d ds) =
    let own = placed (number j) a ∷ ns in
    let end = sign_at ";" c ∷ r in
    let total : List Judgement = sum (map weight_in (y ∷ ys)) end ∷ [] in
    let each = judged_branch decimals k m in
    let moves = judged_each each (y ∷ ys) ++ total in
    along_then strictly place_in ms own r (judged_words (1 ∷ []) ws) (state k j own ∷ (judged_or k m g ++ moves)) (line_along l (1 ∷ []))
    (along_at place_in (placed (number j) a) ns r (state k j own) (judged_or k m g ++ moves) refl
    (along_then strictly place_in ns (sign_at "->" b ∷ os) r (judged_or k m g) moves (rest_along k m u)
    (along_behind strictly place_in (sign_at "->" b) os r moves
    (along_then strictly place_in os end r (judged_each each (y ∷ ys)) total
    (along_then strictly place_in os qs end (each y) (judged_each each ys) (branch_along decimals k m d) (many_along each (plus_along decimals k m) ds))
    (along_at place_in (sign_at ";" c) r r (sum (map weight_in (y ∷ ys)) end) [] refl (along_none strictly place_in r))))))

modules_along : {ms r : Place} {ys : List (List Numbered)} (i : ℕ) → ManySaid (LineSaid module_run) ms ys r → Judging ms (judged_modules i ys) r
modules_along i (done {r}) = along_none strictly place_in r
modules_along i (again {ms} {ns} {r} {x = y} {xs = ys} d ds) =
    along_then strictly place_in ms ns r (judged_words (module_dues i) y) (judged_modules (suc i) ys) (line_along d (module_dues i)) (modules_along (suc i) ds)

range_along : {ms r : Place} {y : Range} → RangeSaid ms y r → Judging ms (judged_state y.top y.start ∷ []) r
range_along (range {k} {l} {a} {b} {c} {d} {e} {f} {g} {r}) = (
  placed (number 0) a ∷ sign_at ".." b ∷ placed (number k) c ∷ sign_at "]" d ∷ sign_at "init" e ∷ [],
  placed (number l) f,
  sign_at ";" g ∷ r,
  refl,
  refl,
  (sign_at ";" g ∷ [], refl),
)

shared_along : {ms r : Place} {g : Option Range} → SharedSaid ms g r → Judging ms (judged_shared g) r
shared_along (unshared {r}) = along_none strictly place_in r
shared_along (sharing {ms} {ns} {r} {ws} {x} l d) =
    let (u, e) = along_whole strictly place_in ms ns (judged_words [] ws) (line_along l []) in
    rw e (along_from strictly place_in u ns r (judged_state x.top x.start ∷ []) (range_along d))

pub card_along : (decimals : Rule) {ms : Place} {c : CardShape} → CardSaid ms c → Judging ms (judged_card decimals c) []
card_along decimals (card {mode} {a} {b} {ms} {ns} {os} {ps} {qs} {rs} {g} {ws} {y} {x} {xs} {ys} d w v s ss t) =
    let start = judged_state y.top y.start in
    let each = judged_statement decimals y.top (most_in g) in
    let modules = judged_modules 2 ys in
    let rest = judged_each each (x ∷ xs) ++ modules in
    let words = judged_words (1 ∷ 1 ∷ []) ws in
    along_behind strictly place_in (sign_at (mode_word mode) a) ms [] (judged_shared g ++ (words ++ (start ∷ rest)))
    (along_then strictly place_in ms ns [] (judged_shared g) (words ++ (start ∷ rest)) (shared_along d)
    (along_then strictly place_in ns os [] words (start ∷ rest) (line_along w (1 ∷ 1 ∷ []))
    (along_then strictly place_in os ps [] (start ∷ []) rest (range_along v)
    (along_then strictly place_in ps (sign_at "endmodule" b ∷ rs) [] (judged_each each (x ∷ xs)) modules
    (along_then strictly place_in ps qs (sign_at "endmodule" b ∷ rs) (each x) (judged_each each xs) (statement_along decimals y.top (most_in g) ps qs x s)
    (many_along each (statement_along decimals y.top (most_in g)) ss))
    (along_behind strictly place_in (sign_at "endmodule" b) rs [] modules (modules_along 2 t))))))

-- ---- so the first is the earliest

fine≢wrong : {B : Type 0} {r : ℕ} {p : Place} → fine ≡ wrong r p → B
fine≢wrong e = let z : ◌≡◌ {A = ℕ} 0 1 = cc in absurd (omega arith)

wrong_number : {r i : ℕ} {p q : Place} → wrong r p ≡ wrong i q → r ≡ i
wrong_number e = cc

wrong_place : {r i : ℕ} {p q : Place} → wrong r p ≡ wrong i q → p ≡ q
wrong_place e = cc

-- behind a mark all places are later
along_later : (a e : ℕ) (m : Placed) (q r : Place) (js : List Judgement) → Judging q js r → Rises a e (m ∷ q) → (j : Judgement) → In j js
    → place_of e (m ∷ q) < place_of e (place_in j)
along_later a e m q r [] _ h j y = elim y [ ]
along_later a e m q r (j ∷ js) (u, o, t, z, i, k) h _ first = rw (i, z) (later_place a e m u (o ∷ t) (subst (λ x. Rises a e (m ∷ x)) z h))
along_later a e m q r (x ∷ js) (u, o, t, z, i, k) h j (later y) =
    let h₁ = subst (λ x. Rises a e (m ∷ x)) z h in
    let l : place_of e (m ∷ (u ++ (o ∷ t))) < place_of e (o ∷ t) = later_place a e m u (o ∷ t) h₁ in
    let (b, _, p) = rises_part a e (m ∷ u) (o ∷ t) h₁ in
    let l₁ = along_later b e o t r js k p j y in
    omega (arith, ap (λ (x : Place). place_of e (m ∷ x)) z)

module _ (n e : ℕ) where
  -- the first that is broken, of a list along the text
  pub record Earliest (js : List Judgement) (r : ℕ) (p : Place) : Type 0 where
    pub judgement : Judgement
    pub judged : In judgement js
    pub number : refusal_of judgement ≡ r
    pub place : place_in judgement ≡ p
    pub broken : Kept n judgement → ⊥
    pub earlier : (j : Judgement) → In j js → place_of e (place_in j) < place_of e (place_in judgement) → Kept n j

  found : (x : Judgement) (js : List Judgement) (i : ℕ) (p : Place) → ((j : Judgement) → In j js → place_of e (place_in x) < place_of e (place_in j))
      → first_broken n (x ∷ js) ≡ wrong i p → (first_broken n js ≡ wrong i p → Earliest js i p) → Ruled n x → Earliest (x ∷ js) i p
  found x js i p h z f (failed y c) =
      let w : wrong (refusal_of x) (place_in x) ≡ wrong i p = rw y at z in
      record { judgement = x; judged = first; number = wrong_number w; place = wrong_place w; broken = c; earlier = earlier }
    where
      earlier : (j : Judgement) → In j (x ∷ js) → place_of e (place_in j) < place_of e (place_in x) → Kept n j
      earlier _ first l = absurd (omega arith)
      earlier j (later o) l = absurd (omega (arith, h j o))
  found x js i p h z f (kept y c) = let w = f (rw y at z) in
      record { judgement = w.judgement; judged = later w.judged; number = w.number; place = w.place; broken = w.broken; earlier = earlier w }
    where
      earlier : (w : Earliest js i p) (j : Judgement) → In j (x ∷ js) → place_of e (place_in j) < place_of e (place_in w.judgement) → Kept n j
      earlier w _ first l = c
      earlier w j (later o) l = w.earlier j o l

  pub earliest : (ms r : Place) (a : ℕ) (js : List Judgement) → Judging ms js r → Rises a e ms → (i : ℕ) (p : Place) → first_broken n js ≡ wrong i p
      → Earliest js i p
  earliest ms r a [] l h i p z = fine≢wrong z
  earliest ms r a (x ∷ js) (u, m, q, y, o, l) h i p z =
      let (b, _, h₁) = rises_part a e u (m ∷ q) (rw y at h) in
      let (c, _, h₂) = rises_part b e (m ∷ []) q h₁ in
      found x js i p (λ j y. rw o (along_later b e m q r js l h₁ j y)) z (earliest q r c js l h₂ i p) (ruled n x)

  pub broken_first : (ms r : Place) (a : ℕ) (js : List Judgement) → Judging ms js r → Rises a e ms → (j : Judgement) → In j js → (Kept n j → ⊥)
      → ((i : Judgement) → In i js → place_of e (place_in i) < place_of e (place_in j) → Kept n i) → first_broken n js ≡ wrong (refusal_of j) (place_in j)
  broken_first ms r a [] _ h j y c f = elim y [ ]
  broken_first ms r a (x ∷ js) (u, m, q, y, o, l) h _ first c f = go (ruled n x)
    where
      go : Ruled n x → first_broken n (x ∷ js) ≡ wrong (refusal_of x) (place_in x)
      go (kept z d) = absurd (c d)
      go (failed z d) = rw z
  broken_first ms r a (x ∷ js) (u, m, q, y, o, l) h j (later i) c f =
      let (b, _, h₁) = rises_part a e u (m ∷ q) (rw y at h) in
      let (d, _, h₂) = rises_part b e (m ∷ []) q h₁ in
      go (f x first (rw o (along_later b e m q r js l h₁ j i))) (broken_first q r d js l h₂ j i c (λ i y. f i (later y))) (ruled n x)
    where
      go : Kept n x → first_broken n js ≡ wrong (refusal_of j) (place_in j) → Ruled n x → first_broken n (x ∷ js) ≡ wrong (refusal_of j) (place_in j)
      go d w (kept z _) = rw z w
      go d w (failed z g) = absurd (g d)

  pub none_broken : (js : List Judgement) → first_broken n js ≡ fine → Every (Kept n) js
  none_broken [] z = tt
  none_broken (x ∷ js) z = go (ruled n x) (none_broken js)
    where
      go : Ruled n x → (first_broken n js ≡ fine → Every (Kept n) js) → Every (Kept n) (x ∷ js)
      go (kept y c) f = (c, f (rw y at z))
      go (failed y c) f = let w : fine ≡ wrong (refusal_of x) (place_in x) = sym (rw y at z) in fine≢wrong w

  pub all_kept : (js : List Judgement) → Every (Kept n) js → first_broken n js ≡ fine
  all_kept [] w = refl
  all_kept (x ∷ js) w = go (ruled n x) (all_kept js w.1)
    where
      go : Ruled n x → first_broken n js ≡ fine → first_broken n (x ∷ js) ≡ fine
      go (kept y c) f = rw y f
      go (failed y c) f = absurd (c w.0)
