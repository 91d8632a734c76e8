-- On a card that the old rule takes nothing but a decimal breaks the new one. By induction over the grammar: judging a part's weights anew comes to the first
-- decimal among the part's marks, or passes on to what follows, since all else of it is kept and has no decimal in it. Assumes nothing.
use Prim.Native.Nat.{ℕ, suc}
use mathlib.Core.Path.{◌≡◌, refl, sym, ap, ◌∙◌, subst}
use mathlib.Core.Logic.{◌↔◌}
use mathlib.Core.Bool.{Bool, true, false, true≢false}
use mathlib.Core.List.{List, [], ◌∷◌, ◌++◌, append_assoc, append-nil, map}
use mathlib.Core.Option.{Option, none}
use native.Mathlib.Omega.{arith}
use borrow.Author.Tests.{le-leb}
use lib.ListN.{length}
use Rattle.card.specs.Limits.{card_bytes}
use Rattle.card.specs.Refusals.{decimal_weight}
use Rattle.card.specs.Card.{Sign, Card, Formula}
use Rattle.card.specs.Valid.{Every}
use Rattle.card.specs.Weight.{Weight, whole, ratio}
use Rattle.marks_on_a_card.specs.Marks.{text, seat, process, number, decimal, outside, Placed, placed, marks_of, place_of}
use Rattle.reading.specs.Reader.{Place, Numbered, Item}
use Rattle.reading.specs.Group.{Literal, Literals, SharedTest, Tested}
use Rattle.reading.specs.Judgements.{Judgement, weight, sum, place_in, broken, Verdict, fine, wrong, or_else, first_broken}
use Rattle.reading.specs.Shape.{BranchShape, StatementShape, Range, CardShape}
use Rattle.reading.specs.Checks.{judged_state, judged_words, judged_set, judged_branch, judged_each, judged_or, weight_in, judged_statement, judged_modules, judged_shared, most_in, judged_card, seats_in, card_in}
use Rattle.reading.specs.Reading.{taken, refused, judged, shaped, marked, read_under}
use Rattle.grammar.specs.Grammar.{Said, sign_at, LineSaid, ended, fixed, a_seat, a_process, module_run, ManySaid, done, again, LiteralSaid, literal, OthersSaid, close, next, GroupSaid, conjoined, disjoined, SharedTestSaid, shared_test, TestedSaid, test_seats, test_shared, Part, GuardSaid, grouped, negated, bracketed, single, further}
use Rattle.grammar.specs.Grammar.{RestSaid, nothing, guarded, WeightSaid, a_number, a_ratio, a_decimal, SetSaid, keeps, sets_to, BranchSaid, branch, PlusSaid, plus, StatementSaid, statement, RangeSaid, range, SharedSaid, unshared, sharing, CardSaid, card}
use Rattle.grammar.specs.Rules.{Kept}
use Rattle.grammar.specs.Verdicts.{In, first, later}
use Rattle.grammar.proofs.Fair.{every_append}
use Rattle.grammar.proofs.Ruling.{Ruled, kept, failed, ruled}
use Rattle.grammar.proofs.Along.{all_kept}
use Rattle.grammar.proofs.Shaping.{shape_read}
use Rattle.grammar.proofs.Reasons.{inside_none}
use Rattle.grammar.proofs.Theorems.{accepted}
use Rattle.deck.specs.Deck.{Entry}
use Rattle.texts.specs.Writing.{write_of}
use Rattle.converting.specs.Converting.{old_rule}
use Rattle.converting.specs.Converts.{NewBody, withdrawn, unchanged, written}
use Rattle.converting.proofs.Stricter.{stricter}
use Rattle.promises.specs.Conversions.{NoDecimal, FirstDecimal}

-- ---- the first decimal among marks, as a verdict

abbrev found : Place → Verdict
found [] = fine
found (placed (text s) p ∷ ms) = found ms
found (placed (seat i) p ∷ ms) = found ms
found (placed (process i) p ∷ ms) = found ms
found (placed (number v) p ∷ ms) = found ms
found (placed (decimal v n f) p ∷ ms) = wrong decimal_weight (placed (decimal v n f) p ∷ ms)
found (placed outside p ∷ ms) = found ms

-- ---- parts that have none

line_found : {items : List Item} {ms r : Place} {ws : List Numbered} → LineSaid items ms ws r → found ms ≡ found r
line_found ended = refl
line_found (fixed d) = line_found d
line_found (a_seat d) = line_found d
line_found (a_process d) = line_found d

literal_found : {ms r : Place} {l : Literal} → LiteralSaid ms l r → found ms ≡ found r
literal_found literal = refl

others_found : {s : Sign} {ms r : Place} {ls : List Literal} → OthersSaid s ms ls r → found ms ≡ found r
others_found close = refl
others_found (next d o) = literal_found d ∙ others_found o

group_found : {p ms r : Place} {x : Literals} → GroupSaid p ms x r → found ms ≡ found r
group_found (conjoined d o) = literal_found d ∙ others_found o
group_found (disjoined d o) = literal_found d ∙ others_found o

shared_test_found : {ms r : Place} {x : SharedTest} → SharedTestSaid ms x r → found ms ≡ found r
shared_test_found shared_test = refl

test_found : {shared : Bool} {p ms r : Place} {x : Tested} → TestedSaid shared p ms x r → found ms ≡ found r
test_found (test_seats d) = group_found d
test_found (test_shared d) = shared_test_found d

guard_found : {shared : Bool} {v : Part} {ms r : Place} {g : Formula Tested} → GuardSaid (TestedSaid shared) v ms g r → found ms ≡ found r
guard_found (grouped d) = test_found d
guard_found (negated u) = guard_found u
guard_found (bracketed f u) = guard_found u
guard_found (single u) = guard_found u
guard_found (further us u) = guard_found us ∙ guard_found u

rest_found : {shared : Bool} {ms r : Place} {g : Option (Formula Tested)} → RestSaid shared ms g r → found ms ≡ found r
rest_found nothing = refl
rest_found (guarded u) = guard_found u

set_found : {shared : Bool} {ms r : Place} {v : Option Numbered} → SetSaid shared ms v r → found ms ≡ found r
set_found keeps = refl
set_found (sets_to l) = line_found l

range_found : {ms r : Place} {x : Range} → RangeSaid ms x r → found ms ≡ found r
range_found range = refl

shared_found : {ms r : Place} {g : Option Range} → SharedSaid ms g r → found ms ≡ found r
shared_found unshared = refl
shared_found (sharing l d) = line_found l ∙ range_found d

modules_found : {ms r : Place} {ys : List (List Numbered)} → ManySaid (LineSaid module_run) ms ys r → found ms ≡ found r
modules_found done = refl
modules_found (again d ds) = line_found d ∙ modules_found ds

-- ---- parts that have weights: kept by the old rule, judged by the new one

module _ (n : ℕ) where
  abbrev Holds : List Judgement → Type 0
  Holds = Every (Kept n)

  kept_none : (j : Judgement) → Kept n j → broken n j ≡ none
  kept_none j h = go (ruled n j)
    where
      go : Ruled n j → broken n j ≡ none
      go (kept e k) = e
      go (failed e k) = absurd (k h)

  -- from ms on it comes to the first decimal, if it does so from r on with what is judged there
  abbrev Finds : List Judgement → Place → Place → Type 0
  Finds js ms r = (rest : List Judgement) → first_broken n rest ≡ found r → first_broken n (js ++ rest) ≡ found ms

  finds_then : (ms q r : Place) (xs ys : List Judgement) → Finds xs ms q → Finds ys q r → Finds (xs ++ ys) ms r
  finds_then ms q r xs ys a b rest e = ap (first_broken n) (append_assoc xs ys rest) ∙ a (ys ++ rest) (b rest e)

  kept_over : (js rest : List Judgement) → Holds js → first_broken n (js ++ rest) ≡ first_broken n rest
  kept_over [] rest h = refl
  kept_over (j ∷ js) rest h = ap (λ o. or_else o (place_in j) (first_broken n (js ++ rest))) (kept_none j h.0) ∙ kept_over js rest h.1

  finds_kept : (ms r : Place) (js : List Judgement) → Holds js → found ms ≡ found r → Finds js ms r
  finds_kept ms r js h z rest e = kept_over js rest h ∙ e ∙ sym z

  weight_finds : {ms r : Place} {w : Weight} → WeightSaid ms w r → Kept n (weight true w ms) → Finds (weight false w ms ∷ []) ms r
  weight_finds {ms} {r} (a_number {v}) h = finds_kept ms r (weight false (whole v) ms ∷ []) (h, tt) refl
  weight_finds {ms} {r} (a_ratio {v} {w}) h = finds_kept ms r (weight false (ratio v w) ms ∷ []) (h, tt) refl
  weight_finds a_decimal h = λ rest e. refl

  module _ (k m : ℕ) where
    branch_finds : {shared : Bool} (ms r : Place) (x : BranchShape) → BranchSaid shared ms x r → Holds (judged_branch true k m x) → Finds (judged_branch false k m x) ms r
    branch_finds ms r x (branch {ns = ns} d l g) h =
        let others = judged_words (1 ∷ []) x.words ++ (judged_state k x.end ∷ judged_set m x.sets) in
        finds_then ms ns r (weight false x.weight ms ∷ []) others (weight_finds d h.0) (finds_kept ns r others h.1 (line_found l ∙ set_found g))

    plus_finds : {shared : Bool} (ms r : Place) (x : BranchShape) → PlusSaid shared ms x r → Holds (judged_branch true k m x) → Finds (judged_branch false k m x) ms r
    plus_finds ms r x (plus {ms = ns} d) h = branch_finds ns r x d h

  many_finds : {A : Type 0} {One : Said A} (old new : A → List Judgement) → ((ms r : Place) (x : A) → One ms x r → Holds (old x) → Finds (new x) ms r)
      → {ms r : Place} {xs : List A} → ManySaid One ms xs r → Holds (judged_each old xs) → Finds (judged_each new xs) ms r
  many_finds old new each done h = λ rest e. e
  many_finds old new each (again {ms} {ns} {r} {x} {xs} d ds) h =
      let (a, b) = every_append (Kept n) (old x) (judged_each old xs) h in
      finds_then ms ns r (new x) (judged_each new xs) (each ms ns x d a) (many_finds old new each ds b)

  statement_finds : {shared : Bool} (k m : ℕ) (ms r : Place) (x : StatementShape) → StatementSaid shared ms x r → Holds (judged_statement true k m x) → Finds (judged_statement false k m x) ms r
  statement_finds k m ms r x (statement {j} {a} {b} {c} {ns = ns} {os} {qs} {ws = ws} {g} {x = y} {xs = ys} l u d ds) h =
      let old = judged_branch true k m in
      let new = judged_branch false k m in
      let own = judged_state k x.own in
      let total : List Judgement = sum (map weight_in (y ∷ ys)) (sign_at ";" c ∷ r) ∷ [] in
      let words = judged_words (1 ∷ []) ws in
      let tests = judged_or k m g in
      let (h₁, h₂) = every_append (Kept n) words (own ∷ (tests ++ (judged_each old (y ∷ ys) ++ total))) h in
      let (h₃, h₄) = every_append (Kept n) tests (judged_each old (y ∷ ys) ++ total) h₂.1 in
      let (h₅, h₆) = every_append (Kept n) (judged_each old (y ∷ ys)) total h₄ in
      let (h₇, h₈) = every_append (Kept n) (old y) (judged_each old ys) h₅ in
      let each : Finds (judged_each new (y ∷ ys)) os (sign_at ";" c ∷ r) =
      finds_then os qs (sign_at ";" c ∷ r) (new y) (judged_each new ys) (branch_finds k m os qs y d h₇) (many_finds old new (plus_finds k m) ds h₈) in
      finds_then ms ns r words (own ∷ (tests ++ (judged_each new (y ∷ ys) ++ total))) (finds_kept ms ns words h₁ (line_found l))
      (finds_then ns ns r (own ∷ []) (tests ++ (judged_each new (y ∷ ys) ++ total)) (finds_kept ns ns (own ∷ []) (h₂.0, tt) refl)
      (finds_then ns os r tests (judged_each new (y ∷ ys) ++ total) (finds_kept ns os tests h₃ (rest_found u))
      (finds_then os (sign_at ";" c ∷ r) r (judged_each new (y ∷ ys)) total each (finds_kept (sign_at ";" c ∷ r) r total h₆ refl))))

-- ---- the card

card_finds : {ms : Place} {c : CardShape} → CardSaid ms c → Every (Kept (seats_in c)) (judged_card true c) → first_broken (seats_in c) (judged_card false c) ≡ found ms
card_finds (card {mode} {a} {b} {ms} {ns} {os} {ps} {qs} {rs} {g} {ws} {y} {x} {xs} {ys} d w v s ss t) h =
    let n = suc (length ys) in
    let k = y.top in
    let m = most_in g in
    let old = judged_statement true k m in
    let new = judged_statement false k m in
    let start = judged_state k y.start in
    let words = judged_words (1 ∷ 1 ∷ []) ws in
    let modules = judged_modules 2 ys in
    let (h₁, h₂) = every_append (Kept n) (judged_shared g) (words ++ (start ∷ (judged_each old (x ∷ xs) ++ modules))) h in
    let (h₃, h₄) = every_append (Kept n) words (start ∷ (judged_each old (x ∷ xs) ++ modules)) h₂ in
    let (h₅, h₆) = every_append (Kept n) (judged_each old (x ∷ xs)) modules h₄.1 in
    let (h₇, h₈) = every_append (Kept n) (old x) (judged_each old xs) h₅ in
    let last : first_broken n modules ≡ found rs = all_kept n 0 modules h₆ ∙ sym (modules_found t) in
    let each : Finds n (judged_each new (x ∷ xs)) ps (sign_at "endmodule" b ∷ rs) =
    finds_then n ps qs (sign_at "endmodule" b ∷ rs) (new x) (judged_each new xs) (statement_finds n k m ps qs x s h₇) (many_finds n old new (statement_finds n k m) ss h₈) in
    kept_over n (judged_shared g) (words ++ (start ∷ (judged_each new (x ∷ xs) ++ modules))) h₁
    ∙ kept_over n words (start ∷ (judged_each new (x ∷ xs) ++ modules)) h₃
    ∙ kept_over n (start ∷ []) (judged_each new (x ∷ xs) ++ modules) (h₄.0, tt)
    ∙ each modules last
    ∙ sym (shared_found d ∙ line_found w ∙ range_found v)

-- ---- reading

-- by the new rule, of what the old rule takes
read_new : (s : List ℕ) (c : Card) → read_under true s ≡ taken c → read_under false s ≡ judged (length s) c (found (marks_of s))
unfolding read_under
read_new s c e =
    let a = (accepted true s c).0 e in
    let x = a.shaped.shape in
    let (n, q) = shape_read a.shaped.said a.shaped.within in
    rw (le-leb (length s) card_bytes a.shaped.clean.short) (
    ap (marked false (length s) (marks_of s)) (inside_none (marks_of s) a.shaped.clean.inside)
    ∙ ap (shaped false (length s)) q
    ∙ ap (judged (length s) (card_in x)) (card_finds a.shaped.said a.kept)
    ∙ ap (λ d. judged (length s) d (found (marks_of s))) (sym a.card)
    )

-- ---- the first decimal, as a proposition

taken≢refused : {A : Type 0} {c : Card} {r p : ℕ} → taken c ≡ refused r p → A
taken≢refused e = let z : ◌≡◌ {A = ℕ} 0 1 = cc in absurd (omega arith)

refused_place : {r i p q : ℕ} → refused r p ≡ refused i q → p ≡ q
refused_place e = cc

-- what has none is passed over
passed : (ms rest : Place) → NoDecimal ms → found (ms ++ rest) ≡ found rest
passed [] rest h = refl
passed (placed (text s) p ∷ ms) rest h = passed ms rest (λ v n f q i. h v n f q (later i))
passed (placed (seat j) p ∷ ms) rest h = passed ms rest (λ v n f q i. h v n f q (later i))
passed (placed (process j) p ∷ ms) rest h = passed ms rest (λ v n f q i. h v n f q (later i))
passed (placed (number w) p ∷ ms) rest h = passed ms rest (λ v n f q i. h v n f q (later i))
passed (placed (decimal v n f) p ∷ ms) rest h = absurd (h v n f p first)
passed (placed outside p ∷ ms) rest h = passed ms rest (λ v n f q i. h v n f q (later i))

-- so the first one is what is found
first_found : {ms : Place} {p : ℕ} (d : FirstDecimal ms p) → found ms ≡ wrong decimal_weight (placed (decimal d.v d.n d.f) p ∷ d.after)
first_found {p = p} d = ap found d.split ∙ passed d.before (placed (decimal d.v d.n d.f) p ∷ d.after) d.earlier

in_none : {m : Placed} (ms : Place) → In m ms → ms ≡ [] → ⊥
in_none {m = m} [] i e = elim i [ ]
in_none (x ∷ ms) first e = let z : ◌≡◌ {A = ℕ} 0 1 = cc in omega arith
in_none (x ∷ ms) (later i) e = let z : ◌≡◌ {A = ℕ} 0 1 = cc in omega arith

in_either : {x m : Placed} {ms : Place} → In x (m ∷ ms) → (m ≡ x → ⊥) → (In x ms → ⊥) → ⊥
in_either first h k = h refl
in_either (later i) h k = k i

none_at_all : NoDecimal []
none_at_all v n f p i = in_none [] i refl

in_middle : (before after : Place) (m : Placed) → In m (before ++ (m ∷ after))
in_middle [] after m = first
in_middle (x ∷ before) after m = later (in_middle before after m)

has_one : {ms : Place} {p : ℕ} → FirstDecimal ms p → NoDecimal ms → ⊥
has_one {p = p} d h = h d.v d.n d.f p (subst (In (placed (decimal d.v d.n d.f) p)) (sym d.split) (in_middle d.before d.after _))

-- what a verdict says of the marks
abbrev Sees : Place → Verdict → Type 0
Sees ms fine = NoDecimal ms
Sees ms (wrong r q) = (e : ℕ) → FirstDecimal ms (place_of e q)

module _ (m : Placed) (ms : Place) (other : (v n f p : ℕ) → m ≡ placed (decimal v n f) p → ⊥) where
  none_behind : (ns : Place) → NoDecimal ns → NoDecimal (m ∷ ns)
  none_behind ns k v n f p i = in_either i (other v n f p) (k v n f p)

  sees_behind : (v : Verdict) → Sees ms v → Sees (m ∷ ms) v
  sees_behind fine k = none_behind ms k
  sees_behind (wrong r q) k = λ e.
      let d = k e in
      record { before = m ∷ d.before; v = d.v; n = d.n; f = d.f; after = d.after; split = ap (λ x. m ∷ x) d.split; earlier = none_behind d.before d.earlier }

sees : (ms : Place) → Sees ms (found ms)
sees [] = none_at_all
sees (placed (text s) p ∷ ms) = sees_behind (placed (text s) p) ms (λ v n f q e. let z : ◌≡◌ {A = ℕ} 0 1 = cc in omega arith) (found ms) (sees ms)
sees (placed (seat i) p ∷ ms) = sees_behind (placed (seat i) p) ms (λ v n f q e. let z : ◌≡◌ {A = ℕ} 0 1 = cc in omega arith) (found ms) (sees ms)
sees (placed (process i) p ∷ ms) = sees_behind (placed (process i) p) ms (λ v n f q e. let z : ◌≡◌ {A = ℕ} 0 1 = cc in omega arith) (found ms) (sees ms)
sees (placed (number w) p ∷ ms) = sees_behind (placed (number w) p) ms (λ v n f q e. let z : ◌≡◌ {A = ℕ} 0 1 = cc in omega arith) (found ms) (sees ms)
sees (placed (decimal v n f) p ∷ ms) = λ e. record { before = []; v = v; n = n; f = f; after = ms; split = refl; earlier = none_at_all }
sees (placed outside p ∷ ms) = sees_behind (placed outside p) ms (λ v n f q e. let z : ◌≡◌ {A = ℕ} 0 1 = cc in omega arith) (found ms) (sees ms)

-- ---- the theorems

module _ (s : List ℕ) (c : Card) where
  new_none : read_under false s ≡ taken c → NoDecimal (marks_of s)
  new_none e = go (found (marks_of s)) (sees (marks_of s)) (sym (read_new s c (stricter s c e)) ∙ e)
    where
      go : (v : Verdict) → Sees (marks_of s) v → judged (length s) c v ≡ taken c → NoDecimal (marks_of s)
      go fine h z = h
      go (wrong r q) h z = taken≢refused (sym z)

  none_new : read_under true s ≡ taken c → NoDecimal (marks_of s) → read_under false s ≡ taken c
  none_new e h = read_new s c e ∙ ap (judged (length s) c) (ap found (sym (append-nil (marks_of s))) ∙ passed (marks_of s) [] h)

  pub no_decimal : (read_under false s ≡ taken c) ↔ ((read_under true s ≡ taken c) × NoDecimal (marks_of s))
  no_decimal = (λ e. (stricter s c e, new_none e), λ h. none_new h.0 h.1)

  pub first_decimal : read_under true s ≡ taken c → (p : ℕ) → (read_under false s ≡ refused decimal_weight p) ↔ FirstDecimal (marks_of s) p
  first_decimal e p = (
    (λ z. go (found (marks_of s)) (sees (marks_of s)) (sym (read_new s c e) ∙ z)),
    λ d. read_new s c e ∙ ap (judged (length s) c) (first_found d),
  )
    where
      go : (v : Verdict) → Sees (marks_of s) v → judged (length s) c v ≡ refused decimal_weight p → FirstDecimal (marks_of s) p
      go fine h z = taken≢refused z
      go (wrong r q) h z = subst (FirstDecimal (marks_of s)) (refused_place z) (h (length s))

module _ (e : Entry) where
  pub copied : {body : List ℕ} → NoDecimal (marks_of e.body) → NewBody e body → body ≡ e.body
  copied h (withdrawn l) = refl
  copied h (unchanged c l n) = refl
  copied h (written c r p l o n k) = taken≢refused (sym (none_new e.body c o h) ∙ n)

  pub rewritten : {body : List ℕ} (p : ℕ) → e.live ≡ true → FirstDecimal (marks_of e.body) p → NewBody e body
      → (c : Card) × (read_under old_rule e.body ≡ taken c) × (body ≡ write_of c)
  rewritten p live d (withdrawn l) = absurd (true≢false (sym live ∙ l))
  rewritten p live d (unchanged c l n) = absurd (has_one d (new_none e.body c n))
  rewritten p live d (written c r q l o n k) = (c, o, refl)
