-- A written card is read as the card: its marks are said by the grammar, within the limits and with no judgement broken; and reading
-- takes what is so said.
use Prim.Native.Nat.{ℕ, zero, suc, ◌+◌, ◌-◌, ◌^◌, ◌≤◌, ◌<◌}
use mathlib.Core.Path.{◌≡◌, refl, sym, ap, ap₂, ◌∙◌, subst}
use mathlib.Core.Bool.{Bool, false}
use mathlib.Core.List.{List, [], ◌∷◌, ◌++◌, map}
use mathlib.Core.Option.{Option, none, some}
use native.Mathlib.Omega.{arith}
use borrow.Author.Tests.{le-leb}
use lib.ListN.{length}
use Rattle.card.specs.Limits.{card_bytes, number_digits, word_digits, most_seats, top_state, most_statements}
use Rattle.card.specs.Card.{Mode, nondeterministic, probabilistic, Statement, Shared, Card}
use Rattle.card.specs.Weight.{Rule, card_rule}
use Rattle.card.specs.Valid.{Every, values_of, ValidStatement, ValidShared, ValidCard}
use Rattle.marks_on_a_card.specs.Bytes.{is_digit, begins}
use Rattle.marks_on_a_card.specs.Digits.{pointed}
use Rattle.marks_on_a_card.specs.Marks.{number, placed, marks, marks_of}
use Rattle.reading.specs.Reader.{Place, at, Result, ok, Numbered, Item}
use Rattle.reading.specs.Group.{Literal, Literals, SharedTest, Tested}
use Rattle.reading.specs.Guard.{is_some}
use Rattle.reading.specs.Judgements.{Judgement, fine, first_broken}
use Rattle.reading.specs.Shape.{BranchShape, StatementShape, Range, CardShape, card as read_card}
use Rattle.reading.specs.Checks.{judged_words, judged_each, judged_statement, judged_modules, judged_shared, judged_card, most_in, statement_in, seats_in, shared_in, card_in}
use Rattle.reading.specs.Reading.{taken, first_outside, shaped, read_under}
use Rattle.grammar.specs.Grammar.{Said, sign_at, valued, LineSaid, ended, fixed, a_seat, a_process, shared_run, card_run, module_run, ManySaid, done, again, LiteralSaid, literal, OthersSaid, close, next, GroupSaid, conjoined, disjoined, SharedTestSaid, shared_test, TestedSaid, test_seats, test_shared, GuardSaid, grouped, negated, bracketed, single, further}
use Rattle.grammar.specs.Grammar.{RestSaid, nothing, guarded, WeightSaid, a_number, a_ratio, a_decimal, SetSaid, keeps, sets_to, BranchSaid, branch, PlusSaid, plus, StatementSaid, statement, mode_word, RangeSaid, range, SharedSaid, unshared, sharing, CardSaid, card}
use Rattle.grammar.specs.Counted.{Counted, Within, Past, FirstPast, counted_many, counted_module, counted_statement, counted_shared, counted_card}
use Rattle.grammar.proofs.Follows.{Ran, came, fell, card_runs}
use Rattle.grammar.proofs.Valid.{read_valid}
use Rattle.phrases.specs.Phrases.{◌▸◌, num, mode_word as mode_text}
use Rattle.texts.specs.Shared.{declaration}
use Rattle.texts.specs.Writing.{statements, module_text, modules, write_of}
use Rattle.rereading.proofs.Lexed.{Apart, number_mark, seat_mark, process_mark}
use Rattle.rereading.proofs.Groups.{values_in, Kept}
use Rattle.rereading.proofs.Guards.{every_append}
use Rattle.rereading.proofs.Statements.{LineWritten, line_kept, StatementWritten, statement_written, StatementsWritten, statements_written}

-- ---- the further modules

module _ (decimals : Rule) (e : ℕ) where
  abbrev M : List ℕ → Place
  M r = marks e 0 r

  abbrev dues : ℕ → List ℕ
  dues i = i ∷ 1 ∷ 1 ∷ i ∷ i ∷ 1 ∷ []

  module_line : (i : ℕ) → i < 10 ^ word_digits → (r : List ℕ) → LineWritten module_run (dues i) (M (module_text i r)) (M r)
  module_line i h r =
      rw (process_mark e i (" = process1 [s1=s" ▸ num i (", s" ▸ num i ("=s1] endmodule\n" ▸ r))) h refl, seat_mark e i (", s" ▸ num i ("=s1] endmodule\n" ▸ r)) h refl, seat_mark e i ("=s1] endmodule\n" ▸ r) h refl)
      (record {
        found = valued i _ ∷ valued 1 _ ∷ valued 1 _ ∷ valued i _ ∷ valued i _ ∷ valued 1 _ ∷ [];
        said = fixed (a_process (fixed (a_process (fixed (a_seat (fixed (a_seat (fixed (a_seat (fixed (a_seat (fixed (fixed ended)))))))))))));
        due = (refl, (refl, (refl, (refl, (refl, (refl, tt))))));
      })

  record ModulesWritten (n k i c : ℕ) (ms rest : Place) : Type 0 where
    found : List (List Numbered)
    said : ManySaid (LineSaid module_run) ms found rest
    many : length found ≡ c
    kept : Every (Kept n) (judged_modules i found)
    within : i + c ≤ suc most_seats → Every Within (counted_many counted_module i said)

  modules_made : (n k i c : ℕ) (ms ns rest : Place) → LineWritten module_run (dues i) ms ns → ModulesWritten n k (suc i) c ns rest → ModulesWritten n k i (suc c) ms rest
  modules_made n k i c ms ns rest l w = record {
    found = l.found ∷ w.found;
    said = again l.said w.said;
    many = ap suc w.many;
    kept = every_append (Kept n) (judged_words (dues i) l.found) (judged_modules (suc i) w.found) (line_kept n (dues i) l.found l.due) w.kept;
    within = λ h. (omega arith, w.within (omega arith));
  }

  modules_written : (n k i c : ℕ) (r : List ℕ) → i + c < 10 ^ word_digits → ModulesWritten n k (suc i) c (M (modules i c r)) (M r)
  modules_written n k i zero r h = record { found = []; said = done; many = refl; kept = tt; within = λ l. tt }
  modules_written n k i (suc c) r h =
      modules_made n k (suc i) c (M (module_text (suc i) (modules (suc i) c r))) (M (modules (suc i) c r)) (M r) (module_line (suc i) (omega arith) (modules (suc i) c r)) (modules_written n k (suc i) c r (omega arith))

  abbrev apart : {r : List ℕ} → begins is_digit r ≡ false → pointed r ≡ false → Apart r
  apart d p = record { no_digit = d; no_point = p }

  -- [0..k] init l; behind its two points
  range_marks : (k l : ℕ) (r : List ℕ) → k < 10 ^ number_digits → l < 10 ^ number_digits
      → M (num k ("] init " ▸ num l (";" ▸ r)))
      ≡ placed (number k) (e - length (num k ("] init " ▸ num l (";" ▸ r))))
      ∷ sign_at "]" (e - length ("] init " ▸ num l (";" ▸ r)))
      ∷ sign_at "init" (e - length ("init " ▸ num l (";" ▸ r)))
      ∷ placed (number l) (e - length (num l (";" ▸ r)))
      ∷ sign_at ";" (e - length (";" ▸ r))
      ∷ M r
  range_marks k l r small-k small-l =
      let start = num l (";" ▸ r) in
      let front = num k ("] init " ▸ start) in
      number_mark e k ("] init " ▸ start) small-k (apart refl refl)
      ∙ ap (λ (t : Place). placed (number k) (e - length front) ∷ sign_at "]" (e - length ("] init " ▸ start)) ∷ sign_at "init" (e - length ("init " ▸ start)) ∷ t)
      (number_mark e l (";" ▸ r) small-l (apart refl refl))

  -- the two points of a range, behind which the marks are ys
  abbrev Ranged : List Item → List ℕ → Place → List ℕ → Place → Type 0
  Ranged items dues ms y ys = LineWritten items dues ms (placed (number 0) (e - length ("0.." ▸ y)) ∷ sign_at ".." (e - length (".." ▸ y)) ∷ ys)

  front_line : (y : List ℕ) → Ranged card_run (1 ∷ 1 ∷ []) (M ("\nmodule process1\ns1 : [0.." ▸ y)) y (M y)
  front_line y = record { found = valued 1 _ ∷ valued 1 _ ∷ []; said = fixed (a_process (a_seat (fixed (fixed ended)))); due = (refl, (refl, tt)) }

  shared_line : (y : List ℕ) → Ranged shared_run [] (M ("\nglobal g : [0.." ▸ y)) y (M y)
  shared_line y = record { found = []; said = fixed (fixed (fixed (fixed ended))); due = tt }

  -- ---- the declaration of the shared number

  record SharedWritten (n : ℕ) (s : Option Shared) (ms rest : Place) : Type 0 where
    found : Option Range
    said : SharedSaid ms found rest
    means : shared_in found ≡ s
    values : values_in found ≡ values_of s
    kept : Every (Kept n) (judged_shared found)
    within : Every Within (counted_shared said)

  shared_made : (n : ℕ) (s : Shared) → ValidShared (some s) → (a b c d f g h : ℕ) (ms rest : Place)
      → LineWritten shared_run [] ms (placed (number 0) a ∷ sign_at ".." b ∷ placed (number s.most) c ∷ sign_at "]" d ∷ sign_at "init" f ∷ placed (number s.start) g ∷ sign_at ";" h ∷ rest)
      → SharedWritten n (some s) ms rest
  shared_made n s v a b c d f g h ms rest l = record {
    found = some (record { top = s.most; start = valued s.start (placed (number s.start) g ∷ sign_at ";" h ∷ rest) });
    said = sharing l.said range;
    means = refl;
    values = refl;
    kept = (rw (le-leb s.start s.most v.1), tt);
    within = (v.0, tt);
  }

  small_values : (s : Option Shared) → ValidShared s → (m : ℕ) → m ≡ values_of s → m < 10 ^ number_digits
  small_values none v m h = omega arith
  small_values (some s) v m h = omega (arith, v.0)

  shared_written : (n : ℕ) (s : Option Shared) (r : List ℕ) → ValidShared s → SharedWritten n s (M (declaration s r)) (M r)
  shared_written n none r v = record { found = none; said = unshared; means = refl; values = refl; kept = tt; within = tt }
  shared_written n (some s) r v =
      let y = num s.most ("] init " ▸ num s.start (";" ▸ r)) in
      shared_made n s v _ _ _ _ _ _ _ (M ("\nglobal g : [0.." ▸ y)) (M r)
      (subst (λ (ys : Place). Ranged shared_run [] (M ("\nglobal g : [0.." ▸ y)) y ys)
      (range_marks s.most s.start r (omega (arith, v.0)) (omega (arith, v.0, v.1))) (shared_line y))

  -- ---- the card

  mode_mark : (m : Mode) (s : Option Shared) (y : List ℕ) → M (mode_text m ▸ declaration s ("\nmodule" ▸ y)) ≡ sign_at (mode_word m) (e - length (mode_text m ▸ declaration s ("\nmodule" ▸ y))) ∷ M (declaration s ("\nmodule" ▸ y))
  mode_mark nondeterministic none y = refl
  mode_mark nondeterministic (some s) y = refl
  mode_mark probabilistic none y = refl
  mode_mark probabilistic (some s) y = refl

  record CardWritten (c : Card) (ms : Place) : Type 0 where
    found : CardShape
    said : CardSaid ms found
    seats : seats_in found ≡ c.n
    means : card_in found ≡ c
    kept : Every (Kept c.n) (judged_card decimals found)
    within : Every Within (counted_card said)

  same_card : (mode : Mode) (s t : Option Shared) (n m k l : ℕ) (ss : List StatementShape) (xs : List Statement) → t ≡ s → m ≡ n → map (statement_in n) ss ≡ xs
      → ◌≡◌ {A = Card} (record { mode = mode; shared = t; n = m; k = k; l = l; statements = map (statement_in m) ss }) (record { mode = mode; shared = s; n = n; k = k; l = l; statements = xs })
  same_card mode s t n m k l ss xs p q r = rw (p, q, r)

  card_made : (mode : Mode) (s : Option Shared) (n k l : ℕ) (x : Statement) (xs : List Statement) (small_n : n < 10 ^ word_digits) (small-k : k < 10 ^ number_digits)
      → 1 ≤ n → n ≤ most_seats → k ≤ top_state → l ≤ k → length (x ∷ xs) ≤ most_statements
      → (a b c d f g h i j : ℕ) (ms ns os ps qs : Place)
      → (w : SharedWritten n s ms ns) (small-g : values_in w.found < 10 ^ number_digits)
      → LineWritten card_run (1 ∷ 1 ∷ []) ns (placed (number 0) b ∷ sign_at ".." c ∷ placed (number k) d ∷ sign_at "]" f ∷ sign_at "init" g ∷ placed (number l) h ∷ sign_at ";" i ∷ os)
      → StatementWritten decimals e n k w.found small_n small-k small-g x os ps
      → StatementsWritten decimals e n k w.found small_n small-k small-g xs ps (sign_at "endmodule" j ∷ qs)
      → ModulesWritten n k 2 (n - 1) qs []
      → CardWritten (record { mode = mode; shared = s; n = n; k = k; l = l; statements = x ∷ xs }) (sign_at (mode_word mode) a ∷ ms)
  card_made mode s n k l x xs small_n small-k one most top init few a b c d f g h i j ms ns os ps qs w small-g u y ys zs = record {
    found = record { mode = mode; shared = w.found; words = u.found; k = k; l = valued l (placed (number l) h ∷ sign_at ";" i ∷ os); statements = y.found ∷ ys.found; modules = zs.found };
    said = card w.said u.said range y.said ys.said zs.said;
    seats = all_seats;
    means = same_card mode s (shared_in w.found) n (suc (length zs.found)) k l (y.found ∷ ys.found) (x ∷ xs) w.means all_seats (ap₂ ◌∷◌ y.means ys.means);
    kept = every_append (Kept n) (judged_shared w.found) _ w.kept (
        every_append (Kept n) (judged_words (1 ∷ 1 ∷ []) u.found) _ (line_kept n (1 ∷ 1 ∷ []) u.found u.due) (
          rw (le-leb l k init),
          every_append (Kept n) (judged y.found ++ judged_each judged ys.found) (judged_modules 2 zs.found)
              (every_append (Kept n) (judged y.found) (judged_each judged ys.found) y.kept ys.kept)
              zs.kept,
        )
        );
    within = every_append Within (counted_shared w.said) _ w.within (
      top,
      every_append Within (counted_statement os ps y.found 1 y.said) _ (y.within 1 (omega arith))
          (every_append Within (counted_many counted_statement 2 ys.said) (counted_many counted_module 2 zs.said) (ys.within 2 (omega arith)) (zs.within (omega arith))),
    );
  }
    where
      judged : StatementShape → List Judgement
      judged = judged_statement decimals k (most_in w.found)

      all_seats : suc (length zs.found) ≡ n
      all_seats = omega (arith, zs.many)

  parts_written : (mode : Mode) (s : Option Shared) (n k l : ℕ) (xs : List Statement) → ValidCard (record { mode = mode; shared = s; n = n; k = k; l = l; statements = xs })
      → CardWritten (record { mode = mode; shared = s; n = n; k = k; l = l; statements = xs })
      (M (mode_text mode ▸ declaration s ("\nmodule process1\ns1 : [0.." ▸ num k ("] init " ▸ num l (";\n" ▸ statements n xs ("endmodule\n" ▸ modules 1 (n - 1) []))))))
  parts_written mode s n k l [] v = absurd (omega (arith, v.some.0))
  parts_written mode s n k l (x ∷ xs) v =
      let small_n : n < 10 ^ word_digits = omega (arith, v.seats_most) in
      let small-k : k < 10 ^ number_digits = omega (arith, v.top) in
      let last = "endmodule\n" ▸ modules 1 (n - 1) [] in
      let body = statements n (x ∷ xs) last in
      let front = num k ("] init " ▸ num l (";\n" ▸ body)) in
      let w = shared_written n s ("\nmodule process1\ns1 : [0.." ▸ front) v.shared in
      let small-g : values_in w.found < 10 ^ number_digits = small_values s v.shared (values_in w.found) w.values in
      let valid : Every (ValidStatement n k (values_in w.found)) (x ∷ xs) = subst (λ (m : ℕ). Every (ValidStatement n k m) (x ∷ xs)) (sym w.values) v.statements in
      subst (λ (ms : Place). CardWritten (record { mode = mode; shared = s; n = n; k = k; l = l; statements = x ∷ xs }) ms) (sym (mode_mark mode s (" process1\ns1 : [0.." ▸ front)))
      (card_made mode s n k l x xs small_n small-k v.seats v.seats_most v.top v.init v.some.1 _ _ _ _ _ _ _ _ _
      (M (declaration s ("\nmodule process1\ns1 : [0.." ▸ front))) (M ("\nmodule process1\ns1 : [0.." ▸ front)) (M body) (M (statements n xs last)) (M (modules 1 (n - 1) []))
      w small-g
      (subst (λ (ys : Place). Ranged card_run (1 ∷ 1 ∷ []) (M ("\nmodule process1\ns1 : [0.." ▸ front)) front ys) (range_marks k l ("\n" ▸ body) small-k (omega (arith, v.init))) (front_line front))
      (statement_written decimals e n k w.found small_n small-k small-g x (statements n xs last) valid.0)
      (statements_written decimals e n k w.found small_n small-k small-g xs last valid.1)
      (modules_written n k 1 (n - 1) [] (omega (arith, v.seats_most))))

  text_of : (c : Card) → write_of c ≡ (mode_text c.mode ▸ declaration c.shared ("\nmodule process1\ns1 : [0.." ▸ num c.k ("] init " ▸ num c.l (";\n" ▸ statements c.n c.statements ("endmodule\n" ▸ modules 1 (c.n - 1) [])))))
  unfolding write_of
  text_of c = refl

  card_written : (c : Card) → ValidCard c → CardWritten c (M (write_of c))
  card_written c v = subst (λ (t : List ℕ). CardWritten c (M t)) (sym (text_of c)) (parts_written c.mode c.shared c.n c.k c.l c.statements v)

-- ---- no mark that the grammar says is outside the rules

abbrev Inside : Place → Place → Type 0
Inside ms r = first_outside ms ≡ first_outside r

line_inside : {items : List Item} {ms r : Place} {ws : List Numbered} → LineSaid items ms ws r → Inside ms r
line_inside ended = refl
line_inside (fixed d) = line_inside d
line_inside (a_seat d) = line_inside d
line_inside (a_process d) = line_inside d

literal_inside : {ms r : Place} {l : Literal} → LiteralSaid ms l r → Inside ms r
literal_inside literal = refl

others_inside : {s : Rattle.card.specs.Card.Sign} {ms r : Place} {ls : List Literal} → OthersSaid s ms ls r → Inside ms r
others_inside close = refl
others_inside (next l o) = literal_inside l ∙ others_inside o

group_inside : {p ms r : Place} {g : Literals} → GroupSaid p ms g r → Inside ms r
group_inside (conjoined l o) = literal_inside l ∙ others_inside o
group_inside (disjoined l o) = literal_inside l ∙ others_inside o

test_inside : {ms r : Place} {x : SharedTest} → SharedTestSaid ms x r → Inside ms r
test_inside shared_test = refl

tested_inside : {shared : Bool} {p ms r : Place} {x : Tested} → TestedSaid shared p ms x r → Inside ms r
tested_inside (test_seats d) = group_inside d
tested_inside (test_shared d) = test_inside d

guard_inside : {shared : Bool} {v : Rattle.grammar.specs.Grammar.Part} {ms r : Place} {g : Rattle.card.specs.Card.Formula Tested} → GuardSaid (TestedSaid shared) v ms g r → Inside ms r
guard_inside (grouped d) = tested_inside d
guard_inside (negated d) = guard_inside d
guard_inside (bracketed f d) = guard_inside d
guard_inside (single d) = guard_inside d
guard_inside (further d u) = guard_inside d ∙ guard_inside u

rest_inside : {shared : Bool} {ms r : Place} {g : Option (Rattle.card.specs.Card.Formula Tested)} → RestSaid shared ms g r → Inside ms r
rest_inside nothing = refl
rest_inside (guarded d) = guard_inside d

weight_inside : {ms r : Place} {w : Rattle.card.specs.Weight.Weight} → WeightSaid ms w r → Inside ms r
weight_inside a_number = refl
weight_inside a_ratio = refl
weight_inside a_decimal = refl

set_inside : {shared : Bool} {ms r : Place} {v : Option Numbered} → SetSaid shared ms v r → Inside ms r
set_inside keeps = refl
set_inside (sets_to l) = line_inside l

branch_inside : {shared : Bool} {ms r : Place} {b : BranchShape} → BranchSaid shared ms b r → Inside ms r
branch_inside (branch w l s) = weight_inside w ∙ line_inside l ∙ set_inside s

plus_inside : {shared : Bool} (ms r : Place) (b : BranchShape) → PlusSaid shared ms b r → Inside ms r
plus_inside ms r b (plus d) = branch_inside d

many_inside : {A : Type 0} (One : Said A) → ((ms r : Place) (x : A) → One ms x r → Inside ms r) → {ms r : Place} {xs : List A} → ManySaid One ms xs r → Inside ms r
many_inside One h done = refl
many_inside One h (again {ms} {ns} {x = x} d ds) = h ms ns x d ∙ many_inside One h ds

statement_inside : {shared : Bool} (ms r : Place) (x : StatementShape) → StatementSaid shared ms x r → Inside ms r
statement_inside {shared} ms r x (statement l w d ds) = line_inside l ∙ rest_inside w ∙ branch_inside d ∙ many_inside (PlusSaid shared) plus_inside ds

range_inside : {ms r : Place} {x : Range} → RangeSaid ms x r → Inside ms r
range_inside range = refl

shared_inside : {ms r : Place} {g : Option Range} → SharedSaid ms g r → Inside ms r
shared_inside unshared = refl
shared_inside (sharing l x) = line_inside l ∙ range_inside x

pub card_inside : {ms : Place} {c : CardShape} → CardSaid ms c → first_outside ms ≡ none
card_inside (card {g = g} w l x s ss ys) =
    shared_inside w ∙ line_inside l ∙ range_inside x ∙ statement_inside _ _ _ s ∙ many_inside (StatementSaid (is_some g)) statement_inside ss ∙ many_inside (LineSaid module_run) (λ ms r ws d. line_inside d) ys

-- ---- what is said within the limits and keeps the rules is read

none_past : (cs : List Counted) (q : Place) → Every Within cs → FirstPast cs q → ⊥
none_past cs q w f = go f.before f.first f.after (subst (Every Within) f.split w) f.past
  where
    go : (xs : List Counted) (c : Counted) (ys : List Counted) → Every Within (xs ++ (c ∷ ys)) → Past c → ⊥
    go [] c ys w p = omega (arith, w.0)
    go (x ∷ xs) c ys w p = go xs c ys w.1 p

none_broken : (n : ℕ) (js : List Judgement) → Every (Kept n) js → first_broken n js ≡ fine
none_broken n [] w = refl
none_broken n (j ∷ js) w = rw w.0 (none_broken n js w.1)

said_read : (decimals : Rule) (ms : Place) (x : CardShape) (d : CardSaid ms x) → Every Within (counted_card d) → (e : ℕ) (c : Card) → card_in x ≡ c → first_broken (seats_in x) (judged_card decimals x) ≡ fine
    → shaped decimals e (read_card (at ms 0)) ≡ taken c
said_read decimals ms x d w e c m b = go (card_runs d 0)
  where
    go : Ran (counted_card d) (λ (y : Result CardShape). (n : ℕ) × (y ≡ ok x (at [] n)) × Unit {0}) (read_card (at ms 0)) → shaped decimals e (read_card (at ms 0)) ≡ taken c
    go (came v (n, q, p)) = rw (q, b) (ap taken m)
    go (fell q f s) = absurd (none_past (counted_card d) q w f)

-- what stands in a written card's marks is the card, however long the text is; it has no decimals, so under every rule of a weight
marks_mean : (decimals : Rule) (c : Card) → ValidCard c → shaped decimals (length (write_of c)) (read_card (at (marks_of (write_of c)) 0)) ≡ taken c
marks_mean decimals c v =
    let w = card_written decimals (length (write_of c)) c v in
    let b : first_broken (seats_in w.found) (judged_card decimals w.found) ≡ fine = rw w.seats (none_broken c.n (judged_card decimals w.found) w.kept) in
    said_read decimals (marks_of (write_of c)) w.found w.said w.within (length (write_of c)) c w.means b

-- an accepted card written out and read again is the same card
pub round_trip : (decimals : Rule) (c : Card) → ValidCard c → length (write_of c) ≤ card_bytes → read_under decimals (write_of c) ≡ taken c
unfolding read_under
round_trip decimals c v h = rw (le-leb (length (write_of c)) card_bytes h, card_inside (card_written decimals (length (write_of c)) c v).said) (marks_mean decimals c v)

-- so a written form is one card's alone
pub written_once : (c d : Card) → ValidCard c → ValidCard d → write_of c ≡ write_of d → c ≡ d
written_once c d v w e =
    let both : taken c ≡ taken d = sym (marks_mean card_rule c v) ∙ ap (λ (s : List ℕ). shaped card_rule (length s) (read_card (at (marks_of s) 0))) e ∙ marks_mean card_rule d w in
    cc

-- a card that was read under one rule, written out and read again under any is the same card
pub read_again : (decimals later : Rule) (s : List ℕ) (c : Card) → read_under decimals s ≡ taken c → length (write_of c) ≤ card_bytes → read_under later (write_of c) ≡ taken c
read_again decimals later s c e h = round_trip later c (read_valid decimals s c e) h
