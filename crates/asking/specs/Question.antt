-- A question ("2026-01"): a formula over groups and exactly-ones, on a card that shares a number also over tests of that (2026-10), with a card's
-- limits; its reader and its grammar. Assumes nothing.
use Rattle.std.specs.Prelude.{ℕ, zero, ◌≡◌, Bool, true, false, ◌&&◌, ◌||◌, List, [], ◌∷◌, length}
use Rattle.card.specs.Limits.{most_nodes, most_depth}
use Rattle.card.specs.Card.{Sign, all, any, Relation, is as eq, isnt as ne, Formula}
use Rattle.marks_on_a_card.specs.Marks.{placed}
use Rattle.reading.specs.Reader.{Place, at, Result, ok, stop, Reader, ◌>>=◌, ◌>>◌, return, is, if_next, sign, here}
use Rattle.reading.specs.Guard.{test_next, if_seat, Read, expression, unary_by}
use Rattle.reading.specs.Group.{joint, Literal, Literals, literal, joined, others, group, SharedTest, shared_test}
use Rattle.reading.specs.Shape.{may_have, the_end}
use Rattle.grammar.specs.Counted.{Counted, counted_guard}
use Rattle.grammar.specs.Verdicts.{UnfitIn, PastIn, In}
use Rattle.grammar.specs.Grammar.{sign_at, LiteralSaid, JoinedSaid, OthersSaid, GroupSaid, SharedTestSaid, joined_by, FormulaSaid}

-- ---- what stands in a question where a formula has its atoms

pub data Item : Type 0 where
  a_group : Literals → Item
  exactly_one : Place → List (List Literal) → Item  -- its outer bracket, and its terms
  a_test : SharedTest → Item

-- ---- where an exactly-one starts

abbrev pub relations : List Literal → List Relation
relations [] = []
relations (l ∷ ls) = l.relation ∷ relations ls

abbrev pub among : Relation → List Relation → Bool
among q [] = false
among eq (eq ∷ qs) = true
among eq (ne ∷ qs) = among eq qs
among ne (eq ∷ qs) = among ne qs
among ne (ne ∷ qs) = true

-- both relations among them
abbrev pub both : List Relation → Bool
both qs = among eq qs && among ne qs

-- and without the test: some literal has this relation
abbrev pub Occurs : Relation → List Literal → Type 0
Occurs q ls = (l : Literal) × In l ls × (l.relation ≡ q)

abbrev pub by_and : Sign → Bool
by_and all = true
by_and any = false

abbrev pub mixed : Literals → Bool
mixed x = by_and x.sign && both (relations x.literals)

abbrev pub mixed_read : Result Literals → Bool
mixed_read (ok x s) = mixed x
mixed_read (stop r p) = false

-- behind an opening bracket: literals joined by `&`, with both relations among them, up to the closing bracket
unfoldable pub mixed_next : Place → Bool
mixed_next ms = mixed_read (group [] (at ms zero))

-- the same behind one more opening bracket
abbrev pub twice_next : Place → Bool
twice_next [] = false
twice_next (placed m p ∷ ms) = is "(" m && mixed_next ms

-- behind a bracket, on a card that shares a number or not: does it start a group, a test of that number or an exactly-one?
abbrev pub item_next : Bool → Place → Bool
item_next shared ms = test_next shared ms || twice_next ms

-- ---- the reader

abbrev pub term : Reader (List Literal)
term = do
  sign "("
  l ← literal
  rest ← here
  ls ← others (joint all) (length rest)
  return (l ∷ ls)

-- behind its outer bracket, which is at p
abbrev pub exactly : Place → Reader Item
exactly p = do
  t ← term
  rest ← here
  ts ← joined term (joint any) (length rest)
  return (exactly_one p (t ∷ ts))

abbrev pub item : Place → Reader Item
item p = if_next "g" (shared_test >>= λ x. return (a_test x)) (if_seat (group p >>= λ x. return (a_group x)) (exactly p))

abbrev pub asked : Bool → Read Item
asked shared = expression (unary_by (item_next shared) item most_depth)

abbrev pub question : Bool → Read Item
question shared = do
  may_have most_nodes
  g ← asked shared
  the_end
  return g

-- ---- the grammar

pub data TermSaid : Place → List Literal → Place → Type 0 where
  a_term : {a : ℕ} {ms ns r : Place} {l : Literal} {ls : List Literal}
      → LiteralSaid ms l ns → OthersSaid all ns ls r → TermSaid (sign_at "(" a ∷ ms) (l ∷ ls) r

-- behind a bracket at p; the first term of an exactly-one has both relations
pub data ItemSaid : Bool → Place → Place → Item → Place → Type 0 where
  of_group : {shared : Bool} {p ms r : Place} {x : Literals} → GroupSaid p ms x r → ItemSaid shared p ms (a_group x) r
  of_terms : {shared : Bool} {p ms ns r : Place} {t : List Literal} {ts : List (List Literal)}
      → TermSaid ms t ns → both (relations t) ≡ true → JoinedSaid TermSaid any ns ts r
      → ItemSaid shared p ms (exactly_one p (t ∷ ts)) r
  of_test : {p ms r : Place} {x : SharedTest} → SharedTestSaid ms x r → ItemSaid true p ms (a_test x) r

-- an expression's bracket stands where no exactly-one starts
abbrev pub NoneStarts : Place → Type 0
NoneStarts ms = twice_next ms ≡ false

pub data QuestionSaid (shared : Bool) (ms : Place) (g : Formula Item) : Type 0 where
  asks : FormulaSaid NoneStarts (ItemSaid shared) (joined_by any) ms g [] → QuestionSaid shared ms g

-- ---- what is seen behind a bracket: what it starts, and what the bracket before it starts

pub data Sight : Type 0 where
  words mixed_words twice other : Sight

abbrev pub seen : Bool → Bool → Bool → Sight
seen true true c = mixed_words
seen true false c = words
seen false b true = twice
seen false b false = other

abbrev pub sight : Bool → Place → Sight
sight shared ms = seen (test_next shared ms) (mixed_next ms) (twice_next ms)

-- ---- what the limits count, and when a question is out of shape or past a limit

abbrev pub counted_question : {shared : Bool} (ms : Place) (g : Formula Item) → QuestionSaid shared ms g → List Counted
counted_question ms g (asks d) = counted_guard 0 0 d

abbrev pub QuestionUnfit : Bool → Place → Place → Type 0
QuestionUnfit shared ms r = UnfitIn (QuestionSaid shared) ms r

-- what an opening bracket starts, and what the one before it starts, is told by the marks behind it
abbrev pub QuestionPast : Bool → Place → Place → Type 0
QuestionPast shared ms r = PastIn (QuestionSaid shared) counted_question (sight shared) ms r
