-- Reading a question on a card of n seats with top state k, whose shared number has so many values: refusals 21 to 26 in their order, or the
-- question ("2026-01"; 2026-10); and what each of these is, in terms of its marks, the grammar, the limits and the rules. Assumes nothing.
use Rattle.std.specs.Prelude.{ℕ, zero, suc, ◌+◌, ◌≤◌, ◌<◌, ◌≡◌, Bool, true, false, ◌&&◌, List, [], ◌∷◌, eqb, leb, length}
use Rattle.std.proofs.Math.Option.{Option, none, some}
use Rattle.card.specs.Limits.{card_bytes}
use Rattle.card.specs.Refusals.{too_long, outside_rules, above_top, not_due}
use Rattle.card.specs.Text.{when◌then◌else◌}
use Rattle.card.specs.Card.{Relation, is as eq, isnt as ne, Formula}
use Rattle.card.specs.Formulas.{over, each_atom}
use Rattle.card.specs.Valid.{Every}
use Rattle.marks_on_a_card.specs.Marks.{Placed, marks_of, place_of}
use Rattle.late.specs.Values.{shares, most_of}
use Rattle.reading.specs.Reader.{Place, at, Result, ok, stop}
use Rattle.reading.specs.Group.{Literal, Literals}
use Rattle.reading.specs.Judgements.{once, same_relation, alike, Verdict, fine, wrong}
use Rattle.grammar.specs.Rules.{OnceEach}
use Rattle.reading.specs.Reading.{first_outside}
use Rattle.grammar.specs.Counted.{Within}
use Rattle.grammar.specs.Verdicts.{Clean, In}
use Rattle.entry.specs.Said.{Said, says, refused}
use Rattle.asking.specs.Question.{Item, a_group, exactly_one, a_test, question, QuestionSaid, counted_question, QuestionUnfit, QuestionPast}
use Rattle.asking.specs.Meant.{Atom, of_all, one_in, shared_at, Question}

-- ---- what is judged, and where

pub data Claim : Type 0 where
  state : ℕ → ℕ → Place → Claim  -- the most that the first d of an item may be, or the shared number, and what stands there
  everyone : Literals → Claim
  exactly : Place → List (List Literal) → Claim

abbrev pub claim_at : Claim → Place
claim_at (state most v p) = p
claim_at (everyone g) = g.place
claim_at (exactly p ts) = p

abbrev pub due : Claim → ℕ
due (state most v p) = above_top
due (everyone g) = not_due
due (exactly p ts) = not_due

abbrev pub first_d : ℕ → List Literal → List Claim
first_d k [] = []
first_d k (l ∷ ls) = state k l.d l.place ∷ []

abbrev pub first_term_d : ℕ → List (List Literal) → List Claim
first_term_d k [] = []
first_term_d k (t ∷ ts) = first_d k t

abbrev pub claims_of : ℕ → ℕ → Item → List Claim
claims_of k m (a_group g) = everyone g ∷ first_d k g.literals
claims_of k m (exactly_one p ts) = exactly p ts ∷ first_term_d k ts
claims_of k m (a_test x) = state m x.value.value x.value.place ∷ []

-- in the order of the text, on a card with top state k, whose shared number may be m
abbrev pub claims : ℕ → ℕ → Formula Item → List Claim
claims k m g = each_atom (claims_of k m) g

-- ---- the rules

-- one relation, one d, and the seats 1 to n once each
pub record Everyone (n : ℕ) (ls : List Literal) : Type 0 where
  pub some : 1 ≤ length ls
  pub relation : Relation
  pub relations : Every (λ l. l.relation ≡ relation) ls
  pub d : ℕ
  pub ds : Every (λ l. l.d ≡ d) ls
  pub seats : OnceEach 1 n ls

-- in the i-th term seat i is d, and all others are not
abbrev pub due_relation : ℕ → Literal → Relation
due_relation i l = when eqb l.seat i then eq else ne

pub record Term (n d i : ℕ) (ls : List Literal) : Type 0 where
  pub ds : Every (λ l. l.d ≡ d) ls
  pub relations : Every (λ l. l.relation ≡ due_relation i l) ls
  pub seats : OnceEach 1 n ls

abbrev pub Terms : ℕ → ℕ → ℕ → List (List Literal) → Type 0
Terms n d i [] = Unit {0}
Terms n d i (t ∷ ts) = Term n d i t × Terms n d (suc i) ts

pub record ExactlyOne (n : ℕ) (ts : List (List Literal)) : Type 0 where
  pub d : ℕ
  pub number : length ts ≡ n
  pub terms : Terms n d 1 ts

-- on a card of n seats
abbrev pub KeptIn : ℕ → Claim → Type 0
KeptIn n (state most v p) = v ≤ most
KeptIn n (everyone g) = Everyone n g.literals
KeptIn n (exactly p ts) = ExactlyOne n ts

-- ---- and their tests

abbrev pub is_everyone : ℕ → List Literal → Bool
is_everyone n [] = false
is_everyone n (l ∷ ls) = alike l ls && once 1 n (l ∷ ls)

abbrev pub each_due : ℕ → ℕ → List Literal → Bool
each_due d i [] = true
each_due d i (l ∷ ls) = (eqb l.d d && same_relation (due_relation i l) l.relation) && each_due d i ls

abbrev pub is_terms : ℕ → ℕ → ℕ → List (List Literal) → Bool
is_terms n d i [] = true
is_terms n d i (t ∷ ts) = (each_due d i t && once 1 n t) && is_terms n d (suc i) ts

abbrev pub literal_d : List Literal → ℕ
literal_d [] = 0
literal_d (l ∷ ls) = l.d

abbrev pub term_d : List (List Literal) → ℕ
term_d [] = 0
term_d (t ∷ ts) = literal_d t

abbrev pub is_exactly_one : ℕ → List (List Literal) → Bool
is_exactly_one n ts = eqb (length ts) n && is_terms n (term_d ts) 1 ts

abbrev pub fits : ℕ → Claim → Bool
fits n (state most v p) = leb v most
fits n (everyone g) = is_everyone n g.literals
fits n (exactly p ts) = is_exactly_one n ts

-- the first that does not fit
abbrev pub first_unfit : ℕ → List Claim → Verdict
first_unfit n [] = fine
first_unfit n (c ∷ cs) = when fits n c then first_unfit n cs else wrong (due c) (claim_at c)

-- ---- the question itself, once nothing is broken

abbrev pub first_relation : List Literal → Relation
first_relation [] = eq
first_relation (l ∷ ls) = l.relation

abbrev pub atom_in : Item → Atom
atom_in (a_group g) = of_all g.sign (first_relation g.literals) (literal_d g.literals)
atom_in (exactly_one p ts) = one_in (term_d ts)
atom_in (a_test x) = shared_at x.relation x.value.value

abbrev pub question_in : Formula Item → Question
question_in g = over atom_in g

-- ---- reading

-- a question's refusals have the numbers of a card's and twenty more
abbrev pub in_question : ℕ → ℕ
in_question r = 20 + r

abbrev pub judged_as : ℕ → Question → Verdict → Said Question
judged_as e q fine = says q
judged_as e q (wrong r p) = refused (in_question r) (place_of e p)

abbrev pub shaped_as : ℕ → ℕ → ℕ → ℕ → Result (Formula Item) → Said Question
shaped_as n k values e (ok g _) = judged_as e (question_in g) (first_unfit n (claims k (most_of values) g))
shaped_as n k values e (stop r p) = refused (in_question r) (place_of e p)

abbrev pub marked_as : ℕ → ℕ → ℕ → ℕ → List Placed → Option ℕ → Said Question
marked_as n k values e ms none = shaped_as n k values e (question (shares values) (at ms zero))
marked_as n k values e ms (some p) = refused (in_question outside_rules) p

unfoldable pub question_of : ℕ → ℕ → ℕ → List ℕ → Said Question
question_of n k values s =
    when leb (length s) card_bytes then marked_as n k values (length s) (marks_of s) (first_outside (marks_of s)) else refused (in_question too_long) 0

-- ---- what it is to be taken, and each refusal

pub record QuestionPastLimit (values : ℕ) (s : List ℕ) (p : ℕ) : Type 0 where
  pub clean : Clean s
  pub at : Place
  pub past : QuestionPast (shares values) (marks_of s) at
  pub place : place_of (length s) at ≡ p

pub record QuestionOutOfShape (values : ℕ) (s : List ℕ) (p : ℕ) : Type 0 where
  pub clean : Clean s
  pub at : Place
  pub unfit : QuestionUnfit (shares values) (marks_of s) at
  pub place : place_of (length s) at ≡ p
  pub earlier : (q : ℕ) → q < p → QuestionPastLimit values s q → ⊥

pub record QuestionShaped (values : ℕ) (s : List ℕ) : Type 0 where
  pub clean : Clean s
  pub shape : Formula Item
  pub said : QuestionSaid (shares values) (marks_of s) shape
  pub within : Every Within (counted_question (marks_of s) shape said)

-- a rule is broken at p to which refusal r is due, and all that stand earlier are kept
pub record QuestionBroken (n k values r : ℕ) (s : List ℕ) (p : ℕ) : Type 0 where
  pub shaped : QuestionShaped values s
  pub claim : Claim
  pub judged : In claim (claims k (most_of values) shaped.shape)
  pub number : due claim ≡ r
  pub broken : KeptIn n claim → ⊥
  pub place : place_of (length s) (claim_at claim) ≡ p
  pub earlier : (j : Claim) → In j (claims k (most_of values) shaped.shape) → place_of (length s) (claim_at j) < p → KeptIn n j

pub record QuestionAccepted (n k values : ℕ) (s : List ℕ) (q : Question) : Type 0 where
  pub shaped : QuestionShaped values s
  pub kept : Every (KeptIn n) (claims k (most_of values) shaped.shape)
  pub question : q ≡ question_in shaped.shape
