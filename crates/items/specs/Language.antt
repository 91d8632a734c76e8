-- The languages that one reader reads: formulas over items, of which each language has its own, on a card whose shared number has so many values
-- (document 02, 2026-10; 0 where none is declared). Assumes nothing.
use Rattle.std.specs.Prelude.{ℕ, Bool, true, false, List, [], ◌∷◌, leb}
use Rattle.card.specs.Refusals.{above_top}
use Rattle.card.specs.Text.{when◌then◌else◌}
use Rattle.card.specs.Card.{Leaf, one, shared_is, Formula, atom, neg, and, or, Guard}
use Rattle.card.specs.Formulas.{over}
use Rattle.marks_on_a_card.specs.Marks.{place_of}
use Rattle.languages.specs.declared.Language.{Language as Spoken}
use Rattle.reading.specs.Reader.{Place, Reader}
use Rattle.reading.specs.Guard.{test_next}
use Rattle.reading.specs.Group.{Literal, Tested, tested}
use Rattle.reading.specs.Judgements.{has, unless, judged_test}
use Rattle.late.specs.Values.{shares, most_of}
use Rattle.late.specs.Late.{Late, want_of, group_by, leaf_by, grouped, blamed, judge_all}
use Rattle.asking.specs.Question as asking
use Rattle.asking.specs.Asking.{Claim, state, everyone, exactly, claims_of, term_d}
use Rattle.term_literals.specs.Wanted.{want_of_terms}

-- What a bracket starts where it starts no expression: by which marks behind the bracket, how it is read from there (the place is the
-- bracket's), the leaf that it is among the nodes, and what is judged of it: with top state k, in a text that ends at place e.
pub record Language : Type 1 where
  pub Item : Type 0
  pub starts : Place → Bool
  pub item : Place → Reader Item
  pub leaf : Item → Leaf
  pub most : ℕ  -- that the shared number may be
  pub judged : (k e : ℕ) → Item → Late → Late

-- ---- a card's guards: groups, each started by a seat word, and tests of the shared number
abbrev pub cards : ℕ → Language
cards values = record {
  Item = Tested;
  starts = test_next (shares values);
  item = tested;
  leaf = leaf_by;
  most = most_of values;
  judged = λ k e x. judge_all e (judged_test k (most_of values) x);
}

-- ---- a question's: groups of everyone, exactly-ones ("2026-01"), and tests of the shared number

-- how many seats a group of everyone wants; one of the others is symmetric for no question
abbrev pub want_of_all : List Literal → ℕ
want_of_all ls = when has 1 ls then want_of ls else 0

abbrev pub judge_claim : ℕ → Claim → Late → Late
judge_claim e (state most v p) x = blamed (unless (leb v most) above_top) (place_of e p) x
judge_claim e (everyone g) x = grouped (want_of_all g.literals) (place_of e g.place) x
judge_claim e (exactly p ts) x = grouped (want_of_terms ts) (place_of e p) x

unfoldable pub claim_all : ℕ → List Claim → Late → Late
claim_all e [] x = x
claim_all e (c ∷ cs) x = claim_all e cs (judge_claim e c x)

abbrev pub item_by : asking.Item → Leaf
item_by (asking.a_group g) = group_by g.sign g.literals
item_by (asking.exactly_one p ts) = one (term_d ts)
item_by (asking.a_test x) = shared_is x.relation x.value.value

abbrev pub questions : ℕ → Language
questions values = record {
  Item = asking.Item;
  starts = asking.item_next (shares values);
  item = asking.item;
  leaf = item_by;
  most = most_of values;
  judged = λ k e x. claim_all e (claims_of k (most_of values) x);
}

-- ---- as the code tells it

abbrev pub language_by : Bool → ℕ → Language
language_by false values = cards values
language_by true values = questions values

abbrev pub language_of : Spoken → Language
language_of l = language_by l.question l.values

-- ---- a formula of any language

module _ (L : Language) where
  -- the formula as it lies among the nodes
  abbrev pub leaves_of : Formula L.Item → Guard
  leaves_of g = over L.leaf g

  -- what is judged of a formula: of each item, in the order of the text
  abbrev pub judged_of : (k e : ℕ) → Formula L.Item → Late → Late
  judged_of k e (atom a) x = L.judged k e a x
  judged_of k e (neg g) x = judged_of k e g x
  judged_of k e (and g h) x = judged_of k e h (judged_of k e g x)
  judged_of k e (or g h) x = judged_of k e h (judged_of k e g x)
